-- Each kind of item is a kind, and what code reads of each header.
use Prim.Native.Nat.{ℕ, zero, suc, ◌+◌, ◌≤◌, ◌<◌}
use mathlib.Core.Path.{◌≡◌, refl, sym, ap, ◌∙◌}
use mathlib.Core.Bool.{Bool, true, false, cond}
use mathlib.Core.List.{List, [], ◌∷◌}
use Rattle.std.proofs.Common.{Option, Some, None, IfSome}
use native.Mathlib.Omega.{arith}
use lib.Dec.{leb}
use lib.ListN.{length, take, drop}
use borrow.Author.Tests.{le-leb, lt-leb, leb-true}
use Rattle.wire.specs.Fields.{byte_at, twelve_at, bits}
use Rattle.wire.proofs.Laws.Fields.{field_take}
use Rattle.wire.specs.Items.{Size, IsKind, items, sized, count, number, end_of, end_at}
use Rattle.wire.proofs.Laws.Frames.{framed_kind, framed-least, same_byte, same_length}
use Rattle.wire.proofs.Laws.Sizes.{sized-some, sized-has}
use Rattle.wire.proofs.Laws.Loops.{item-fits}
use Rattle.wire.proofs.Laws.Counted.{counted-fits, counted-own, counted-all, ends-after}
use Rattle.ait_descriptors.specs.declared.Kind.{Kind}
use Rattle.ait_descriptors.specs.declared.Kind.TheVariants.{Application, Descriptor, Profile, Label, Name, Base, Extension, Identifier}
use Rattle.ait_descriptors.specs.Descriptor.{descriptor}
use Rattle.ait_descriptors.specs.Kinds.{application, size_of}
use Rattle.ait_descriptors.specs.Tag02.{extension, extensions_start, extension_count, base}

-- an end that is not 0, as a call answers it
end-sized : (n at : ℕ) (is : List (List ℕ)) → 0 < at → end_at n at is ≡ sized (end_of n at is)
unfolding end_at end_of
end-sized zero at is h = sized-some at h
end-sized (suc n) at [] h = refl
end-sized (suc n) at (x ∷ is) h = end-sized n (at + length x) is (omega arith)

-- a base with its extensions: what the first bytes say, then a counted list
module _ (xs : List ℕ) where
  abbrev ends : ℕ
  ends = end_of (extension_count xs) (extensions_start xs) (items extension (drop (extensions_start xs) xs))

  base_has : (base xs ≡ 0 → ⊥) → (extensions_start xs ≤ length xs) × (base xs ≡ ends)
  unfolding base
  base_has z = go (leb (extensions_start xs) (length xs)) refl z
    where
      go : (t : Bool) → leb (extensions_start xs) (length xs) ≡ t → (cond t ends 0 ≡ 0 → ⊥) → (extensions_start xs ≤ length xs) × (cond t ends 0 ≡ ends)
      go true e z = (leb-true (extensions_start xs) (length xs) e, refl)
      go false e z = absurd (z refl)

  pub base-is : extensions_start xs ≤ length xs → base xs ≡ ends
  unfolding base
  base-is h = rw (le-leb (extensions_start xs) (length xs) h)

  -- as code measures it
  pub base-at : extensions_start xs ≤ length xs → end_at (extension_count xs) (extensions_start xs) (items extension (drop (extensions_start xs) xs)) ≡ sized (base xs)
  base-at h = end-sized (extension_count xs) (extensions_start xs) (items extension (drop (extensions_start xs) xs)) (omega arith) ∙ ap sized (sym (base-is h))

  pub base-none : length xs < extensions_start xs → base xs ≡ 0
  unfolding base
  base-none h = rw (lt-leb (extensions_start xs) (length xs) h)

-- an item that a call measured ends within the list
pub within : (size : Size) → IsKind size → (s : List ℕ) (i : ℕ) (r : Option ℕ) → r ≡ sized (size (drop i s)) → i ≤ length s → IfSome r (λ n. i + n ≤ length s)
within size kind s i None e h = tt
within size kind s i (Some n) e h = item-fits size kind s i n (sized-has n (size (drop i s)) e).0 h

pub extension_kind : IsKind extension
extension_kind = framed_kind 1 (λ h. byte_at h 0)

base_kind : IsKind base
base_kind = record { fits = fits; own = own }
  where
    fits : (xs : List ℕ) → base xs ≤ length xs
    fits xs = go (base xs) refl
      where
        go : (n : ℕ) → base xs ≡ n → base xs ≤ length xs
        go zero e = omega arith
        go (suc n) e =
            let q = base_has xs (λ z. omega (arith, z, e)) in
            omega (arith, counted-fits extension extension_kind (extension_count xs) (extensions_start xs) xs q.0)

    own : (xs ys : List ℕ) → 0 < base xs → take (base xs) ys ≡ take (base xs) xs → base ys ≡ base xs
    own xs ys p e =
        let q = base_has xs (λ z. omega (arith, z, p)) in
        let l : extensions_start xs ≤ base xs = rw q.1 (ends-after (extension_count xs) (extensions_start xs) (items extension (drop (extensions_start xs) xs)) (rw q.1 at p)) in
        let f : base xs ≤ length xs = fits xs in
        let b₀ : byte_at ys 0 ≡ byte_at xs 0 = same_byte (base xs) xs ys e 0 (omega arith) in
        let b₁ : byte_at ys (1 + byte_at xs 0) ≡ extension_count xs = same_byte (base xs) xs ys e (1 + byte_at xs 0) (omega arith) in
        let k = same_length (base xs) xs ys e f in
        let c = counted-own extension extension_kind (extension_count xs) (extensions_start xs) xs ys q.0 (rw q.1 at p) (rw q.1 at e) in
        base-is ys (rw b₀ (omega arith)) ∙ rw (b₀, b₁) (c ∙ sym q.1)

pub application_kind : IsKind application
application_kind = framed_kind 9 (λ h. twelve_at h 7)

pub descriptor_kind : IsKind descriptor
descriptor_kind = framed_kind 2 (λ h. byte_at h 1)

pub kind_of_lem : (kind : Kind) → IsKind (size_of kind)
unfolding size_of
kind_of_lem Application = application_kind
kind_of_lem Descriptor = descriptor_kind
kind_of_lem Profile = framed_kind 5 _
kind_of_lem Label = framed_kind 1 _
kind_of_lem Name = framed_kind 4 _
kind_of_lem Base = base_kind
kind_of_lem Extension = extension_kind
kind_of_lem Identifier = framed_kind 7 _

-- an application has its nine bytes
pub application-least : (xs : List ℕ) → (application xs ≡ 0 → ⊥) → 9 ≤ application xs
application-least xs z = framed-least 9 (λ h. twelve_at h 7) xs z

-- what code reads of a header is what the kind's definition says
module _ (s : List ℕ) where
  pub said_twelve : (h i : ℕ) → i + 2 ≤ h → twelve_at (take h s) i ≡ twelve_at s i
  said_twelve h i l = ap (bits 0 12) (field_take 2 s h i l)

-- the size of a kind that a match has told
pub kind-is : (k kind : Kind) (s : List ℕ) → kind ≡ k → size_of k s ≡ size_of kind s
kind-is k kind s e = ap (λ (x : Kind). size_of x s) (sym e)

-- a whole base: its text and the count fit, and its extensions are as many as it says
module _ (x : List ℕ) (w : base x ≡ length x) (p : 0 < length x) where
  pub base-text : extensions_start x ≤ length x
  base-text = (base_has x (λ z. omega (arith, z))).0

  pub base-count : count extension (drop (extensions_start x) x) ≡ extension_count x
  base-count =
      let q = base_has x (λ z. omega (arith, z)) in
      counted-all extension extension_kind (extension_count x) (extensions_start x) x q.0 p (sym q.1 ∙ w)

-- how many there are is how many meet a test that all meet
all_met : (is : List (List ℕ)) → number (λ (x : List ℕ). true) is ≡ length is
unfolding number
all_met [] = refl
all_met (x ∷ is) = ap suc (all_met is)

pub count-all : (size : Size) (s : List ℕ) → number (λ (x : List ℕ). true) (items size s) ≡ count size s
unfolding count
count-all size s = all_met (items size s)
