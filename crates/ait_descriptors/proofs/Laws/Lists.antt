-- The lists within a descriptor: what each finder finds lies in it; and what the code cites.
use Prim.Native.Nat.{ℕ, ◌+◌, ◌-◌, ◌≤◌, ◌<◌}
use mathlib.Core.Path.{◌≡◌, sym, ap, ◌∙◌}
use mathlib.Core.Bool.{Bool, true, false, cond}
use mathlib.Core.List.{List, []}
use Rattle.std.proofs.Common.{None}
use native.Mathlib.Omega.{arith}
use lib.Dec.{eqb}
use lib.ListN.{length, take, drop, length-drop, drop_of_length-le}
use lib.Seq.{take_all, take-nil}
use borrow.Author.Tests.{eq-eqb, ne_eqb}
use Rattle.wire.specs.Fields.{byte_at, sixteen_at}
use Rattle.wire.specs.Items.{count, items, items_in}
use Rattle.wire.specs.Places.{Place, At, Finder, after, bytes, Inside, part_at}
use Rattle.wire.proofs.Laws.Finders.{Sound, sound-after, sound-bytes}
use Rattle.ait_descriptors.specs.declared.Kind.{Kind}
use Rattle.ait_descriptors.specs.declared.Repeated.{Repeated}
use Rattle.ait_descriptors.specs.declared.Repeated.TheVariants.{Profiles, Labels, Names, Bases, Identifiers}
use Rattle.ait_descriptors.specs.Descriptor.{tag_of, tagged_rest}
use Rattle.ait_descriptors.specs.Tag00.{profiles_in, labels_in}
use Rattle.ait_descriptors.specs.Tag01.{names_in}
use Rattle.ait_descriptors.specs.Tag02.{bases_in}
use Rattle.ait_descriptors.specs.Tag05.{identifiers_in}
use Rattle.ait_descriptors.specs.Kinds.{size_of, count_at}
use Rattle.ait_descriptors.specs.Contents.{list_in, kind_of}

-- a place that a sound finder gave
pub inside_of : (f : Finder) → Sound f → (p : Place) (s : List ℕ) → p ≡ f s → Inside p s
inside_of f sf p s e a n h = sf s a n (sym e ∙ h)

-- a finder behind a test
inside_if : (t : Bool) (p : Place) (s : List ℕ) → Inside p s → Inside (cond t p None) s
inside_if true p s i a n h = i a n h
inside_if false p s i a n h = let z : ◌≡◌ {A = ℕ} 0 1 = cc in absurd (omega arith)

sound_tagged : (t a : ℕ) → Sound (tagged_rest t a)
unfolding tagged_rest
sound_tagged t a s = inside_if (eqb (tag_of s) t) (after a s) s (sound-after a s)

pub sound-list : (what : Repeated) → Sound (list_in what)
unfolding list_in profiles_in labels_in names_in bases_in identifiers_in
sound-list Profiles s = inside_if (eqb (tag_of s) 0x00) (bytes 3 (byte_at s 2) s) s (sound-bytes 3 (byte_at s 2) s)
sound-list Labels s = sound_tagged 0x00 (5 + byte_at s 2) s
sound-list Names s = sound_tagged 0x01 2 s
sound-list Bases s = inside_if (eqb (sixteen_at s 2) 3) (tagged_rest 0x02 5 s) s (sound_tagged 0x02 5 s)
sound-list Identifiers s = sound_tagged 0x05 2 s

-- what repeats in a descriptor, from the facts that code learns
module _ (d : List ℕ) where
  pub tagged-other : (t a : ℕ) → (tag_of d ≡ t → ⊥) → None ≡ tagged_rest t a d
  unfolding tagged_rest
  tagged-other t a n = rw (ne_eqb (tag_of d) t n)

  pub tagged_is : (t a : ℕ) → tag_of d ≡ t → after a d ≡ tagged_rest t a d
  unfolding tagged_rest
  tagged_is t a e = rw (eq-eqb (tag_of d) t e)

  pub bases-other : (sixteen_at d 2 ≡ 3 → ⊥) → None ≡ bases_in d
  unfolding bases_in
  bases-other n = rw (ne_eqb (sixteen_at d 2) 3 n)

  pub bases-is : sixteen_at d 2 ≡ 3 → tagged_rest 0x02 5 d ≡ bases_in d
  unfolding bases_in
  bases-is e = rw (eq-eqb (sixteen_at d 2) 3 e)

  pub profiles-other : (tag_of d ≡ 0x00 → ⊥) → None ≡ profiles_in d
  unfolding profiles_in
  profiles-other n = rw (ne_eqb (tag_of d) 0 n)

  pub profiles-is : tag_of d ≡ 0x00 → bytes 3 (byte_at d 2) d ≡ profiles_in d
  unfolding profiles_in
  profiles-is e = rw (eq-eqb (tag_of d) 0 e)

  pub list-is : (w what : Repeated) → what ≡ w → list_in w d ≡ list_in what d
  list-is w what e = ap (λ (x : Repeated). list_in x d) (sym e)

pub kind-is : (w what : Repeated) → what ≡ w → kind_of w ≡ kind_of what
kind-is w what e = ap kind_of (sym e)

-- a count where the place is known
pub count_of : (k : Kind) (p q : Place) (s : List ℕ) → p ≡ q → count_at k p s ≡ count (size_of k) (part_at q s)
unfolding count_at
count_of k p q s e = ap (λ (r : Place). count (size_of k) (part_at r s)) e

-- a count at a place
module _ (k : Kind) (p : Place) (s : List ℕ) where
  pub counted_none : p ≡ None → 0 ≡ count_at k p s
  unfolding count_at count part_at items items_in
  counted_none e = ap (λ (q : Place). count_at k q s) (sym e)

  module _ (a n : ℕ) (e : p ≡ At a n) where
    -- past the end, up to the end, and within
    pub counted-past : length s < a → 0 ≡ count_at k p s
    unfolding count_at count part_at items items_in
    counted-past l =
        let past : length s ≤ a = omega (arith, l) in
        let t : take n (drop a s) ≡ [] = ap (take n) (drop_of_length-le s past) ∙ take-nil n in
        ap (λ (x : List ℕ). count (size_of k) x) (sym t) ∙ ap (λ (q : Place). count_at k q s) (sym e)

    pub counted_end : length s - a < n → count (size_of k) (drop a s) ≡ count_at k p s
    unfolding count_at part_at
    counted_end l = ap (count (size_of k)) (sym (take_all n (drop a s) (rw length-drop (omega arith)))) ∙ ap (λ (q : Place). count_at k q s) (sym e)

    pub counted-at : count (size_of k) (take n (drop a s)) ≡ count_at k p s
    unfolding count_at part_at
    counted-at = ap (λ (q : Place). count_at k q s) (sym e)
