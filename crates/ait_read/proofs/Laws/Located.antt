-- WHEN 19 ANSWERS, AND WHEN A THING IS FOUND: the three cases of a call by place, for every such call at once.
use Prim.Native.Nat.{ℕ, ◌≤◌}
use mathlib.Core.Path.{◌≡◌, refl, sym, ap, ◌∙◌}
use mathlib.Core.Logic.{◌↔◌}
use mathlib.Core.List.{List}
use Rattle.std.proofs.Common.{Result, Some, None, Ok, Err}
use native.Mathlib.Decide.{dec_lt}
use native.Mathlib.Omega.{arith}
use lib.Dec.{lit<}
use Rattle.wire.specs.Items.{count}
use Rattle.wire.specs.Places.{Place, At, on_place, item_at, in_part, part_at}
use Rattle.wire.specs.Tests.{holds}
use Rattle.wire.proofs.Laws.Parts.{item_in, item-past}
use Rattle.wire.proofs.Laws.Tests.{clash}
use Rattle.section.specs.declared.Refusal.{Refusal}
use Rattle.section.specs.declared.Header.{Header}
use Rattle.section.specs.Header.{header_of}
use Rattle.section.specs.Answer.{Checked, number_of_checked, refused, on_checked}
use Rattle.ait_descriptors.specs.declared.Kind.{Kind}
use Rattle.ait_descriptors.specs.declared.Kind.TheVariants as kind
use Rattle.ait_descriptors.specs.Kinds.{size_of, count_at}
use Rattle.ait_descriptors.proofs.Laws.Kinds as kinds
use Rattle.ait_read.specs.declared.Scope.{Scope}
use Rattle.ait_descriptors.specs.declared.Repeated.{Repeated}
use Rattle.wire.specs.declared.Span.{Span}
use Rattle.ait_read.specs.Acceptance.{application_tests, table_judged, FormedTable}
use Rattle.ait_read.specs.Places.{loop_at, application_at, scope_at, descriptor_at, list_at, repeated_at, extensions_at, extension_at}
use Rattle.ait_descriptors.specs.Contents.{kind_of}
use Rattle.ait_read.specs.Answers.{lies, located_of, on_located, place_number, application_answer, descriptor_answer}
use Rattle.ait_read.specs.Answers.{item_answer, extension_answer, number_of_read}
use Rattle.ait_read.proofs.Laws.Acceptance.{located-none}
use Rattle.ait_read.proofs.Laws.Exact.{number_is, none_applies, refused-exactly, accepted-exactly}
use Rattle.ait_read.proofs.Laws.Numbers.{located-number, application-number, descriptor-number, item-number, extension-number}

-- an accepted section, with whatever header it was accepted, is well formed
pub accepted-good : (s : List ℕ) (h : Header) → table_judged s ≡ Ok h → FormedTable s
accepted-good s h e = (accepted-exactly s).0 (none_applies s (sym (number_is s) ∙ ap number_of_checked e))

-- 19 is none of the section's own refusals
not-19 : (s : List ℕ) → number_of_checked (table_judged s) ≡ 19 → ⊥
unfolding holds
not-19 s e = clash (holds 19 (application_tests s)) ((refused-exactly s 19 (lit< tt)).0 e).0 refl

module _ (s : List ℕ) (p : Place) where
  -- the section's own refusal; or 19; or a place in an accepted section
  pub located-cases : (P : Result Span Refusal → Type 0) → ((r : Refusal) → table_judged s ≡ Err r → P (Err r))
      → ((h : Header) → table_judged s ≡ Ok h → p ≡ None → P (Err (refused 19)))
      → ((h : Header) → table_judged s ≡ Ok h → (a n : ℕ) → p ≡ At a n → P (lies a n)) → P (located_of s p)
  unfolding located_of
  located-cases P bad none some = go (table_judged s) refl
    where
      at : (h : Header) → table_judged s ≡ Ok h → (q : Place) → p ≡ q → P (on_place q (Err (refused 19)) (λ a n. lies a n))
      at h e (Some p) f = some h e p.start p.size f
      at h e None f = none h e f

      go : (c : Checked) → table_judged s ≡ c → P (on_checked c (λ r. Err r) (λ h. on_place p (Err (refused 19)) (λ a n. lies a n)))
      go (Err r) e = bad r e
      go (Ok h) e = at h e p refl

  -- THE NUMBER OF A CALL BY PLACE IS 19 EXACTLY WHEN THE SECTION IS WELL FORMED AND THERE IS NO SUCH PLACE
  pub nineteen-exactly : (place_number s p ≡ 19) ↔ (FormedTable s × (p ≡ None))
  nineteen-exactly = (λ e. there (located-number s p ∙ e), back)
    where
      there : number_of_read (located_of s p) ≡ 19 → FormedTable s × (p ≡ None)
      there = located-cases (λ l. number_of_read l ≡ 19 → FormedTable s × (p ≡ None))
          (λ r e f. absurd (not-19 s (ap number_of_checked e ∙ f)))
          (λ h e f g. (accepted-good s h e, f))
          (λ h e a n f g. let z : ◌≡◌ {A = ℕ} 0 19 = g in absurd (omega arith))

      back : FormedTable s × (p ≡ None) → place_number s p ≡ 19
      back w = sym (located-number s p) ∙ ap number_of_read (sym (located-none s p (header_of s) ((accepted-exactly s).1 w.0) w.1))

  -- an answer that is no refusal is what was made of the place
  module _ {A : Type 0} (bad : Refusal → A) (good : ℕ → ℕ → A) (x : A) (b : (r : Refusal) → bad r ≡ x → ⊥) where
    pub found_at : on_located (located_of s p) bad good ≡ x → FormedTable s × ((a : ℕ) × (n : ℕ) × (p ≡ At a n) × (good a n ≡ x))
    found_at = located-cases (λ l. on_located l bad good ≡ x → FormedTable s × ((a : ℕ) × (n : ℕ) × (p ≡ At a n) × (good a n ≡ x)))
        (λ r e f. absurd (b r f))
        (λ h e f g. absurd (b (refused 19) g))
        (λ h e a n f g. (accepted-good s h e, (a, n, f, g)))

-- there is no item at a place exactly from the count on
pub nowhere-exactly : (k : Kind) (p : Place) (s : List ℕ) (i : ℕ) → (in_part (item_at (size_of k) i) p s ≡ None) ↔ (count_at k p s ≤ i)
unfolding count_at
nowhere-exactly k p s i = (there, item-past (size_of k) (kinds.kind_of_lem k) s i p)
  where
    there : in_part (item_at (size_of k) i) p s ≡ None → count (size_of k) (part_at p s) ≤ i
    there e = elim (dec_lt i (count (size_of k) (part_at p s))) [
      | yes l ↦
          let t = item_in (size_of k) (kinds.kind_of_lem k) s i p l in
          let z : ◌≡◌ {A = ℕ} 0 1 = cc in
          absurd (omega arith)
      | no l ↦ omega (arith, l)
    ]

-- SO THE CALLS BY PLACE ANSWER 19 EXACTLY WHEN the section is well formed and the place is not below the count
past-exactly : (s : List ℕ) (k : Kind) (p : Place) (i : ℕ) → (place_number s (in_part (item_at (size_of k) i) p s) ≡ 19) ↔ (FormedTable s × (count_at k p s ≤ i))
past-exactly s k p i =
    let x = nineteen-exactly s (in_part (item_at (size_of k) i) p s) in
    let y = nowhere-exactly k p s i in
    (λ e. let w = x.0 e in (w.0, y.0 w.1), λ w. x.1 (w.0, y.1 w.1))

module _ (s : List ℕ) where
  pub application_nineteen : (i : ℕ) → (number_of_read (application_answer s i) ≡ 19) ↔ (FormedTable s × (count_at kind.Application (loop_at s) s ≤ i))
  unfolding application_at
  application_nineteen i = rw (application-number s i) (past-exactly s kind.Application (loop_at s) i)

  pub descriptor_nineteen : (o : Scope) (j : ℕ) → (number_of_read (descriptor_answer s o j) ≡ 19) ↔ (FormedTable s × (count_at kind.Descriptor (scope_at o s) s ≤ j))
  unfolding descriptor_at
  descriptor_nineteen o j = rw (descriptor-number s o j) (past-exactly s kind.Descriptor (scope_at o s) j)

  pub item_nineteen : (o : Scope) (j : ℕ) (what : Repeated) (k : ℕ)
      → (number_of_read (item_answer s o j what k) ≡ 19) ↔ (FormedTable s × (count_at (kind_of what) (list_at o j what s) s ≤ k))
  unfolding repeated_at
  item_nineteen o j what k = rw (item-number s o j what k) (past-exactly s (kind_of what) (list_at o j what s) k)

  pub extension_nineteen : (o : Scope) (j k m : ℕ)
      → (number_of_read (extension_answer s o j k m) ≡ 19) ↔ (FormedTable s × (count_at kind.Extension (extensions_at o j k s) s ≤ m))
  unfolding extension_at
  extension_nineteen o j k m = rw (extension-number s o j k m) (past-exactly s kind.Extension (extensions_at o j k s) m)

-- a refusal carries no such thing
pub not-found : {A : Type 0} (r : Refusal) (x : A) → ◌≡◌ {A = Result A Refusal} (Err r) (Ok x) → ⊥
not-found r x e = let z : ◌≡◌ {A = ℕ} 0 1 = cc in absurd (omega arith)
