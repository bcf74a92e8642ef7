-- THE NUMBER OF EACH ANSWER: the section's own refusal, and then, for a call by place, 19.
use Prim.Native.Nat.{ℕ}
use mathlib.Core.Path.{◌≡◌, refl, sym, ap, ◌∙◌}
use mathlib.Core.Bool.{Bool, true, false, cond}
use mathlib.Core.List.{List, [], ◌∷◌}
use Rattle.std.proofs.Common.{Result, Some, None, Ok, Err}
use lib.Dec.{eqb}
use borrow.Author.Tests.{eqb-true, eqb-false}
use Rattle.wire.specs.declared.Span.{Span}
use Rattle.wire.specs.Places.{Place, on_place}
use Rattle.wire.specs.Tests.{first_met}
use Rattle.wire.proofs.Laws.Tests.{met_append}
use Rattle.section.specs.declared.Refusal.{Refusal}
use Rattle.section.specs.Answer.{Checked, number_of_checked, refused, on_checked}
use Rattle.ait_read.specs.declared.Scope.{Scope}
use Rattle.ait_descriptors.specs.declared.Repeated.{Repeated}
use Rattle.ait_read.specs.Acceptance.{application_tests, table_judged}
use Rattle.ait_read.specs.Places.{application_at, descriptor_at, repeated_at, extension_at}
use Rattle.ait_read.specs.Labels.{label_at}
use Rattle.ait_read.specs.Answers.{lies, located_of, on_located, read_table, read_answer, application_answer, descriptor_answer, item_answer}
use Rattle.ait_read.specs.Answers.{extension_answer, resolve_answer, number_of_read}
use Rattle.ait_read.specs.Answers.{read_number, place_number}
use Rattle.ait_read.proofs.Laws.Acceptance.{told}
use Rattle.ait_read.proofs.Laws.Exact.{rising, number_is, none_applies}

pub read_number_lem : (s : List ℕ) → number_of_read (read_answer s) ≡ read_number s
unfolding read_answer read_number
read_number_lem s = go (table_judged s) ∙ number_is s
  where
    go : (c : Checked) → number_of_read (on_checked c (λ r. Err r) (λ h. Ok (read_table h s))) ≡ number_of_checked c
    go (Err r) = refl
    go (Ok h) = refl

-- 19 after the section's own
last : (p : Place) → first_met ((19, on_place p true (λ a n. false)) ∷ []) ≡ on_place p 19 (λ a n. 0)
unfolding first_met
last (Some p) = refl
last None = refl

module _ (s : List ℕ) (p : Place) where
  joined : place_number s p ≡ cond (eqb (first_met (application_tests s)) 0) (on_place p 19 (λ a n. 0)) (first_met (application_tests s))
  unfolding place_number
  joined = met_append 0 (application_tests s) ((19, on_place p true (λ a n. false)) ∷ []) (rising s)
      ∙ ap (λ (n : ℕ). cond (eqb (first_met (application_tests s)) 0) n (first_met (application_tests s))) (last p)

  pub located-number : number_of_read (located_of s p) ≡ place_number s p
  unfolding located_of
  located-number = go (eqb (first_met (application_tests s)) 0) refl ∙ sym joined
    where
      good : (q : Place) → number_of_read (on_place q (Err (refused 19)) (λ a n. lies a n)) ≡ on_place q 19 (λ a n. 0)
      good (Some p) = refl
      good None = refl

      bad : (first_met (application_tests s) ≡ 0 → ⊥) → (c : Checked) → table_judged s ≡ c
          → number_of_read (on_checked c (λ r. Err r) (λ h. on_place p (Err (refused 19)) (λ a n. lies a n))) ≡ first_met (application_tests s)
      bad z (Err r) e = sym (ap number_of_checked e) ∙ number_is s
      bad z (Ok h) e = absurd (z (sym (number_is s) ∙ ap number_of_checked e))

      go : (t : Bool) → eqb (first_met (application_tests s)) 0 ≡ t → number_of_read (located_of s p) ≡ cond t (on_place p 19 (λ a n. 0)) (first_met (application_tests s))
      go true e = rw (none_applies s (eqb-true _ _ e)) (good p)
      go false e = bad (eqb-false _ _ e) (table_judged s) refl

-- an answer that passes a refusal on as it came has the number of the place
by_place : {A : Type 0} (good : ℕ → ℕ → A) (s : List ℕ) (p : Place) → number_of_read (on_located (located_of s p) (λ r. Err r) (λ a n. Ok (good a n))) ≡ place_number s p
by_place good s p = go (located_of s p) ∙ located-number s p
  where
    go : (l : Result Span Refusal) → number_of_read (on_located l (λ r. Err r) (λ a n. Ok (good a n))) ≡ number_of_read l
    go (Err r) = refl
    go (Ok q) = refl

-- what a call by place answers, with its number: where its finder answered p, which is q, and `locate` answered l
module _ {A : Type 0} (good : ℕ → ℕ → A) (s : List ℕ) (p q : Place) (l : Result Span Refusal) (e : p ≡ q) (f : l ≡ located_of s p) where
  abbrev pub Answered : Result A Refusal → Type 0
  Answered r = (r ≡ on_located (located_of s q) (λ r. Err r) (λ a n. Ok (good a n))) × (number_of_read r ≡ place_number s q)

  numbered : (r : Result A Refusal) → r ≡ on_located (located_of s q) (λ r. Err r) (λ a n. Ok (good a n)) → Answered r
  numbered r e = (e, ap number_of_read e ∙ by_place good s q)

  pub refused_there : (r : Refusal) → l ≡ Err r → Answered (Err r)
  refused_there r g = numbered (Err r) (rw (told s p q l (Err r) e f g))

  pub made_there : (at : Span) → l ≡ Ok at → (x : A) → x ≡ good at.start at.size → Answered (Ok x)
  made_there at g x h = numbered (Ok x) (rw (told s p q l (Ok at) e f g) (ap Ok h))

-- THE CALLS BY PLACE
module _ (s : List ℕ) where
  pub application-number : (i : ℕ) → number_of_read (application_answer s i) ≡ place_number s (application_at i s)
  unfolding application_answer
  application-number i = by_place _ s (application_at i s)

  pub descriptor-number : (o : Scope) (j : ℕ) → number_of_read (descriptor_answer s o j) ≡ place_number s (descriptor_at o j s)
  unfolding descriptor_answer
  descriptor-number o j = by_place _ s (descriptor_at o j s)

  pub item-number : (o : Scope) (j : ℕ) (what : Repeated) (k : ℕ) → number_of_read (item_answer s o j what k) ≡ place_number s (repeated_at o j what k s)
  unfolding item_answer
  item-number o j what k = by_place _ s (repeated_at o j what k s)

  pub extension-number : (o : Scope) (j k m : ℕ) → number_of_read (extension_answer s o j k m) ≡ place_number s (extension_at o j k m s)
  unfolding extension_answer
  extension-number o j k m = by_place _ s (extension_at o j k m s)

  pub resolve-number : (i k : ℕ) → number_of_read (resolve_answer s i k) ≡ place_number s (label_at i k s)
  unfolding resolve_answer
  resolve-number i k = by_place _ s (label_at i k s)
