-- A refusal of an application section is its number and its place: 02, §9, "every caller passes the place through". The section check's is passed on as it came, and the others
-- have none.
use Prim.Native.Nat.{ℕ, ◌<◌}
use mathlib.Core.Path.{◌≡◌, refl}
use mathlib.Core.Bool.{Bool, true, false, cond}
use mathlib.Core.List.{List}
use Rattle.std.proofs.Common.{Ok, Err}
use native.Mathlib.Omega.{arith}
use lib.Dec.{eqb, lit≤, lit<}
use borrow.Author.Tests.{eqb-false}
use Rattle.wire.specs.Places.{Place}
use Rattle.wire.proofs.Laws.Tests.{met-within}
use Rattle.section.specs.declared.Rules.TheVariants.{Application}
use Rattle.section.specs.declared.Refusal.{Refusal}
use Rattle.section.specs.declared.Header.{Header}
use Rattle.section.specs.Header.{body_of}
use Rattle.section.specs.Answer.{Checked, refused, Told, checked_of, on_checked}
use Rattle.section.proofs.Laws.Places.{checked-told, above-told}
use Rattle.ait_descriptors.specs.declared.Repeated.{Repeated}
use Rattle.ait_body.specs.Body.{body_tests, body_refusal}
use Rattle.ait_read.specs.declared.Scope.{Scope}
use Rattle.ait_read.specs.Acceptance.{table_judged_by, table_judged}
use Rattle.ait_read.specs.Answers.{located_of, on_located, read_table, read_answer, application_answer, descriptor_answer, item_answer, extension_answer, resolve_answer}
use Rattle.ait_read.specs.Places.{application_at, descriptor_at, repeated_at, extension_at}
use Rattle.ait_read.specs.Labels.{label_at}
use Rattle.ait_read.proofs.Laws.Located.{located-cases}

module _ (s : List ℕ) (r : Refusal) where
  -- the body's own are 7 and 18
  body-above : (body_refusal (body_of s) ≡ 0 → ⊥) → 6 < body_refusal (body_of s)
  unfolding body_refusal
  body-above n = let w = met-within 7 18 (body_tests (body_of s)) (lit≤ tt, lit≤ tt, (lit≤ tt, lit≤ tt, tt)) n in omega (arith, w.0)

  judged-told : table_judged s ≡ Err r → Told Application s r
  unfolding table_judged_by
  judged-told e = go (checked_of Application s) refl e
    where
      body : (h : Header) (t : Bool) → eqb (body_refusal (body_of s)) 0 ≡ t → cond t (Ok h) (Err (refused (body_refusal (body_of s)))) ≡ Err r → Told Application s r
      body h true f e = let z : ◌≡◌ {A = ℕ} 0 1 = cc in absurd (omega arith)
      body h false f e = let q : refused (body_refusal (body_of s)) ≡ r = cc in rw (← q) (above-told Application s _ (body-above (eqb-false _ _ f)))

      go : (c : Checked) → checked_of Application s ≡ c
          → on_checked c (λ r. Err r) (λ h. cond (eqb (body_refusal (body_of s)) 0) (Ok h) (Err (refused (body_refusal (body_of s))))) ≡ Err r → Told Application s r
      go (Err q) f e = let g : q ≡ r = cc in rw (← g) (checked-told Application s q f)
      go (Ok h) f e = body h (eqb (body_refusal (body_of s)) 0) refl e

  -- an answer that passes a refusal on as it came
  by_place : {A : Type 0} (good : ℕ → ℕ → A) (p : Place) → on_located (located_of s p) (λ q. Err q) (λ a n. Ok (good a n)) ≡ Err r → Told Application s r
  by_place good p = located-cases s p (λ l. on_located l (λ q. Err q) (λ a n. Ok (good a n)) ≡ Err r → Told Application s r)
      (λ q f e. let g : q ≡ r = cc in judged-told (rw (← g) f))
      (λ h f n e. let g : refused 19 ≡ r = cc in rw (← g) (above-told Application s 19 (lit< tt)))
      (λ h f a n q e. let z : ◌≡◌ {A = ℕ} 0 1 = cc in absurd (omega arith))

  -- EVERY CALL
  pub read_told : read_answer s ≡ Err r → Told Application s r
  unfolding read_answer
  read_told e = go (table_judged s) refl e
    where
      go : (c : Checked) → table_judged s ≡ c → on_checked c (λ r. Err r) (λ h. Ok (read_table h s)) ≡ Err r → Told Application s r
      go (Err q) f e = let g : q ≡ r = cc in judged-told (rw (← g) f)
      go (Ok h) f e = let z : ◌≡◌ {A = ℕ} 0 1 = cc in absurd (omega arith)

  pub application-told : (i : ℕ) → application_answer s i ≡ Err r → Told Application s r
  unfolding application_answer
  application-told i e = by_place _ (application_at i s) e

  pub descriptor-told : (o : Scope) (j : ℕ) → descriptor_answer s o j ≡ Err r → Told Application s r
  unfolding descriptor_answer
  descriptor-told o j e = by_place _ (descriptor_at o j s) e

  pub item-told : (o : Scope) (j : ℕ) (what : Repeated) (k : ℕ) → item_answer s o j what k ≡ Err r → Told Application s r
  unfolding item_answer
  item-told o j what k e = by_place _ (repeated_at o j what k s) e

  pub extension-told : (o : Scope) (j k m : ℕ) → extension_answer s o j k m ≡ Err r → Told Application s r
  unfolding extension_answer
  extension-told o j k m e = by_place _ (extension_at o j k m s) e

  pub resolve-told : (i k : ℕ) → resolve_answer s i k ≡ Err r → Told Application s r
  unfolding resolve_answer
  resolve-told i k e = by_place _ (label_at i k s) e
