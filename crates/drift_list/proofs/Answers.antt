-- The answers of the reader's calls, by whether the list is accepted; and what the walk has to do with them.
use Prim.Native.Nat.{ℕ, ◌+◌, ◌*◌, ◌<◌, ◌≤◌}
use mathlib.Core.Path.{◌≡◌, refl, sym, ap, ◌∙◌}
use mathlib.Core.Logic.{◌↔◌}
use mathlib.Core.Bool.{Bool, true, false, cond}
use mathlib.Core.List.{List, []}
use native.Mathlib.Omega.{arith}
use lib.Dec.{eqb, ltb}
use lib.ListN.{length}
use borrow.Author.Tests.{eq-eqb, ne_eqb, eqb-true, eqb-false, lt-ltb, le-ltb, ltb-true, ltb-false}
use Rattle.drift_list.specs.declared.Fix.{Fix}
use Rattle.std.proofs.Common.{Result, Ok, Err}
use Rattle.wire.specs.Outcomes.{answered}
use Rattle.wire.proofs.Laws.Outcomes.{is_refused, refused_by_lem, not_refused}
use Rattle.wire.specs.Tests.{first_met}
use Rattle.drift_list.specs.Values.{fix_of, fix_tests, buoy_before, refusal_at}
use Rattle.drift_list.specs.Reading.{fields_from, spare_from, count_of, fix_at, read_refusal}
use Rattle.drift_list.specs.Answers.{heading_of, list_answer, fix_refusal, fix_answer, walk_refusal, walk_answer}
use Rattle.drift_list.proofs.Exact.{refused_at, by_length, accepted-exactly, exact_answers, inexact_answers, fault-within}
use Rattle.drift_list.proofs.Laws.Words.{part, part_record, part-spare}

-- an answer by the number that decides it
pub refused-with : {A : Type 0} (n m : ℕ) (a : A) → n ≡ m → (n ≡ 0 → ⊥) → Err n ≡ answered m a
refused-with n m a e z = ap Err e ∙ sym (is_refused m a (λ f. z (e ∙ f)))

pub taken-with : {A : Type 0} (m : ℕ) (a : A) → m ≡ 0 → Ok a ≡ answered m a
taken-with m a z = ap (λ (n : ℕ). answered n a) (sym z)

-- an answer that is passed on, and one that lets go on
pub passed-on : {A B : Type 0} (n m : ℕ) (a : A) (b : B) → Err n ≡ answered m a → Err n ≡ answered m b
passed-on n m a b e = let w = refused_by_lem n m a e in refused-with n m b w.0 (λ z. w.1 (sym w.0 ∙ z))

pub let-on : {A B : Type 0} (m : ℕ) (a x : A) (b : B) → Ok x ≡ answered m a → Ok b ≡ answered m b
let-on m a x b e = taken-with m b (not_refused m a x e)

-- what is asked of record k in a part of the list
pub asked : (s : List ℕ) (k last n : ℕ) → last ≡ buoy_before (fix_at s) k → n ≡ first_met (fix_tests last (fields_from (part s k) 0) (spare_from (part s k) 0)) → n ≡ refused_at s k
unfolding refusal_at
asked s k last n b e = e ∙ (λ i. first_met (fix_tests (b i) (part_record s k i) (part-spare s k i)))

module _ (s : List ℕ) (n : ℕ) (e : n ≡ read_refusal s) where
  pub list-refused : (n ≡ 0 → ⊥) → Err n ≡ list_answer s
  unfolding list_answer
  list-refused z = refused-with n (read_refusal s) _ e z

  pub list-taken : n ≡ 0 → Ok (heading_of s) ≡ list_answer s
  unfolding list_answer
  list-taken z = taken-with (read_refusal s) (heading_of s) (sym e ∙ z)

  pub fix-refused : (k : ℕ) → (n ≡ 0 → ⊥) → Err n ≡ fix_answer s k
  unfolding fix_answer fix_refusal
  fix-refused k z = refused-with n (fix_refusal s k) _ (e ∙ sym (rw (ne_eqb (read_refusal s) 0 (λ f. z (e ∙ f))))) z

  pub fix-past : (k : ℕ) → n ≡ 0 → count_of s ≤ k → Err 19 ≡ fix_answer s k
  unfolding fix_answer fix_refusal
  fix-past k z h = refused-with 19 (fix_refusal s k) _ (sym (rw (eq-eqb (read_refusal s) 0 (sym e ∙ z), le-ltb k (count_of s) h))) (λ x. omega (arith, x))

  pub fix-there : (k : ℕ) → n ≡ 0 → k < count_of s → Ok (fix_of (fix_at s k)) ≡ fix_answer s k
  unfolding fix_answer fix_refusal
  fix-there k z h = taken-with (fix_refusal s k) _ (rw (eq-eqb (read_refusal s) 0 (sym e ∙ z), lt-ltb k (count_of s) h))

  -- a record of an accepted list lies in it
  pub place-within : (k : ℕ) → n ≡ 0 → k < count_of s → 4 + 12 * k ≤ length s
  place-within k z h = let x = ((accepted-exactly s).0 (sym e ∙ z)).exact in omega arith

-- THE WALK'S REFUSALS, way by way
module _ (s : List ℕ) (k : ℕ) where
  pub walk-30 : (length s ≡ 4 + 12 * count_of s → ⊥) → walk_refusal s k ≡ 30
  unfolding walk_refusal
  walk-30 n = rw (ne_eqb (length s) (4 + 12 * count_of s) n)

  pub walk-19 : length s ≡ 4 + 12 * count_of s → count_of s ≤ k → walk_refusal s k ≡ 19
  unfolding walk_refusal
  walk-19 e h = rw (eq-eqb (length s) (4 + 12 * count_of s) e, le-ltb k (count_of s) h)

  pub walk-own : length s ≡ 4 + 12 * count_of s → k < count_of s → walk_refusal s k ≡ refused_at s k
  unfolding walk_refusal
  walk-own e h = rw (eq-eqb (length s) (4 + 12 * count_of s) e, lt-ltb k (count_of s) h)

  pub walk_refused : (n : ℕ) → n ≡ walk_refusal s k → (n ≡ 0 → ⊥) → Err n ≡ walk_answer s k
  unfolding walk_answer
  walk_refused n e z = refused-with n (walk_refusal s k) _ e z

  pub walk-there : walk_refusal s k ≡ 0 → Ok (fix_of (fix_at s k)) ≡ walk_answer s k
  unfolding walk_answer
  walk-there z = taken-with (walk_refusal s k) _ z

  -- what it hands out lies in the list
  pub walk-within : walk_refusal s k ≡ 0 → (length s ≡ 4 + 12 * count_of s) × (k < count_of s)
  walk-within z = by_length s (λ x. (x, go x (ltb k (count_of s)) refl)) (λ n. let r = walk-30 n in absurd (omega (arith, r, z)))
    where
      go : length s ≡ 4 + 12 * count_of s → (t : Bool) → ltb k (count_of s) ≡ t → k < count_of s
      go x true e = ltb-true k (count_of s) e
      go x false e = let r = walk-19 x (ltb-false k (count_of s) e) in absurd (omega (arith, r, z))

-- an answer that is a record is no refusal, and no other record
pub found-not-refused : (f : Fix) (n : ℕ) → ◌≡◌ {A = Result Fix ℕ} (Ok f) (Err n) → ⊥
found-not-refused f n e = cc

pub found-same : (f g : Fix) → ◌≡◌ {A = Result Fix ℕ} (Ok f) (Ok g) → f ≡ g
found-same f g e = cc

-- a record that was found is one of an accepted list
pub found-told : (s : List ℕ) (k : ℕ) (f : Fix) → fix_answer s k ≡ Ok f → (read_refusal s ≡ 0) × (k < count_of s) × (f ≡ fix_of (fix_at s k))
unfolding fix_answer fix_refusal
found-told s k f e =
    let z = not_refused (fix_refusal s k) _ f (sym e) in
    let w = go (eqb (read_refusal s) 0) (ltb k (count_of s)) refl refl z in
    (w.0, w.1, found-same f (fix_of (fix_at s k)) (sym e ∙ sym (fix-there s (read_refusal s) refl k w.0 w.1)))
  where
    go : (t u : Bool) → eqb (read_refusal s) 0 ≡ t → ltb k (count_of s) ≡ u
        → cond t (cond u 0 19) (read_refusal s) ≡ 0 → (read_refusal s ≡ 0) × (k < count_of s)
    go true true t u e = (eqb-true (read_refusal s) 0 t, ltb-true k (count_of s) u)
    go true false t u e = absurd (omega (arith, e))
    go false u t v e = absurd (eqb-false (read_refusal s) 0 t e)

-- 19 exactly past the last record of an accepted list
not-19 : (s : List ℕ) → read_refusal s ≡ 19 → ⊥
not-19 s e = by_length s
    (λ x. let r = exact_answers s x in let w = (fault-within s (λ z. omega (arith, r, e, z))).0 in omega (arith, r, e, w))
    (λ n. let r = inexact_answers s n in omega (arith, r, e))

pub past-exactly : (s : List ℕ) (k : ℕ) → (fix_answer s k ≡ Err 19) ↔ ((read_refusal s ≡ 0) × (count_of s ≤ k))
unfolding fix_answer fix_refusal
past-exactly s k = (λ e. there (eqb (read_refusal s) 0) (ltb k (count_of s)) refl refl (refused_by_lem 19 (fix_refusal s k) _ (sym e)).0, λ w. sym (fix-past s (read_refusal s) refl k w.0 w.1))
  where
    there : (t u : Bool) → eqb (read_refusal s) 0 ≡ t → ltb k (count_of s) ≡ u
        → 19 ≡ cond t (cond u 0 19) (read_refusal s) → (read_refusal s ≡ 0) × (count_of s ≤ k)
    there true true t u e = absurd (omega (arith, e))
    there true false t u e = (eqb-true (read_refusal s) 0 t, ltb-false k (count_of s) u)
    there false u t v e = absurd (not-19 s (sym e))

-- of no bytes nothing is read
pub nothing_read : (list_answer [] ≡ Err 30) × ((k : ℕ) → (fix_answer [] k ≡ Err 30) × (walk_answer [] k ≡ Err 30))
nothing_read =
    let short : length {A = ℕ} [] ≡ 4 + 12 * count_of [] → ⊥ = λ e. omega (arith, e) in
    let r = inexact_answers [] short in (
      sym (list-refused [] 30 (sym r) (λ z. omega (arith, z))),
      λ k. (sym (fix-refused [] 30 (sym r) k (λ z. omega (arith, z))), sym (walk_refused [] k 30 (sym (walk-30 [] k short)) (λ z. omega (arith, z)))),
    )
