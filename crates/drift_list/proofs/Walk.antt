-- THE WALK AND THE LIST: on an accepted list the walk answers what `record_at` answers;
-- and a walk from record 0 on judges as `read` does: its first refusal is the list's own, or 19 after the last record of an accepted list.
use Prim.Native.Nat.{ℕ, ◌+◌, ◌*◌, ◌<◌, ◌≤◌}
use mathlib.Core.Path.{◌≡◌, refl, sym, ◌∙◌}
use mathlib.Core.Bool.{Bool, true, false}
use mathlib.Core.List.{List}
use native.Mathlib.Omega.{arith}
use lib.Dec.{ltb}
use lib.ListN.{length}
use borrow.Author.Tests.{ltb-true, ltb-false}
use Rattle.std.proofs.Common.{Ok, Err}
use Rattle.wire.proofs.Laws.Outcomes.{refused_by_lem}
use Rattle.drift_list.specs.Values.{fix_of}
use Rattle.drift_list.specs.Reading.{count_of, fix_at, read_refusal}
use Rattle.drift_list.specs.Answers.{fix_answer, walk_refusal, walk_answer}
use Rattle.drift_list.proofs.Laws.Faults.{none_faulty, all_clean, faulty-exactly}
use Rattle.drift_list.proofs.Exact.{refused_at, refused-within, by_length, accepted-exactly, exact_answers, inexact_answers}
use Rattle.drift_list.proofs.Answers.{fix-past, fix-there, walk-30, walk-19, walk-own, walk_refused, walk-there}

-- ON AN ACCEPTED LIST
walk_none : (s : List ℕ) (k : ℕ) → read_refusal s ≡ 0 → k < count_of s → walk_refusal s k ≡ 0
walk_none s k e h =
    let x = ((accepted-exactly s).0 e).exact in
    walk-own s k x h ∙ none_faulty (count_of s) (refused_at s) (sym (exact_answers s x) ∙ e) k h

pub walk-found : (s : List ℕ) (k : ℕ) → read_refusal s ≡ 0 → k < count_of s → walk_answer s k ≡ Ok (fix_of (fix_at s k))
walk-found s k e h = sym (walk-there s k (walk_none s k e h))

pub walk_agrees : (s : List ℕ) (k : ℕ) → read_refusal s ≡ 0 → walk_answer s k ≡ fix_answer s k
walk_agrees s k e = go (ltb k (count_of s)) refl
  where
    go : (t : Bool) → ltb k (count_of s) ≡ t → walk_answer s k ≡ fix_answer s k
    go true t = let h = ltb-true k (count_of s) t in walk-found s k e h ∙ fix-there s (read_refusal s) refl k e h
    go false t =
        let h = ltb-false k (count_of s) t in
        let w = walk-19 s k ((accepted-exactly s).0 e).exact h in
        sym (walk_refused s k 19 (sym w) (λ z. omega (arith, z))) ∙ fix-past s (read_refusal s) refl k e h

-- A WALK FROM RECORD 0 ON, up to record k: each record before it was found
abbrev pub FoundBefore : List ℕ → ℕ → Type 0
FoundBefore s k = (j : ℕ) → j < k → walk_refusal s j ≡ 0

-- a refusal says so, and a record says that there was none
pub refused-told : (s : List ℕ) (k n : ℕ) → walk_answer s k ≡ Err n → walk_refusal s k ≡ n
unfolding walk_answer
refused-told s k n e = sym (refused_by_lem n (walk_refusal s k) _ (sym e)).0

-- 19 after records that were all found: the list is accepted, and these are all
pub walk_ends : (s : List ℕ) (k : ℕ) → FoundBefore s k → walk_answer s k ≡ Err 19 → (read_refusal s ≡ 0) × (count_of s ≤ k)
walk_ends s k f e =
    let w = refused-told s k 19 e in
    by_length s (λ x. there x w (ltb k (count_of s)) refl) (λ n. let r = walk-30 s k n in absurd (omega (arith, r, w)))
  where
    within : (r : ℕ) → (r ≡ 0 → ⊥) → (31 ≤ r) × (r ≤ 35) → r ≡ 19 → ⊥
    within r n b e = let l = b.0 in omega (arith, l, e)

    there : length s ≡ 4 + 12 * count_of s → walk_refusal s k ≡ 19 → (t : Bool) → ltb k (count_of s) ≡ t → (read_refusal s ≡ 0) × (count_of s ≤ k)
    there x w true t =
        let h = ltb-true k (count_of s) t in
        let r : refused_at s k ≡ 19 = sym (walk-own s k x h) ∙ w in
        absurd (within (refused_at s k) (λ z. omega (arith, r, z)) (refused-within s k (λ z. omega (arith, r, z))) r)
    there x w false t =
        let h = ltb-false k (count_of s) t in
        (exact_answers s x ∙ all_clean (count_of s) (refused_at s) (λ j l. sym (walk-own s j x l) ∙ f j (omega (arith, l, h))), h)

-- any other refusal after records that were all found is the list's own
pub walk_refuses : (s : List ℕ) (k n : ℕ) → FoundBefore s k → walk_answer s k ≡ Err n → (n ≡ 0 → ⊥) → (n ≡ 19 → ⊥) → read_refusal s ≡ n
walk_refuses s k n f e z m =
    let w = refused-told s k n e in
    by_length s (λ x. there x w (ltb k (count_of s)) refl) (λ o. inexact_answers s o ∙ sym (walk-30 s k o) ∙ w)
  where
    some : (n : ℕ) → (n ≡ 0 → ⊥) → 0 < n
    some n z = omega (arith, z)

    there : length s ≡ 4 + 12 * count_of s → walk_refusal s k ≡ n → (t : Bool) → ltb k (count_of s) ≡ t → read_refusal s ≡ n
    there x w true t =
        let h = ltb-true k (count_of s) t in
        let r : refused_at s k ≡ n = sym (walk-own s k x h) ∙ w in
        exact_answers s x ∙ (faulty-exactly (count_of s) (refused_at s) n (some n z)).1
        (record { place = k; among = h; there = r; before = λ j l. sym (walk-own s j x (omega (arith, l, h))) ∙ f j l })
    there x w false t = absurd (m (sym w ∙ walk-19 s k x (ltb-false k (count_of s) t)))
