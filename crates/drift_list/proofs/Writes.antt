-- EACH NUMBER OF THE WRITER EXACTLY IN ITS CASE. 36 is `thirty-six-exactly` of Writer; 31 to 35 are the first faulty record's, as the reader's; 37 comes last. 30 and 34 can not come.
use Prim.Native.Nat.{ℕ, ◌+◌, ◌*◌, ◌<◌, ◌≤◌}
use mathlib.Core.Path.{◌≡◌, refl, sym, ◌∙◌}
use mathlib.Core.Logic.{◌↔◌, ◌⊎◌, inl, inr}
use mathlib.Core.Bool.{Bool, true, false, cond}
use native.Mathlib.Omega.{arith}
use lib.Dec.{eqb, ltb}
use borrow.Author.Tests.{eqb-true, eqb-false, ltb-true}
use Rattle.drift_list.specs.Values.{buoy_before, refusal_at, first_fault}
use Rattle.drift_list.specs.Writing.{Draft, fix_given, given_fault, Fitting, GoodDraft, write_refusal}
use Rattle.drift_list.proofs.Laws.Faults.{FirstFaulty, number-within, faulty-exactly}
use Rattle.drift_list.proofs.Cases.{case34}
use Rattle.drift_list.proofs.Writer.{writes-exactly, widths-none, faults-none, is_fault, is-room, is37, is0, fitting_or}

-- record k's refusal, its spare bits being zero
abbrev pub given_refusal : Draft → ℕ → ℕ
given_refusal d = refusal_at (fix_given d.numbers) (λ k. 0)

given-within : (d : Draft) (k : ℕ) → (given_refusal d k ≡ 0 → ⊥) → (31 ≤ given_refusal d k) × (given_refusal d k ≤ 35)
unfolding refusal_at
given-within d k n = number-within (buoy_before (fix_given d.numbers) k) (fix_given d.numbers k) 0 n

given_not-34 : (d : Draft) (k : ℕ) → given_refusal d k ≡ 34 → ⊥
unfolding refusal_at
given_not-34 d k e = let z = ((case34 (buoy_before (fix_given d.numbers) k) (fix_given d.numbers k) 0).0 e).3 in omega (arith, z)

module _ (d : Draft) (room : ℕ) where
  abbrev faults : ℕ
  faults = given_fault d

  fault-within : (m : ℕ) → 0 < m → faults ≡ m → (31 ≤ m) × (m ≤ 35)
  fault-within m p e =
      let f = (faulty-exactly d.count (given_refusal d) m p).0 e in
      let t : given_refusal d f.place ≡ m = f.there in
      let w = given-within d f.place (λ z. omega (arith, t, z, p)) in
      let a = w.0 in
      let b = w.1 in
      (omega (arith, a, t), omega (arith, b, t))

  -- what fits is refused for a fault, or for the room, or not at all
  by_fault : {A : Type 0} → Fitting d → (faults ≡ 0 → cond (ltb room (4 + 12 * d.count)) 37 0 ≡ write_refusal d room → A)
      → ((faults ≡ 0 → ⊥) → faults ≡ write_refusal d room → A) → A
  by_fault {A} f none some = go (eqb faults 0) refl
    where
      go : (t : Bool) → eqb (first_fault d.count 0 (given_refusal d)) 0 ≡ t → A
      go true t = let z = eqb-true _ _ t in none z (is-room d room f.issue f.count f.number _ _ refl (widths-none d f) refl z)
      go false t = let z = eqb-false _ _ t in some z (is_fault d room f.issue f.count f.number _ _ refl (widths-none d f) refl z)

  -- 31 TO 35: all fits, and this is the refusal of the first faulty record
  pub written_fault : (m : ℕ) → 30 < m → m < 36 → (write_refusal d room ≡ m) ↔ (Fitting d × FirstFaulty d.count m (given_refusal d))
  written_fault m p q = (λ e. to e (fitting_or d room), back)
    where
      late : (t : Bool) (n : ℕ) → 30 < n → n < 36 → cond t 37 0 ≡ n → ⊥
      late true n p q e = omega (arith, q, e)
      late false n p q e = omega (arith, p, e)

      to : write_refusal d room ≡ m → Fitting d ⊎ (write_refusal d room ≡ 36) → Fitting d × FirstFaulty d.count m (given_refusal d)
      to e (inr x) = absurd (omega (arith, e, x, q))
      to e (inl f) = by_fault f
          (λ z x. absurd (late (ltb room (4 + 12 * d.count)) m p q (x ∙ e)))
          (λ z x. (f, (faulty-exactly d.count (given_refusal d) m (omega (arith, p))).0 (x ∙ e)))

      back : Fitting d × FirstFaulty d.count m (given_refusal d) → write_refusal d room ≡ m
      back w =
          let f = w.0 in
          let e : faults ≡ m = (faulty-exactly d.count (given_refusal d) m (omega (arith, p))).1 w.1 in
          sym (is_fault d room f.issue f.count f.number _ _ refl (widths-none d f) refl (λ z. omega (arith, e, z, p))) ∙ e

  -- 37: the draft is good, and the buffer is short
  pub thirty_seven-exactly : (write_refusal d room ≡ 37) ↔ (GoodDraft d × (room < 4 + 12 * d.count))
  thirty_seven-exactly = (λ e. to e (fitting_or d room), back)
    where
      short : (t : Bool) → ltb room (4 + 12 * d.count) ≡ t → ◌≡◌ {A = ℕ} (cond t 37 0) 37 → room < 4 + 12 * d.count
      short true t e = ltb-true _ _ t
      short false t e = absurd (omega (arith, e))

      good : Fitting d → faults ≡ 0 → GoodDraft d
      good f z = ((writes-exactly d (4 + 12 * d.count)).0 (sym (is0 d (4 + 12 * d.count) f.issue f.count f.number _ _ refl (widths-none d f) refl z (omega arith)))).0

      to : write_refusal d room ≡ 37 → Fitting d ⊎ (write_refusal d room ≡ 36) → GoodDraft d × (room < 4 + 12 * d.count)
      to e (inr x) = absurd (omega (arith, e, x))
      to e (inl f) = by_fault f
          (λ z x. (good f z, short (ltb room (4 + 12 * d.count)) refl (x ∙ e)))
          (λ z x. let w = (fault-within 37 (omega arith) (x ∙ e)).1 in absurd (omega (arith, w)))

      back : GoodDraft d × (room < 4 + 12 * d.count) → write_refusal d room ≡ 37
      back w =
          let f = w.0.fitting in
          sym (is37 d room f.issue f.count f.number _ _ refl (widths-none d f) refl (faults-none d w.0) w.1)

  -- "34 can't come: a record holds no spare"; nor can 30, or any other number
  pub never-34 : write_refusal d room ≡ 34 → ⊥
  never-34 e = let f = ((written_fault 34 (omega arith) (omega arith)).0 e).1 in given_not-34 d f.place f.there

  pub no_other : (write_refusal d room ≡ 0 → ⊥) → (31 ≤ write_refusal d room) × (write_refusal d room ≤ 37)
  no_other n = go (fitting_or d room)
    where
      late : (t : Bool) (m : ℕ) → (m ≡ 0 → ⊥) → cond t 37 0 ≡ m → (31 ≤ m) × (m ≤ 37)
      late true m n e = (omega (arith, e), omega (arith, e))
      late false m n e = absurd (n (sym e))

      early : (m : ℕ) → (m ≡ 0 → ⊥) → faults ≡ m → (31 ≤ m) × (m ≤ 37)
      early m n e =
          let w = fault-within m (omega (arith, n)) e in
          let a = w.0 in
          let b = w.1 in
          (omega (arith, a), omega (arith, b))

      go : Fitting d ⊎ (write_refusal d room ≡ 36) → (31 ≤ write_refusal d room) × (write_refusal d room ≤ 37)
      go (inr x) = (omega (arith, x), omega (arith, x))
      go (inl f) = by_fault f (λ z x. late (ltb room (4 + 12 * d.count)) (write_refusal d room) n x) (λ z x. early (write_refusal d room) n x)

-- a fault is one of the four
pub given_fault-within : (d : Draft) → (given_fault d ≡ 0 → ⊥) → (31 ≤ given_fault d) × (given_fault d ≤ 35)
given_fault-within d z = fault-within d 0 (given_fault d) (some (given_fault d) z) refl
  where
    some : (n : ℕ) → (n ≡ 0 → ⊥) → 0 < n
    some n z = omega (arith, z)

pub fault_not-34 : (d : Draft) → given_fault d ≡ 34 → ⊥
fault_not-34 d e = let f = (faulty-exactly d.count (given_refusal d) 34 (omega arith)).0 e in given_not-34 d f.place f.there
