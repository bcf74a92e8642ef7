-- EACH NUMBER OF A RECORD IN ITS CASE, as plain facts.
use Prim.Native.Nat.{ℕ, ◌<◌, ◌≤◌}
use mathlib.Core.Path.{◌≡◌, refl, sym}
use mathlib.Core.Logic.{◌↔◌, ◌⊎◌, inl, inr}
use mathlib.Core.Bool.{Bool, true, false, cond}
use mathlib.Core.List.{[], ◌∷◌}
use native.Mathlib.Omega.{arith}
use lib.Dec.{leb, ltb}
use borrow.Author.Tests.{leb-true, leb-false, ltb-true, ltb-false}
use Rattle.wire.specs.Tests.{Tests, first_met, RisingFrom}
use Rattle.wire.proofs.Laws.Tests.{clash}
use Rattle.drift_list.specs.declared.Fields.{Fields}
use Rattle.wire.specs.Signed.{Between}
use Rattle.drift_list.specs.declared.State.{State}
use Rattle.drift_list.specs.declared.State.TheVariants as state
use Rattle.drift_list.specs.Values.{west, east, south, north, week, StateTold, state_of, state_number, meets31, meets35, fix_tests}
use Rattle.wire.proofs.Laws.Signed.{between_tells}
use Rattle.drift_list.proofs.Laws.Faults.{ranges-told, ranges_tell, state-told, state_tells, is32, is33, is34, is35}

-- a table that begins above n does not answer n
above : (n m : ℕ) (ts : Tests) → n ≤ m → RisingFrom m ts → 0 < n → first_met ts ≡ n → ⊥
unfolding first_met
above n m [] l r p e = omega arith
above n m (t ∷ ts) l r p e = go (above n t.0 ts) t.1 e
  where
    go : (n ≤ t.0 → RisingFrom t.0 ts → 0 < n → first_met ts ≡ n → ⊥) → (b : Bool) → cond b t.0 (first_met ts) ≡ n → ⊥
    go f true e = let h = r.0 in omega arith
    go f false e = let h = r.0 in f (omega arith) r.1 p e

hit : (n : ℕ) (t : Bool) (ts : Tests) → RisingFrom n ts → 0 < n → first_met ((n, t) ∷ ts) ≡ n → t ≡ true
unfolding first_met
hit n true ts r p e = refl
hit n false ts r p e = absurd (above n n ts (omega arith) r p e)

miss : (n m : ℕ) (t : Bool) (ts : Tests) → n < m → first_met ((n, t) ∷ ts) ≡ m → (t ≡ false) × (first_met ts ≡ m)
unfolding first_met
miss n m true ts l e = absurd (omega arith)
miss n m false ts l e = (refl, e)

-- what holds where a test does not, fails where it does
fails : (t : Bool) (P : Type 0) → (P → t ≡ false) → t ≡ true → P → ⊥
fails t P f e p = clash t e (f p)

module _ (before : ℕ) (f : Fields) (spare : ℕ) where
  abbrev answer : ℕ
  answer = first_met (fix_tests before f spare)

  abbrev InRanges : Type 0
  InRanges = Between west east f.longitude × Between south north f.latitude

  first31 : meets31 f ≡ true → answer ≡ 31
  unfolding fix_tests first_met
  first31 e = rw e

  from31 : (t : Bool) → meets31 f ≡ t → (InRanges → ⊥) → answer ≡ 31
  from31 true e n = first31 e
  from31 false e n = absurd (n (ranges-told f e))

  to31 : answer ≡ 31 → InRanges → ⊥
  unfolding fix_tests
  to31 e = fails (meets31 f) InRanges (λ r. ranges_tell f r.0 r.1) (hit 31 (meets31 f) _ (omega arith, (omega arith, (omega arith, (omega arith, tt)))) (omega arith) e)

  -- 31: a coordinate is out of its range
  pub case31 : (answer ≡ 31) ↔ (InRanges → ⊥)
  case31 = (to31, from31 (meets31 f) refl)

  to32 : answer ≡ 32 → InRanges × (week ≤ f.minute)
  unfolding fix_tests
  to32 e =
      let a = miss 31 32 (meets31 f) _ (omega arith) e in
      (ranges-told f a.0, leb-true week f.minute (hit 32 (leb week f.minute) _ (omega arith, (omega arith, (omega arith, tt))) (omega arith) a.1))

  -- 32: the coordinates are in range, the minute is not
  pub case32 : (answer ≡ 32) ↔ (InRanges × (week ≤ f.minute))
  case32 = (to32, λ w. sym (is32 before f spare (between_tells west east f.longitude w.0.0) (between_tells south north f.latitude w.0.1) w.1))

  to33 : answer ≡ 33 → InRanges × (f.minute < week) × (f.buoy ≤ before)
  unfolding fix_tests
  to33 e =
      let a = miss 31 33 (meets31 f) _ (omega arith) e in
      let b = miss 32 33 (leb week f.minute) _ (omega arith) a.1 in
      (ranges-told f a.0, leb-false week f.minute b.0, leb-true f.buoy before (hit 33 (leb f.buoy before) _ (omega arith, (omega arith, tt)) (omega arith) b.1))

  -- 33: then the buoy is not above the one before, which is 0 before the first
  pub case33 : (answer ≡ 33) ↔ (InRanges × (f.minute < week) × (f.buoy ≤ before))
  case33 = (to33, λ w. sym (is33 before f spare (between_tells west east f.longitude w.0.0) (between_tells south north f.latitude w.0.1) w.1 w.2))

  to34 : answer ≡ 34 → InRanges × (f.minute < week) × (before < f.buoy) × (0 < spare)
  unfolding fix_tests
  to34 e =
      let a = miss 31 34 (meets31 f) _ (omega arith) e in
      let b = miss 32 34 (leb week f.minute) _ (omega arith) a.1 in
      let c = miss 33 34 (leb f.buoy before) _ (omega arith) b.1 in
      (ranges-told f a.0, leb-false week f.minute b.0, leb-false f.buoy before c.0, ltb-true 0 spare (hit 34 (ltb 0 spare) _ (omega arith, tt) (omega arith) c.1))

  -- 34: then a spare bit is set
  pub case34 : (answer ≡ 34) ↔ (InRanges × (f.minute < week) × (before < f.buoy) × (0 < spare))
  case34 = (to34, λ w. sym (is34 before f spare (between_tells west east f.longitude w.0.0) (between_tells south north f.latitude w.0.1) w.1 w.2 w.3))

  to35 : answer ≡ 35 → InRanges × (f.minute < week) × (before < f.buoy) × (spare ≤ 0) × (StateTold f → ⊥)
  unfolding fix_tests
  to35 e =
      let a = miss 31 35 (meets31 f) _ (omega arith) e in
      let b = miss 32 35 (leb week f.minute) _ (omega arith) a.1 in
      let c = miss 33 35 (leb f.buoy before) _ (omega arith) b.1 in
      let d = miss 34 35 (ltb 0 spare) _ (omega arith) c.1 in (
        ranges-told f a.0,
        leb-false week f.minute b.0,
        leb-false f.buoy before c.0,
        ltb-false 0 spare d.0,
        fails (meets35 f) (StateTold f) (state_tells f) (hit 35 (meets35 f) _ tt (omega arith) d.1),
      )

  from35 : (t : Bool) → meets35 f ≡ t → InRanges × (f.minute < week) × (before < f.buoy) × (spare ≤ 0) × (StateTold f → ⊥) → answer ≡ 35
  from35 true e w = sym (is35 before f spare (between_tells west east f.longitude w.0.0) (between_tells south north f.latitude w.0.1) w.1 w.2 w.3 e)
  from35 false e w = absurd (w.4 (state-told f e))

  -- 35: then it is the state
  pub case35 : (answer ≡ 35) ↔ (InRanges × (f.minute < week) × (before < f.buoy) × (spare ≤ 0) × (StateTold f → ⊥))
  case35 = (to35, from35 (meets35 f) refl)

-- A STATE AND ITS NUMBER: each gives the other, of 0, 1 and 2
pub state-again : (s : State) → state_of (state_number s) ≡ s
unfolding state_of state_number
state-again state.None = refl
state-again state.Fix = refl
state-again state.LastKnown = refl

pub number-again : (f : Fields) → StateTold f → state_number (state_of f.state) ≡ f.state
unfolding state_of state_number
number-again f (inl s) = rw s.0 refl
number-again f (inr s) = go s.0
  where
    go : ((f.state ≡ 1) ⊎ (f.state ≡ 2)) → state_number (state_of f.state) ≡ f.state
    go (inl e) = rw e refl
    go (inr e) = rw e refl
