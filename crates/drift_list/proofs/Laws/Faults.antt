-- Tests as facts: of one record, and of the records in turn.
use Prim.Native.Nat.{ℕ, zero, suc, ◌+◌, ◌-◌, ◌<◌, ◌≤◌}
use mathlib.Core.Path.{◌≡◌, refl, sym, ap, ◌∙◌}
use mathlib.Core.Logic.{◌⊎◌, inl, inr, ◌↔◌}
use mathlib.Core.Bool.{Bool, true, false, not, cond, or-true}
use mathlib.Core.List.{◌∷◌}
use native.Mathlib.Omega.{arith}
use lib.Dec.{eqb, leb, ltb}
use borrow.Author.Tests.{eqb-true, eqb-false, eq-eqb, ne_eqb, leb-false, lt-leb, le-leb, ltb-false, le-ltb, lt-ltb, not-false}
use Rattle.wire.specs.Tests.{Tests, first_met, holds}
use Rattle.wire.proofs.Laws.Tests.{both, neither, clash, met-within, lowest_met}
use Rattle.drift_list.specs.declared.Fields.{Fields}
use Rattle.wire.specs.Signed.{Between, between, is_zero}
use Rattle.drift_list.specs.Values.{west, east, south, north, week, AtZero, StateTold, GoodFix, Rising, at_zero, meets31, state_fault, meets35, fix_tests, buoy_before, first_fault}
use Rattle.wire.proofs.Laws.Signed.{between-told, between_tells, zero-told, zero_tells}

-- 31
pub ranges-told : (f : Fields) → meets31 f ≡ false → Between west east f.longitude × Between south north f.latitude
unfolding meets31
ranges-told f e =
    let n = neither (not (between west east f.longitude)) (not (between south north f.latitude)) e in
    (between-told west east f.longitude (not-false _ n.0), between-told south north f.latitude (not-false _ n.1))

pub ranges_tell : (f : Fields) → Between west east f.longitude → Between south north f.latitude → meets31 f ≡ false
unfolding meets31
ranges_tell f a b = rw (between_tells west east f.longitude a, between_tells south north f.latitude b)

-- 35
pub zeros-told : (f : Fields) → at_zero f ≡ true → AtZero f
zeros-told f e = let b = both (is_zero f.longitude) (is_zero f.latitude) e in (zero-told f.longitude b.0, zero-told f.latitude b.1)

pub zeros_tell : (f : Fields) → AtZero f → at_zero f ≡ true
zeros_tell f z = rw (zero_tells f.longitude z.0, zero_tells f.latitude z.1)

fault-none : (z : Bool) → z ≡ true → state_fault 0 z ≡ false
unfolding state_fault
fault-none z e = rw e

fault-some : (n : ℕ) (z : Bool) → ((n ≡ 1) ⊎ (n ≡ 2)) → z ≡ false → state_fault n z ≡ false
unfolding state_fault
fault-some n z (inl e) f = rw (e, f)
fault-some n z (inr e) f = rw (e, f)

-- no fault, by whether the state is 0
unfaulty : (n : ℕ) (z : Bool) → state_fault n z ≡ false → ((n ≡ 0) × (z ≡ true)) ⊎ (((n ≡ 1) ⊎ (n ≡ 2)) × (z ≡ false))
unfolding state_fault
unfaulty n z e =
    let p = neither (leb 3 n) (cond (eqb n 0) (not z) z) e in
    go n (leb-false 3 n p.0) p.1
  where
    go : (n : ℕ) → n < 3 → cond (eqb n 0) (not z) z ≡ false → ((n ≡ 0) × (z ≡ true)) ⊎ (((n ≡ 1) ⊎ (n ≡ 2)) × (z ≡ false))
    go zero l e = inl (refl, not-false z e)
    go (suc zero) l e = inr (inl refl, e)
    go (suc (suc zero)) l e = inr (inr refl, e)
    go (suc (suc (suc n))) l e = absurd (omega arith)

pub state-told : (f : Fields) → meets35 f ≡ false → StateTold f
state-told f e = go (unfaulty f.state (at_zero f) e)
  where
    go : ((f.state ≡ 0) × (at_zero f ≡ true)) ⊎ (((f.state ≡ 1) ⊎ (f.state ≡ 2)) × (at_zero f ≡ false)) → StateTold f
    go (inl p) = inl (p.0, zeros-told f p.1)
    go (inr p) = inr (p.0, λ z. clash (at_zero f) (zeros_tell f z) p.1)

pub state_tells : (f : Fields) → StateTold f → meets35 f ≡ false
state_tells f (inl p) = ap (λ (n : ℕ). state_fault n (at_zero f)) p.0 ∙ fault-none (at_zero f) (zeros_tell f p.1)
state_tells f (inr p) = fault-some f.state (at_zero f) p.0 (go (at_zero f) refl)
  where
    go : (t : Bool) → at_zero f ≡ t → at_zero f ≡ false
    go true e = absurd (p.1 (zeros-told f e))
    go false e = e

-- a table whose first number is not 0 answers 0: its first test fails, and the rest answers 0
past : (n : ℕ) (t : Bool) (ts : Tests) → 0 < n → first_met ((n, t) ∷ ts) ≡ 0 → (t ≡ false) × (first_met ts ≡ 0)
unfolding first_met
past n true ts p e = absurd (omega arith)
past n false ts p e = (refl, e)

-- A RECORD IS NOT REFUSED EXACTLY WHERE it is good, its buoy is above the one before, and its spare bits are zero
module _ (before : ℕ) (f : Fields) (spare : ℕ) where
  abbrev Clean : Type 0
  Clean = GoodFix f × (before < f.buoy) × (spare ≡ 0)

  told : first_met (fix_tests before f spare) ≡ 0 → Clean
  unfolding fix_tests
  told e =
      let a = past 31 (meets31 f) _ (omega arith) e in
      let b = past 32 (leb week f.minute) _ (omega arith) a.1 in
      let c = past 33 (leb f.buoy before) _ (omega arith) b.1 in
      let d = past 34 (ltb 0 spare) _ (omega arith) c.1 in
      let g = past 35 (meets35 f) _ (omega arith) d.1 in
      let r = ranges-told f a.0 in
      let z = ltb-false 0 spare d.0 in (
        record { longitude = r.0; latitude = r.1; minute = leb-false week f.minute b.0; state = state-told f g.0 },
        leb-false f.buoy before c.0,
        omega arith,
      )

  tells : Clean → first_met (fix_tests before f spare) ≡ 0
  unfolding fix_tests first_met
  tells c = rw (
    ranges_tell f c.0.longitude c.0.latitude,
    lt-leb week f.minute c.0.minute,
    lt-leb f.buoy before c.1,
    ap (ltb 0) c.2,
    state_tells f c.0.state,
  )

  pub clean-exactly : (first_met (fix_tests before f spare) ≡ 0) ↔ Clean
  clean-exactly = (told, tells)

  -- EACH NUMBER IN ITS CASE: the number is n exactly where test n holds and no lower one does
  pub refused-exactly : (n : ℕ) → 0 < n
      → (first_met (fix_tests before f spare) ≡ n) ↔ ((holds n (fix_tests before f spare) ≡ true) × ((m : ℕ) → m < n → holds m (fix_tests before f spare) ≡ false))
  unfolding fix_tests
  refused-exactly n p = lowest_met (fix_tests before f spare) (omega arith, (omega arith, (omega arith, (omega arith, (omega arith, tt))))) n p

  pub number-within : (first_met (fix_tests before f spare) ≡ 0 → ⊥) → (31 ≤ first_met (fix_tests before f spare)) × (first_met (fix_tests before f spare) ≤ 35)
  unfolding fix_tests
  number-within = met-within 31 35 (fix_tests before f spare)
      (omega arith, omega arith, (omega arith, omega arith, (omega arith, omega arith, (omega arith, omega arith, (omega arith, omega arith, tt)))))

-- THE FIRST FAULTY RECORD among n: its refusal is m, those before it have none
pub record FirstFaulty (n m : ℕ) (refused : ℕ → ℕ) : Type 0 where
  pub place : ℕ
  pub among : place < n
  pub there : refused place ≡ m
  pub before : (j : ℕ) → j < place → refused j ≡ 0

-- none is
none_faulty-from : (n k : ℕ) (r : ℕ → ℕ) → first_fault n k r ≡ 0 → (j : ℕ) → j < n → r (k + j) ≡ 0
unfolding first_fault
none_faulty-from zero k r e j h = absurd (omega arith)
none_faulty-from (suc n) k r e j h = go (none_faulty-from n (suc k) r) (eqb (r k) 0) refl e j h
  where
    go : (first_fault n (suc k) r ≡ 0 → (j : ℕ) → j < n → r (suc k + j) ≡ 0) → (t : Bool) → eqb (r k) 0 ≡ t → cond t (first_fault n (suc k) r) (r k) ≡ 0
        → (j : ℕ) → j < suc n → r (k + j) ≡ 0
    go f true t e zero h = ap r (omega arith) ∙ eqb-true (r k) 0 t
    go f true t e (suc j) h = ap r (omega arith) ∙ f e j (omega arith)
    go f false t e j h = absurd (eqb-false (r k) 0 t e)

all_clean-from : (n k : ℕ) (r : ℕ → ℕ) → ((j : ℕ) → j < n → r (k + j) ≡ 0) → first_fault n k r ≡ 0
unfolding first_fault
all_clean-from zero k r f = refl
all_clean-from (suc n) k r f =
    let z : r k ≡ 0 = ap r (omega arith) ∙ f zero (omega arith) in
    rw (eq-eqb (r k) 0 z) (all_clean-from n (suc k) r (λ j h. ap r (omega arith) ∙ f (suc j) (omega arith)))

found_faulty-from : (n k : ℕ) (r : ℕ → ℕ) (m : ℕ) → 0 < m → first_fault n k r ≡ m → FirstFaulty n m (λ j. r (k + j))
unfolding first_fault
found_faulty-from zero k r m p e = absurd (omega arith)
found_faulty-from (suc n) k r m p e = go (found_faulty-from n (suc k) r m p) (eqb (r k) 0) refl e
  where
    go : (first_fault n (suc k) r ≡ m → FirstFaulty n m (λ j. r (suc k + j))) → (t : Bool) → eqb (r k) 0 ≡ t → cond t (first_fault n (suc k) r) (r k) ≡ m
        → FirstFaulty (suc n) m (λ j. r (k + j))
    go f true t e =
        let g = f e in
        let a = g.among in
        record { place = suc g.place; among = omega arith; there = ap r (omega arith) ∙ g.there; before = earlier g }
      where
        earlier : (g : FirstFaulty n m (λ j. r (suc k + j))) (j : ℕ) → j < suc g.place → r (k + j) ≡ 0
        earlier g zero h = ap r (omega arith) ∙ eqb-true (r k) 0 t
        earlier g (suc j) h = ap r (omega arith) ∙ g.before j (omega arith)
    go f false t e = record { place = 0; among = omega arith; there = ap r (omega arith) ∙ e; before = λ j h. absurd (omega arith) }

faulty-found-from : (n k : ℕ) (r : ℕ → ℕ) (m : ℕ) → 0 < m → (p : ℕ) → p < n → r (k + p) ≡ m → ((j : ℕ) → j < p → r (k + j) ≡ 0) → first_fault n k r ≡ m
unfolding first_fault
faulty-found-from zero k r m q p h e f = absurd (omega arith)
faulty-found-from (suc n) k r m q zero h e f =
    let z : r k ≡ m = ap r (omega arith) ∙ e in
    rw (ne_eqb (r k) 0 (λ w. omega arith)) z
faulty-found-from (suc n) k r m q (suc p) h e f =
    let z : r k ≡ 0 = ap r (omega arith) ∙ f zero (omega arith) in
    rw (eq-eqb (r k) 0 z) (faulty-found-from n (suc k) r m q p (omega arith) (ap r (omega arith) ∙ e) (λ j l. ap r (omega arith) ∙ f (suc j) (omega arith)))

-- the same from record 0 on
module _ (n : ℕ) (r : ℕ → ℕ) where
  none-plus : (j : ℕ) → r j ≡ r (0 + j)
  none-plus j = ap r (omega arith)

  pub none_faulty : first_fault n 0 r ≡ 0 → (j : ℕ) → j < n → r j ≡ 0
  none_faulty e j h = none-plus j ∙ none_faulty-from n 0 r e j h

  pub all_clean : ((j : ℕ) → j < n → r j ≡ 0) → first_fault n 0 r ≡ 0
  all_clean f = all_clean-from n 0 r (λ j h. sym (none-plus j) ∙ f j h)

  pub faulty-exactly : (m : ℕ) → 0 < m → (first_fault n 0 r ≡ m) ↔ FirstFaulty n m r
  faulty-exactly m p = (there, back)
    where
      there : first_fault n 0 r ≡ m → FirstFaulty n m r
      there e =
          let f = found_faulty-from n 0 r m p e in
          record { place = f.place; among = f.among; there = none-plus f.place ∙ f.there; before = λ j h. none-plus j ∙ f.before j h }

      back : FirstFaulty n m r → first_fault n 0 r ≡ m
      back f = faulty-found-from n 0 r m p f.place f.among (sym (none-plus f.place) ∙ f.there) (λ j h. sym (none-plus j) ∙ f.before j h)

-- rising, as each record's own test has it
pub rising-told : (n : ℕ) (f : ℕ → Fields) → ((k : ℕ) → k < n → buoy_before f k < (f k).buoy) → Rising n f
rising-told n f a = (some, λ k h. a (suc k) h)
  where
    some : (k : ℕ) → k < n → 0 < (f k).buoy
    some zero h = a zero h
    some (suc k) h = let l = a (suc k) h in omega arith

pub rising_tells : (n : ℕ) (f : ℕ → Fields) → Rising n f → (k : ℕ) → k < n → buoy_before f k < (f k).buoy
rising_tells n f r zero h = r.0 zero h
rising_tells n f r (suc k) h = r.1 k h

-- HOW CODE GOES THROUGH THE TESTS of a state
pub fault-three : (n : ℕ) (z : Bool) → 3 ≤ n → true ≡ state_fault n z
unfolding state_fault
fault-three n z h = rw (le-leb 3 n h)

pub fault_zero : (n : ℕ) (z : Bool) → n < 3 → n ≡ 0 → not z ≡ state_fault n z
unfolding state_fault
fault_zero n z h e = rw (lt-leb 3 n h, eq-eqb n 0 e)

pub fault-other : (n : ℕ) (z : Bool) → n < 3 → (n ≡ 0 → ⊥) → z ≡ state_fault n z
unfolding state_fault
fault-other n z h e = rw (lt-leb 3 n h, ne_eqb n 0 e)

-- and of a record, one law for each way
module _ (before : ℕ) (f : Fields) (spare : ℕ) where
  abbrev answer : ℕ
  answer = first_met (fix_tests before f spare)

  pub is31-longitude : between west east f.longitude ≡ false → 31 ≡ answer
  unfolding fix_tests first_met meets31
  is31-longitude e = rw e

  pub is31-latitude : between south north f.latitude ≡ false → 31 ≡ answer
  unfolding fix_tests first_met meets31
  is31-latitude e = rw (e, or-true (not (between west east f.longitude)))

  module _ (x : between west east f.longitude ≡ true) (y : between south north f.latitude ≡ true) where
    in_ranges : meets31 f ≡ false
    unfolding meets31
    in_ranges = rw (x, y)

    pub is32 : week ≤ f.minute → 32 ≡ answer
    unfolding fix_tests first_met
    is32 h = rw (in_ranges, le-leb week f.minute h)

    module _ (m : f.minute < week) where
      pub is33 : f.buoy ≤ before → 33 ≡ answer
      unfolding fix_tests first_met
      is33 h = rw (in_ranges, lt-leb week f.minute m, le-leb f.buoy before h)

      module _ (b : before < f.buoy) where
        pub is34 : 0 < spare → 34 ≡ answer
        unfolding fix_tests first_met
        is34 h = rw (in_ranges, lt-leb week f.minute m, lt-leb f.buoy before b, lt-ltb 0 spare h)

        pub is35 : spare ≤ 0 → meets35 f ≡ true → 35 ≡ answer
        unfolding fix_tests first_met
        is35 h e = rw (in_ranges, lt-leb week f.minute m, lt-leb f.buoy before b, le-ltb 0 spare h, e)

        pub is0 : spare ≤ 0 → meets35 f ≡ false → 0 ≡ answer
        unfolding fix_tests first_met
        is0 h e = rw (in_ranges, lt-leb week f.minute m, lt-leb f.buoy before b, le-ltb 0 spare h, e)

-- A LOOP OVER THE RECORDS, at record k of n
module _ (n k : ℕ) (r : ℕ → ℕ) where
  pub turn-done : n ≤ k → first_fault (n - k) k r ≡ 0
  unfolding first_fault
  turn-done h = let z : n - k ≡ 0 = omega arith in ap (λ (m : ℕ). first_fault m k r) z

  pub turn_hit : k < n → (r k ≡ 0 → ⊥) → first_fault (n - k) k r ≡ r k
  unfolding first_fault
  turn_hit h e = let z : n - k ≡ suc (n - (k + 1)) = omega arith in ap (λ (m : ℕ). first_fault m k r) z ∙ rw (ne_eqb (r k) 0 e)

  pub turn_on : k < n → r k ≡ 0 → first_fault (n - (k + 1)) (k + 1) r ≡ first_fault (n - k) k r
  unfolding first_fault
  turn_on h e =
      let z : n - k ≡ suc (n - (k + 1)) = omega arith in
      let o : k + 1 ≡ suc k = omega arith in
      ap (λ (m : ℕ). first_fault (n - (k + 1)) m r) o ∙ sym (ap (λ (m : ℕ). first_fault m k r) z ∙ rw (eq-eqb (r k) 0 e))
