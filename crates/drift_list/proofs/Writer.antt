-- THE THEOREMS OF THE WRITER: it writes exactly where the draft is good and there is room; what it wrote is read back; every good list can be given to it.
use Prim.Native.Nat.{ℕ, zero, suc, ◌+◌, ◌*◌, ◌^◌, ◌<◌, ◌≤◌}
use mathlib.Core.Path.{◌≡◌, refl, sym, ap, subst, ◌∙◌}
use mathlib.Core.Logic.{◌↔◌, ◌⊎◌, inl, inr}
use mathlib.Core.Bool.{Bool, true, false, not, cond, ◌||◌}
use mathlib.Core.List.{List, ◌++◌}
use native.Mathlib.Omega.{arith}
use lib.Dec.{leb, ltb, eqb}
use lib.ListN.{length, take, drop}
use lib.Seq.{take-append_seam}
use lib.IntN.{ℤ, pos, negsuc}
use lib.Signed.{mag}
use borrow.Author.Tests.{eqb-true, eqb-false, eq-eqb, ne_eqb, leb-false, lt-leb, le-leb, ltb-false, le-ltb, lt-ltb, not-false}
use Rattle.wire.specs.Tests.{first_met}
use Rattle.wire.proofs.Laws.Tests.{neither}
use Rattle.drift_list.specs.declared.Fields.{Fields}
use Rattle.drift_list.specs.Values.{GoodFix, GoodDrift, fix_among, buoy_before, fix_tests, refusal_at, first_fault}
use Rattle.drift_list.specs.Reading.{read_list, read_refusal, spell_list}
use Rattle.drift_list.specs.Writing.{Draft, cell, fix_in, fix_given, value_of, InField, InFields, Fitting, GoodDraft, outside, outside_signed}
use Rattle.drift_list.specs.Writing.{wide_at, wide_refusal, head_wide, or_else, write_refusal, written_bytes}
use Rattle.drift_list.proofs.Laws.Lists.{fixes_length, fixes-at}
use Rattle.drift_list.proofs.Laws.Faults.{clean-exactly, number-within, none_faulty, all_clean, faulty-exactly, rising-told, rising_tells}
use Rattle.drift_list.proofs.Exact.{write_read, length-is}

-- fields
field_told : (w : ℕ) (z : ℤ) → outside w z ≡ false → InField w z
unfolding outside
field_told w (pos n) e = leb-false w n e
field_told w (negsuc n) e = let z : ◌≡◌ {A = ℕ} 0 1 = cc in absurd (omega arith)

field_tells : (w : ℕ) (z : ℤ) → InField w z → outside w z ≡ false
unfolding outside
field_tells w (pos n) l = lt-leb w n l
field_tells w (negsuc n) l = absurd l

pub fields_told : (ns : List ℤ) (i : ℕ) → wide_at ns i ≡ false → InFields ns i
unfolding wide_at
fields_told ns i e =
    let a = neither (outside (2 ^ 20) (cell ns i) || outside (2 ^ 2) (cell ns (i + 1)) || outside_signed (2 ^ 27) (cell ns (i + 2)) || outside_signed
    (2 ^ 26) (cell ns (i + 3))) (outside (2 ^ 14) (cell ns (i + 4))) e in
    let b = neither (outside (2 ^ 20) (cell ns i) || outside (2 ^ 2) (cell ns (i + 1)) || outside_signed (2 ^ 27) (cell ns (i + 2))) (outside_signed (2 ^ 26) (cell ns (i + 3))) a.0 in
    let c = neither (outside (2 ^ 20) (cell ns i) || outside (2 ^ 2) (cell ns (i + 1))) (outside_signed (2 ^ 27) (cell ns (i + 2))) b.0 in
    let d = neither (outside (2 ^ 20) (cell ns i)) (outside (2 ^ 2) (cell ns (i + 1))) c.0 in
    record {
      buoy = field_told (2 ^ 20) _ d.0;
      state = field_told (2 ^ 2) _ d.1;
      longitude = leb-false (2 ^ 27) _ c.1;
      latitude = leb-false (2 ^ 26) _ b.1;
      minute = field_told (2 ^ 14) _ a.1;
    }

pub fields_tell : (ns : List ℤ) (i : ℕ) → InFields ns i → wide_at ns i ≡ false
unfolding wide_at
fields_tell ns i f = rw (
  field_tells (2 ^ 20) (cell ns i) f.buoy,
  field_tells (2 ^ 2) (cell ns (i + 1)) f.state,
  lt-leb (2 ^ 27) (mag (cell ns (i + 2))) f.longitude,
  lt-leb (2 ^ 26) (mag (cell ns (i + 3))) f.latitude,
  field_tells (2 ^ 14) (cell ns (i + 4)) f.minute,
)

-- 36 or nothing
met-none : (t : Bool) (n : ℕ) → 0 < n → cond t n 0 ≡ 0 → t ≡ false
met-none true n p e = absurd (omega arith)
met-none false n p e = refl

or-told : (n m : ℕ) → or_else n m ≡ 0 → (n ≡ 0) × (m ≡ 0)
unfolding or_else
or-told n m e = go (eqb n 0) refl e
  where
    go : (t : Bool) → eqb n 0 ≡ t → cond t m n ≡ 0 → (n ≡ 0) × (m ≡ 0)
    go true f e = (eqb-true n 0 f, e)
    go false f e = absurd (eqb-false n 0 f e)

or_tells : (n m : ℕ) → n ≡ 0 → m ≡ 0 → or_else n m ≡ 0
unfolding or_else
or_tells n m e f = rw (eq-eqb n 0 e) f

-- nothing is too wide where all fits, and no record of a good draft is faulty
pub widths-none : (d : Draft) → Fitting d → first_fault d.count 0 (wide_refusal d.numbers) ≡ 0
widths-none d f = all_clean d.count (wide_refusal d.numbers) (λ k l. ap (λ (t : Bool). cond t 36 0) (fields_tell d.numbers (5 * k) (f.fields k l)))

pub faults-none : (d : Draft) → GoodDraft d → first_fault d.count 0 (refusal_at (fix_given d.numbers) (λ k. 0)) ≡ 0
unfolding refusal_at
faults-none d g = all_clean d.count (refusal_at (fix_given d.numbers) (λ k. 0)) (λ k l. (clean-exactly (buoy_before (fix_given d.numbers) k) (fix_given d.numbers k) 0).1
    (g.good k l, rising_tells d.count (fix_given d.numbers) g.rising k l, refl))

-- IT WRITES EXACTLY WHERE the draft is good and there is room
module _ (d : Draft) (room : ℕ) where
  there : write_refusal d room ≡ 0 → GoodDraft d × (4 + 12 * d.count ≤ room)
  unfolding write_refusal head_wide refusal_at
  there e =
      let a = or-told (cond (head_wide d) 36 0) _ e in
      let b = or-told (first_fault d.count 0 (wide_refusal d.numbers)) _ a.1 in
      let c = or-told (first_fault d.count 0 (refusal_at (fix_given d.numbers) (λ k. 0))) _ b.1 in
      let h = met-none (head_wide d) 36 (omega arith) a.0 in
      let h2 = neither (leb (2 ^ 16) d.issue || leb (2 ^ 16) d.count) (not (eqb (length d.numbers) (5 * d.count))) h in
      let h1 = neither (leb (2 ^ 16) d.issue) (leb (2 ^ 16) d.count) h2.0 in
      let w : (k : ℕ) → k < d.count → InFields d.numbers (5 * k)
      = λ k l. fields_told d.numbers (5 * k) (met-none (wide_at d.numbers (5 * k)) 36 (omega arith) (none_faulty d.count (wide_refusal d.numbers) b.0 k l)) in
      let g : (k : ℕ) → k < d.count → GoodFix (fix_given d.numbers k) × (buoy_before (fix_given d.numbers) k < (fix_given d.numbers k).buoy) × (◌≡◌ {A = ℕ} 0 0)
      = λ k l. (clean-exactly (buoy_before (fix_given d.numbers) k) (fix_given d.numbers k) 0).0 (none_faulty d.count (refusal_at (fix_given d.numbers) (λ k. 0)) c.0 k l) in (
        record {
          fitting = record { issue = leb-false (2 ^ 16) d.issue h1.0; count = leb-false (2 ^ 16) d.count h1.1; number = eqb-true _ _ (not-false _ h2.1); fields = w };
          good = λ k l. (g k l).0;
          rising = rising-told d.count (fix_given d.numbers) (λ k l. (g k l).1);
        },
        ltb-false room (4 + 12 * d.count) (met-none (ltb room (4 + 12 * d.count)) 37 (omega arith) c.1),
      )

  back : GoodDraft d × (4 + 12 * d.count ≤ room) → write_refusal d room ≡ 0
  unfolding write_refusal head_wide refusal_at
  back w =
      let g = w.0 in
      let f = g.fitting in
      let h : (leb (2 ^ 16) d.issue || leb (2 ^ 16) d.count || not (eqb (length d.numbers) (5 * d.count))) ≡ false
      = rw (lt-leb (2 ^ 16) d.issue f.issue, lt-leb (2 ^ 16) d.count f.count, eq-eqb (length d.numbers) (5 * d.count) f.number) in
      or_tells _ _ (ap (λ (t : Bool). cond t 36 0) h)
      (or_tells _ _ (widths-none d f)
      (or_tells _ _ (faults-none d g)
      (ap (λ (t : Bool). cond t 37 0) (le-ltb room (4 + 12 * d.count) w.1))))

  pub writes-exactly : (write_refusal d room ≡ 0) ↔ (GoodDraft d × (4 + 12 * d.count ≤ room))
  writes-exactly = (there, back)

-- A GOOD DRAFT GIVES GOOD VALUES
field_mag : (w : ℕ) (z : ℤ) → InField w z → mag z < w
field_mag w (pos n) l = l
field_mag w (negsuc n) l = absurd l

module _ (d : Draft) (g : GoodDraft d) where
  abbrev given : ℕ → Fields
  given = fix_given d.numbers

  size : length (value_of d).fixes ≡ d.count
  unfolding value_of
  size = fixes_length d.count 0 given

  under : (k : ℕ) → k < length (value_of d).fixes → k < d.count
  under k h = let e = size in omega arith

  is : (k : ℕ) → k < d.count → fix_among (value_of d).fixes k ≡ given k
  unfolding value_of
  is k h = fixes-at d.count 0 given k h ∙ ap given (omega arith)

  pub buoy_in : (k : ℕ) → k < d.count → (given k).buoy < 2 ^ 20
  unfolding fix_in
  buoy_in k h = field_mag (2 ^ 20) (cell d.numbers (5 * k)) (g.fitting.fields k h).buoy

  issue_in_lem : (value_of d).issue < 2 ^ 16
  unfolding value_of
  issue_in_lem = g.fitting.issue

  later : (k : ℕ) → suc k < d.count → (fix_among (value_of d).fixes k).buoy < (fix_among (value_of d).fixes (suc k)).buoy
  later k h =
      let p = ap (λ (f : Fields). f.buoy) (is k (omega arith)) in
      let q = ap (λ (f : Fields). f.buoy) (is (suc k) h) in
      let r = g.rising.1 k h in
      omega arith

  pub values-good : GoodDrift (value_of d)
  values-good = record {
    issue = issue_in_lem;
    count = let e = size in let c = g.fitting.count in omega arith;
    buoy = λ k h. subst (λ (f : Fields). f.buoy < 2 ^ 20) (sym (is k (under k h))) (buoy_in k (under k h));
    good = λ k h. subst GoodFix (sym (is k (under k h))) (g.good k (under k h));
    rising = (
      λ k h. subst (λ (f : Fields). 0 < f.buoy) (sym (is k (under k h))) (g.rising.0 k (under k h)),
      λ k h. later k (under (suc k) h),
    );
  }

  pub spelled-size : length (spell_list (value_of d)) ≡ 4 + 12 * d.count
  spelled-size = length-is (value_of d) values-good ∙ ap (λ (n : ℕ). 4 + 12 * n) size

-- WHAT IS LEFT: the list, as long as it is said to be, and behind it what was there
pub written_is : (d : Draft) (out : List ℕ) → write_refusal d (length out) ≡ 0 → written_bytes d out ≡ spell_list (value_of d) ++ drop (4 + 12 * d.count) out
unfolding written_bytes
written_is d out e = rw (eq-eqb (write_refusal d (length out)) 0 e)

pub written-first : (d : Draft) (out : List ℕ) → write_refusal d (length out) ≡ 0 → take (4 + 12 * d.count) (written_bytes d out) ≡ spell_list (value_of d)
written-first d out e =
    let g = (there d (length out) e).0 in
    let r : List ℕ = drop (4 + 12 * d.count) out in
    ap (take (4 + 12 * d.count)) (written_is d out e)
    ∙ ap (λ (n : ℕ). take n (spell_list (value_of d) ++ r)) (sym (spelled-size d g)) ∙ take-append_seam (spell_list (value_of d)) r

-- WHAT WAS WRITTEN IS READ BACK: the first 4 + 12 × count bytes are accepted, and are the values given
pub written_read : (d : Draft) (out : List ℕ) → write_refusal d (length out) ≡ 0
    → (read_refusal (take (4 + 12 * d.count) (written_bytes d out)) ≡ 0) × (read_list (take (4 + 12 * d.count) (written_bytes d out)) ≡ value_of d)
written_read d out e = rw (written-first d out e) (write_read (value_of d) (values-good d (there d (length out) e).0))

-- A REFUSAL WRITES NOTHING
pub refused-keeps : (d : Draft) (out : List ℕ) → (write_refusal d (length out) ≡ 0 → ⊥) → written_bytes d out ≡ out
unfolding written_bytes
refused-keeps d out n = rw (ne_eqb (write_refusal d (length out)) 0 n)

-- HOW CODE GOES THROUGH THE REFUSALS
or-first : (n m : ℕ) → (n ≡ 0 → ⊥) → n ≡ or_else n m
unfolding or_else
or-first n m e = sym (rw (ne_eqb n 0 e))

or-second : (n m : ℕ) → n ≡ 0 → m ≡ or_else n m
unfolding or_else
or-second n m e = sym (rw (eq-eqb n 0 e))

module _ (d : Draft) (room : ℕ) where
  abbrev widths : ℕ
  widths = first_fault d.count 0 (wide_refusal d.numbers)

  abbrev faults : ℕ
  faults = first_fault d.count 0 (refusal_at (fix_given d.numbers) (λ k. 0))

  is36 : head_wide d ≡ true → 36 ≡ write_refusal d room
  unfolding write_refusal
  is36 e = let z : ◌≡◌ {A = ℕ} (cond (head_wide d) 36 0) 36 = ap (λ (t : Bool). cond t 36 0) e in sym z ∙ or-first (cond (head_wide d) 36 0) _ (λ f. omega (arith, z, f))

  or_left : (a b : Bool) → a ≡ true → (a || b) ≡ true
  or_left a b e = rw e

  or_right : (a b : Bool) → b ≡ true → (a || b) ≡ true
  or_right true b e = refl
  or_right false b e = e

  pub is36-issue : 65536 ≤ d.issue → 36 ≡ write_refusal d room
  unfolding head_wide
  is36-issue h = is36 (or_left _ (not (eqb (length d.numbers) (5 * d.count))) (or_left _ (leb (2 ^ 16) d.count) (le-leb (2 ^ 16) d.issue h)))

  pub is36-count : 65536 ≤ d.count → 36 ≡ write_refusal d room
  unfolding head_wide
  is36-count h = is36 (or_left _ (not (eqb (length d.numbers) (5 * d.count))) (or_right (leb (2 ^ 16) d.issue) _ (le-leb (2 ^ 16) d.count h)))

  pub is36-number : (length d.numbers ≡ 5 * d.count → ⊥) → 36 ≡ write_refusal d room
  unfolding head_wide
  is36-number n = is36 (or_right (leb (2 ^ 16) d.issue || leb (2 ^ 16) d.count) _ (ap not (ne_eqb (length d.numbers) (5 * d.count) n)))

  module _ (i : d.issue < 65536) (c : d.count < 65536) (n : length d.numbers ≡ 5 * d.count) where
    head-fits : ◌≡◌ {A = ℕ} (cond (head_wide d) 36 0) 0
    unfolding head_wide
    head-fits = rw (lt-leb (2 ^ 16) d.issue i, lt-leb (2 ^ 16) d.count c, eq-eqb (length d.numbers) (5 * d.count) n)

    pub is-width : (w : ℕ) → w ≡ widths → (w ≡ 0 → ⊥) → w ≡ write_refusal d room
    unfolding write_refusal
    is-width w e z = e ∙ or-first widths _ (λ f. z (e ∙ f)) ∙ or-second (cond (head_wide d) 36 0) _ head-fits

    pub is_fault : (w f : ℕ) → w ≡ widths → w ≡ 0 → f ≡ faults → (f ≡ 0 → ⊥) → f ≡ write_refusal d room
    unfolding write_refusal
    is_fault w f e z g y = g ∙ or-first faults _ (λ u. y (g ∙ u)) ∙ or-second widths _ (sym e ∙ z) ∙ or-second (cond (head_wide d) 36 0) _ head-fits

    pub is-room : (w f : ℕ) → w ≡ widths → w ≡ 0 → f ≡ faults → f ≡ 0 → cond (ltb room (4 + 12 * d.count)) 37 0 ≡ write_refusal d room
    unfolding write_refusal
    is-room w f e z g y = or-second faults _ (sym g ∙ y) ∙ or-second widths _ (sym e ∙ z) ∙ or-second (cond (head_wide d) 36 0) _ head-fits

    pub is37 : (w f : ℕ) → w ≡ widths → w ≡ 0 → f ≡ faults → f ≡ 0 → room < 4 + 12 * d.count → 37 ≡ write_refusal d room
    is37 w f e z g y h = sym (ap (λ (t : Bool). cond t 37 0) (lt-ltb room (4 + 12 * d.count) h)) ∙ is-room w f e z g y

    pub is0 : (w f : ℕ) → w ≡ widths → w ≡ 0 → f ≡ faults → f ≡ 0 → 4 + 12 * d.count ≤ room → 0 ≡ write_refusal d room
    is0 w f e z g y h = sym (ap (λ (t : Bool). cond t 37 0) (le-ltb room (4 + 12 * d.count) h)) ∙ is-room w f e z g y

-- 36 EXACTLY WHERE something does not fit
module _ (d : Draft) (room : ℕ) where
  fault_not-36 : first_fault d.count 0 (refusal_at (fix_given d.numbers) (λ k. 0)) ≡ 36 → ⊥
  unfolding refusal_at
  fault_not-36 e =
      let f = (faulty-exactly d.count (refusal_at (fix_given d.numbers) (λ k. 0)) 36 (omega arith)).0 e in
      let t : first_met (fix_tests (buoy_before (fix_given d.numbers) f.place) (fix_given d.numbers f.place) 0) ≡ 36 = f.there in
      let w = number-within (buoy_before (fix_given d.numbers) f.place) (fix_given d.numbers f.place) 0 (λ z. omega (arith, t, z)) in
      omega arith

  fitting_not-36 : Fitting d → write_refusal d room ≡ 36 → ⊥
  fitting_not-36 f e = go (eqb faults₀ 0) refl
    where
      faults₀ : ℕ
      faults₀ = first_fault d.count 0 (refusal_at (fix_given d.numbers) (λ k. 0))

      late : (t : Bool) → ◌≡◌ {A = ℕ} (cond t 37 0) 36 → ⊥
      late true x = omega arith
      late false x = omega arith

      go : (t : Bool) → eqb (first_fault d.count 0 (refusal_at (fix_given d.numbers) (λ k. 0))) 0 ≡ t → ⊥
      go true t = late (ltb room (4 + 12 * d.count)) (is-room d room f.issue f.count f.number _ _ refl (widths-none d f) refl (eqb-true _ _ t) ∙ e)
      go false t = fault_not-36 (is_fault d room f.issue f.count f.number _ _ refl (widths-none d f) refl (eqb-false _ _ t) ∙ e)

  one_value : (t : Bool) (n : ℕ) → (n ≡ 0 → ⊥) → cond t 36 0 ≡ n → n ≡ 36
  one_value true n z e = sym e
  one_value false n z e = absurd (z (sym e))

  pub width-36 : (first_fault d.count 0 (wide_refusal d.numbers) ≡ 0 → ⊥) → first_fault d.count 0 (wide_refusal d.numbers) ≡ 36
  width-36 z = go (first_fault d.count 0 (wide_refusal d.numbers)) refl
    where
      go : (n : ℕ) → first_fault d.count 0 (wide_refusal d.numbers) ≡ n → first_fault d.count 0 (wide_refusal d.numbers) ≡ 36
      go zero e = absurd (z e)
      go (suc n) e =
          let f = (faulty-exactly d.count (wide_refusal d.numbers) (suc n) (omega arith)).0 e in
          e ∙ one_value (wide_at d.numbers (5 * f.place)) (suc n) (λ y. omega arith) f.there

  -- it fits, or it is 36
  pub fitting_or : Fitting d ⊎ (write_refusal d room ≡ 36)
  unfolding head_wide
  fitting_or = go (head_wide d) refl
    where
      rest : d.issue < 65536 → d.count < 65536 → length d.numbers ≡ 5 * d.count
          → (t : Bool) → eqb (first_fault d.count 0 (wide_refusal d.numbers)) 0 ≡ t → Fitting d ⊎ (write_refusal d room ≡ 36)
      rest i c m true t = inl (record {
        issue = i;
        count = c;
        number = m;
        fields = λ k l. fields_told d.numbers (5 * k)
            (met-none (wide_at d.numbers (5 * k)) 36 (omega arith) (none_faulty d.count (wide_refusal d.numbers) (eqb-true _ _ t) k l));
      })
      rest i c m false t = inr (sym (is-width d room i c m _ refl (eqb-false _ _ t)) ∙ width-36 (eqb-false _ _ t))

      go : (t : Bool) → head_wide d ≡ t → Fitting d ⊎ (write_refusal d room ≡ 36)
      go true e = inr (sym (is36 d room e))
      go false e =
          let h2 = neither (leb (2 ^ 16) d.issue || leb (2 ^ 16) d.count) (not (eqb (length d.numbers) (5 * d.count))) e in
          let h1 = neither (leb (2 ^ 16) d.issue) (leb (2 ^ 16) d.count) h2.0 in
          rest (leb-false (2 ^ 16) d.issue h1.0) (leb-false (2 ^ 16) d.count h1.1) (eqb-true _ _ (not-false _ h2.1))
          (eqb (first_fault d.count 0 (wide_refusal d.numbers)) 0) refl

  unfitting-36 : (Fitting d → ⊥) → write_refusal d room ≡ 36
  unfitting-36 n = go fitting_or
    where
      go : Fitting d ⊎ (write_refusal d room ≡ 36) → write_refusal d room ≡ 36
      go (inl f) = absurd (n f)
      go (inr e) = e

  pub thirty-six-exactly : (write_refusal d room ≡ 36) ↔ (Fitting d → ⊥)
  thirty-six-exactly = (λ e f. fitting_not-36 f e, unfitting-36)
