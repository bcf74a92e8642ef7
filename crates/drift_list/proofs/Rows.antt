-- EVERY GOOD LIST CAN BE GIVEN TO THE WRITER: as five numbers for each record it is a good draft of the same values.
use Prim.Native.Nat.{ℕ, zero, suc, ◌+◌, ◌*◌, ◌%◌, ◌^◌, ◌<◌}
use mathlib.Core.Path.{◌≡◌, refl, sym, ap, subst, ◌∙◌}
use mathlib.Core.List.{List, [], ◌∷◌}
use native.Mathlib.Nat.{mod-eq_of_lt}
use native.Mathlib.Omega.{arith}
use lib.ListN.{length}
use lib.IntN.{ℤ, pos}
use lib.Signed.{mag}
use Rattle.drift_list.specs.declared.Fields.{Fields}
use Rattle.wire.specs.Signed.{InBits}
use Rattle.drift_list.specs.Values.{Drift, GoodFix, GoodDrift, fix_among}
use Rattle.drift_list.specs.Reading.{FitsFix}
use Rattle.drift_list.specs.Writing.{cell, fix_in, fix_given, value_of, InField, InFields, GoodDraft, rows_of, draft_of}
use Rattle.drift_list.proofs.Laws.Lists.{fixes_are}
use Rattle.drift_list.proofs.Laws.Records.{good-fits}

-- the five numbers from place i on are a record's
record Row (ns : List ℤ) (i : ℕ) (f : Fields) : Type 0 where
  buoy : cell ns i ≡ pos f.buoy
  state : cell ns (i + 1) ≡ pos f.state
  longitude : cell ns (i + 2) ≡ f.longitude
  latitude : cell ns (i + 3) ≡ f.latitude
  minute : cell ns (i + 4) ≡ pos f.minute

five : (a b c d e : ℤ) (ns : List ℤ) (i j : ℕ) → j ≡ 5 + i → cell (a ∷ b ∷ c ∷ d ∷ e ∷ ns) j ≡ cell ns i
five a b c d e ns i j h = let s : j ≡ suc (suc (suc (suc (suc i)))) = omega arith in ap (cell (a ∷ b ∷ c ∷ d ∷ e ∷ ns)) s

rows : (fs : List Fields) (k : ℕ) → k < length fs → Row (rows_of fs) (5 * k) (fix_among fs k)
unfolding rows_of
rows [] k h = absurd (omega arith)
rows (f ∷ fs) zero h = record { buoy = refl; state = refl; longitude = refl; latitude = refl; minute = refl }
rows (f ∷ fs) (suc k) h =
    let r = rows fs k (omega arith) in
    record {
      buoy = five _ _ _ _ _ (rows_of fs) (5 * k) (5 * suc k) (omega arith) ∙ r.buoy;
      state = five _ _ _ _ _ (rows_of fs) (5 * k + 1) (5 * suc k + 1) (omega arith) ∙ r.state;
      longitude = five _ _ _ _ _ (rows_of fs) (5 * k + 2) (5 * suc k + 2) (omega arith) ∙ r.longitude;
      latitude = five _ _ _ _ _ (rows_of fs) (5 * k + 3) (5 * suc k + 3) (omega arith) ∙ r.latitude;
      minute = five _ _ _ _ _ (rows_of fs) (5 * k + 4) (5 * suc k + 4) (omega arith) ∙ r.minute;
    }

row_fix : (ns : List ℤ) (i : ℕ) (f : Fields) → Row ns i f → FitsFix f → fix_in ns i ≡ f
unfolding fix_in
row_fix ns i f r s =
    let a = s.state in
    let b = s.minute in
    let t : mag (cell ns (i + 1)) % 2 ^ 8 ≡ f.state = ap (λ (z : ℤ). mag z % 2 ^ 8) r.state ∙ mod-eq_of_lt (omega arith) in
    let m : mag (cell ns (i + 4)) % 2 ^ 16 ≡ f.minute = ap (λ (z : ℤ). mag z % 2 ^ 16) r.minute ∙ mod-eq_of_lt (omega arith) in
    λ j. record { buoy = ap mag r.buoy j; state = t j; longitude = r.longitude j; latitude = r.latitude j; minute = m j }

row_fits : (ns : List ℤ) (i : ℕ) (f : Fields) → Row ns i f → FitsFix f → InFields ns i
row_fits ns i f r s = record {
  buoy = subst (InField (2 ^ 20)) (sym r.buoy) s.buoy;
  state = subst (InField (2 ^ 2)) (sym r.state) s.state;
  longitude = subst (InBits 27) (sym r.longitude) s.longitude;
  latitude = subst (InBits 26) (sym r.latitude) s.latitude;
  minute = subst (InField (2 ^ 14)) (sym r.minute) s.minute;
}

numbers_length : (fs : List Fields) → length (rows_of fs) ≡ 5 * length fs
unfolding rows_of
numbers_length [] = refl
numbers_length (f ∷ fs) = let r = numbers_length fs in omega arith

module _ (v : Drift) (g : GoodDrift v) where
  abbrev fs : List Fields
  fs = v.fixes

  fits : (k : ℕ) → k < length fs → FitsFix (fix_among fs k)
  fits k h = good-fits (fix_among fs k) (g.buoy k h) (g.good k h)

  is : (k : ℕ) → k < length fs → fix_given (rows_of fs) k ≡ fix_among fs k
  is k h = row_fix (rows_of fs) (5 * k) (fix_among fs k) (rows fs k h) (fits k h)

  -- the draft says the values
  pub values-again : value_of (draft_of v) ≡ v
  unfolding value_of draft_of
  values-again = λ i. record { issue = v.issue; fixes = fixes_are fs 0 (fix_given (rows_of fs)) (λ j h. ap (fix_given (rows_of fs)) (omega arith) ∙ is j h) i }

  later : (k : ℕ) → suc k < length fs → (fix_given (rows_of fs) k).buoy < (fix_given (rows_of fs) (suc k)).buoy
  later k h =
      let p = ap (λ (f : Fields). f.buoy) (is k (omega arith)) in
      let q = ap (λ (f : Fields). f.buoy) (is (suc k) h) in
      let r = g.rising.1 k h in
      omega arith

  -- and is good
  pub draft-good : GoodDraft (draft_of v)
  unfolding draft_of
  draft-good = record {
    fitting = record {
      issue = g.issue;
      count = g.count;
      number = numbers_length fs;
      fields = λ k h. row_fits (rows_of fs) (5 * k) (fix_among fs k) (rows fs k h) (fits k h);
    };
    good = λ k h. subst GoodFix (sym (is k h)) (g.good k h);
    rising = (λ k h. subst (λ (f : Fields). 0 < f.buoy) (sym (is k h)) (g.rising.0 k h), later);
  }
