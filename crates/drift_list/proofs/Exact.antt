-- THE THEOREMS OF THE DRIFT LIST: accepted exactly when good, each number exactly in its case, and reading and writing undo each other.
use Prim.Native.Nat.{ℕ, suc, ◌+◌, ◌*◌, ◌<◌, ◌≤◌}
use mathlib.Core.Path.{◌≡◌, refl, sym, ap, ap₂, subst, ◌∙◌}
use mathlib.Core.Logic.{◌↔◌}
use mathlib.Core.Bool.{Bool, true, false}
use mathlib.Core.List.{List, ◌++◌}
use native.Mathlib.Nat.{mod-eq_of_lt}
use native.Mathlib.Omega.{arith}
use lib.Dec.{eqb}
use lib.ListN.{length, drop, length-append}
use borrow.Author.Tests.{eqb-true, eqb-false, eq-eqb, ne_eqb}
use Rattle.wire.specs.Fields.{field_at, bits, spelled}
use Rattle.wire.specs.Bits.{AllBytes, bits_at}
use Rattle.wire.proofs.Laws.Bits.{bits_at_lt, bits-field}
use Rattle.wire.proofs.Laws.Fields.{field_lt, spelled-reads, spelled_length}
use Rattle.wire.proofs.Laws.Spelled.{part-spelled, field-after, spelled_are, both_are}
use Rattle.drift_list.specs.declared.Fields.{Fields}
use Rattle.drift_list.specs.Values.{Drift, GoodFix, GoodDrift, fix_among, buoy_before, refusal_at, first_fault}
use Rattle.drift_list.specs.Reading.{FitsFix, issue_of, count_of, begins, fix_at, spare_at, GoodList, fault_of, read_refusal, fixes_from, read_list, spell_fixes, spell_list}
use Rattle.drift_list.proofs.Laws.Records.{said_by, spare_by, number_of, good-fits, fix-again, spare-again, fields_fit}
use Rattle.drift_list.proofs.Laws.Lists.{record_at, fix-number, spare-said, spelled-fixes_length, spelled-fixes-bytes, record-spelled, fixes_are, fixes_length, fixes-at, records-back}
use Rattle.drift_list.proofs.Laws.Faults.{FirstFaulty, clean-exactly, number-within, none_faulty, all_clean, faulty-exactly, rising-told, rising_tells}

abbrev pub refused_at : List ℕ → ℕ → ℕ
refused_at s = refusal_at (fix_at s) (spare_at s)

-- record k is not refused
clean-told : (s : List ℕ) (k : ℕ) → refused_at s k ≡ 0 → GoodFix (fix_at s k) × (buoy_before (fix_at s) k < (fix_at s k).buoy) × (spare_at s k ≡ 0)
unfolding refusal_at
clean-told s k e = (clean-exactly (buoy_before (fix_at s) k) (fix_at s k) (spare_at s k)).0 e

clean_tells : (s : List ℕ) (k : ℕ) → GoodFix (fix_at s k) × (buoy_before (fix_at s) k < (fix_at s k).buoy) × (spare_at s k ≡ 0) → refused_at s k ≡ 0
unfolding refusal_at
clean_tells s k c = (clean-exactly (buoy_before (fix_at s) k) (fix_at s k) (spare_at s k)).1 c

-- the answer by whether the length is right
pub exact_answers : (s : List ℕ) → length s ≡ 4 + 12 * count_of s → read_refusal s ≡ first_fault (count_of s) 0 (refused_at s)
unfolding read_refusal
exact_answers s e = rw (eq-eqb (length s) (4 + 12 * count_of s) e)

pub inexact_answers : (s : List ℕ) → (length s ≡ 4 + 12 * count_of s → ⊥) → read_refusal s ≡ 30
unfolding read_refusal
inexact_answers s n = rw (ne_eqb (length s) (4 + 12 * count_of s) n)

pub by_length : {A : Type 0} (s : List ℕ) → (length s ≡ 4 + 12 * count_of s → A) → ((length s ≡ 4 + 12 * count_of s → ⊥) → A) → A
by_length {A} s f g = go (eqb (length s) (4 + 12 * count_of s)) refl
  where
    go : (t : Bool) → eqb (length s) (4 + 12 * count_of s) ≡ t → A
    go true e = f (eqb-true _ _ e)
    go false e = g (eqb-false _ _ e)

-- ACCEPTED EXACTLY WHEN GOOD
accepted-good : (s : List ℕ) → read_refusal s ≡ 0 → GoodList s
accepted-good s e = by_length s there (λ n. let r = inexact_answers s n in absurd (omega arith))
  where
    there : length s ≡ 4 + 12 * count_of s → GoodList s
    there x =
        let c : (k : ℕ) → k < count_of s → GoodFix (fix_at s k) × (buoy_before (fix_at s) k < (fix_at s k).buoy) × (spare_at s k ≡ 0)
        = λ k h. clean-told s k (none_faulty (count_of s) (refused_at s) (sym (exact_answers s x) ∙ e) k h) in
        record {
          exact = x;
          good = λ k h. (c k h).0;
          rising = rising-told (count_of s) (fix_at s) (λ k h. (c k h).1);
          spare = λ k h. (c k h).2;
        }

good-accepted : (s : List ℕ) → GoodList s → read_refusal s ≡ 0
good-accepted s g =
    exact_answers s g.exact
    ∙ all_clean (count_of s) (refused_at s) (λ k h. clean_tells s k (g.good k h, rising_tells (count_of s) (fix_at s) g.rising k h, g.spare k h))

pub accepted-exactly : (s : List ℕ) → (read_refusal s ≡ 0) ↔ GoodList s
accepted-exactly s = (accepted-good s, good-accepted s)

-- EACH NUMBER EXACTLY IN ITS CASE. 30: the length is not right; any other m: the length is right, and m is the refusal of the first faulty record.
-- What a record's refusal is: `refused-exactly`, `clean-exactly` of Laws/Faults.
pub refused-within : (s : List ℕ) (k : ℕ) → (refused_at s k ≡ 0 → ⊥) → (31 ≤ refused_at s k) × (refused_at s k ≤ 35)
unfolding refusal_at
refused-within s k n = number-within (buoy_before (fix_at s) k) (fix_at s k) (spare_at s k) n

fault-above : (s : List ℕ) (k : ℕ) → (refused_at s k ≡ 0 → ⊥) → 31 ≤ refused_at s k
fault-above s k n = (refused-within s k n).0

pub fault-within : (s : List ℕ) → (fault_of s ≡ 0 → ⊥) → (31 ≤ fault_of s) × (fault_of s ≤ 35)
fault-within s z =
    let f = (faulty-exactly (count_of s) (refused_at s) (fault_of s) (some (fault_of s) z)).0 refl in
    let t : refused_at s f.place ≡ fault_of s = f.there in
    let w = refused-within s f.place (λ y. z (sym t ∙ y)) in
    (subst (λ (n : ℕ). 31 ≤ n) t w.0, subst (λ (n : ℕ). n ≤ 35) t w.1)
  where
    some : (n : ℕ) → (n ≡ 0 → ⊥) → 0 < n
    some n z = omega (arith, z)

pub thirty-exactly : (s : List ℕ) → (read_refusal s ≡ 30) ↔ (length s ≡ 4 + 12 * count_of s → ⊥)
thirty-exactly s = (there, inexact_answers s)
  where
    there : read_refusal s ≡ 30 → length s ≡ 4 + 12 * count_of s → ⊥
    there e x =
        let f = (faulty-exactly (count_of s) (refused_at s) 30 (omega arith)).0 (sym (exact_answers s x) ∙ e) in
        let t : refused_at s f.place ≡ 30 = f.there in
        let a = fault-above s f.place (λ z. omega (arith, t, z)) in
        omega arith

pub fault-exactly : (s : List ℕ) (m : ℕ) → 30 < m → (read_refusal s ≡ m) ↔ ((length s ≡ 4 + 12 * count_of s) × FirstFaulty (count_of s) m (refused_at s))
fault-exactly s m p = (there, back)
  where
    there : read_refusal s ≡ m → (length s ≡ 4 + 12 * count_of s) × FirstFaulty (count_of s) m (refused_at s)
    there e = by_length s
        (λ x. (x, (faulty-exactly (count_of s) (refused_at s) m (omega arith)).0 (sym (exact_answers s x) ∙ e)))
        (λ n. let r = inexact_answers s n in absurd (omega arith))

    back : (length s ≡ 4 + 12 * count_of s) × FirstFaulty (count_of s) m (refused_at s) → read_refusal s ≡ m
    back w = exact_answers s w.0 ∙ (faulty-exactly (count_of s) (refused_at s) m (omega arith)).1 w.1

-- issue and count as numbers of two bytes
sixteen : (s : List ℕ) (a : ℕ) → AllBytes s → bits_at 16 s (8 * a + 0) ≡ field_at 2 s a
sixteen s a b = bits-field 16 2 s a 0 b (omega arith) ∙ all (field_at 2 s a) (field_lt 2 s a b)
  where
    all : (x : ℕ) → x < 65536 → bits 0 16 x ≡ x
    all x l = omega arith

pub issue-sixteen : (s : List ℕ) → AllBytes s → issue_of s ≡ field_at 2 s 0
issue-sixteen s b = sixteen s 0 b

pub count-sixteen : (s : List ℕ) → AllBytes s → count_of s ≡ field_at 2 s 2
count-sixteen s b = sixteen s 2 b

-- WRITING, THEN READING
module _ (d : Drift) (g : GoodDrift d) where
  abbrev out : List ℕ
  out = spell_list d

  abbrev tail : List ℕ
  tail = spelled 2 (length d.fixes) ++ spell_fixes d.fixes

  fits : (k : ℕ) → k < length d.fixes → FitsFix (fix_among d.fixes k)
  fits k h = good-fits (fix_among d.fixes k) (g.buoy k h) (g.good k h)

  pub out-bytes : AllBytes out
  unfolding spell_list
  out-bytes = both_are (spelled 2 d.issue) tail (spelled_are 2 d.issue)
      (both_are (spelled 2 (length d.fixes)) (spell_fixes d.fixes) (spelled_are 2 (length d.fixes)) (spelled-fixes-bytes d.fixes))

  issue-read : field_at 2 out 0 ≡ d.issue
  unfolding spell_list
  issue-read = spelled-reads 2 d.issue tail ∙ mod-eq_of_lt g.issue

  issue-is : issue_of out ≡ d.issue
  issue-is = issue-sixteen out out-bytes ∙ issue-read

  count-read : field_at 2 out 2 ≡ length d.fixes
  unfolding spell_list
  count-read = field-after 2 2 d.issue 0 tail ∙ spelled-reads 2 (length d.fixes) (spell_fixes d.fixes) ∙ mod-eq_of_lt g.count

  count-is : count_of out ≡ length d.fixes
  count-is = count-sixteen out out-bytes ∙ count-read

  pub length-is : length out ≡ 4 + 12 * length d.fixes
  unfolding spell_list
  length-is =
      let a = length-append (spelled 2 d.issue) tail in
      let b = length-append (spelled 2 (length d.fixes)) (spell_fixes d.fixes) in
      let i = spelled_length 2 d.issue in
      let j = spelled_length 2 (length d.fixes) in
      let r = spelled-fixes_length d.fixes in
      omega arith

  record_is : (k : ℕ) → k < length d.fixes → record_at out k ≡ number_of (fix_among d.fixes k)
  unfolding spell_list
  record_is k h =
      let e : 4 + 12 * k ≡ 2 + (2 + 12 * k) = omega arith in
      ap (λ (i : ℕ). field_at 12 out i) e
      ∙ field-after 12 2 d.issue (2 + 12 * k) tail
      ∙ field-after 12 2 (length d.fixes) (12 * k) (spell_fixes d.fixes)
      ∙ record-spelled d.fixes fits k h

  fix_is : (k : ℕ) → k < length d.fixes → fix_at out k ≡ fix_among d.fixes k
  fix_is k h = fix-number out k out-bytes ∙ ap said_by (record_is k h) ∙ fix-again (fix_among d.fixes k) (fits k h)

  spare-is : (k : ℕ) → k < length d.fixes → spare_at out k ≡ 0
  spare-is k h = spare-said out k out-bytes ∙ ap spare_by (record_is k h) ∙ spare-again (fix_among d.fixes k) (fits k h)

  -- what is written is a good list
  pub written-good : GoodList out
  written-good =
      let c = count-is in
      let l = length-is in
      record {
        exact = omega arith;
        good = λ k h. subst GoodFix (sym (fix_is k (omega arith))) (g.good k (omega arith));
        rising = (
          λ k h. subst (λ (f : Fields). 0 < f.buoy) (sym (fix_is k (omega arith))) (g.rising.0 k (omega arith)),
          λ k h. later k (omega arith),
        );
        spare = λ k h. spare-is k (omega arith);
      }
    where
      later : (k : ℕ) → suc k < length d.fixes → (fix_at out k).buoy < (fix_at out (suc k)).buoy
      later k h =
          let a = ap (λ (f : Fields). f.buoy) (fix_is k (omega arith)) in
          let b = ap (λ (f : Fields). f.buoy) (fix_is (suc k) h) in
          let r = g.rising.1 k h in
          omega arith

  -- and reading it gives the values back
  pub write_read : (read_refusal out ≡ 0) × (read_list out ≡ d)
  unfolding read_list
  write_read = (
    good-accepted out written-good,
    λ i. record { issue = issue-is i; fixes = (ap (λ (n : ℕ). fixes_from n 0 (fix_at out)) count-is ∙ fixes_are d.fixes 0 (fix_at out) (λ j h. ap (fix_at out) (omega arith) ∙ fix_is j h)) i },
  )

-- READING, THEN WRITING
pub read-write : (s : List ℕ) → AllBytes s → GoodList s → spell_list (read_list s) ≡ s
unfolding spell_list read_list
read-write s b g =
    let x = g.exact in
    let l : length (fixes_from (count_of s) 0 (fix_at s)) ≡ count_of s = fixes_length (count_of s) 0 (fix_at s) in
    let r : spell_fixes (fixes_from (count_of s) 0 (fix_at s)) ≡ drop 4 s = records-back (count_of s) 0 s b (omega arith) (λ j h. g.spare j (omega arith)) in
    ap₂ (λ (n : ℕ) (u : List ℕ). spelled 2 (issue_of s) ++ (spelled 2 n ++ u)) (l ∙ count-sixteen s b) r
    ∙ ap₂ (λ (n : ℕ) (u : List ℕ). spelled 2 n ++ u) (issue-sixteen s b) (part-spelled 2 s 2 b (omega arith))
    ∙ part-spelled 2 s 0 b (omega arith)

-- what is read of a good list are good values
pub read-good : (s : List ℕ) → GoodList s → GoodDrift (read_list s)
unfolding read_list
read-good s g = record {
  issue = bits_at_lt 16 s 0;
  count = rw l (bits_at_lt 16 s 16);
  buoy = λ k h. rw (is k (under k h)) (fields_fit s (begins k)).buoy;
  good = λ k h. subst GoodFix (sym (is k (under k h))) (g.good k (under k h));
  rising = (
    λ k h. rw (is k (under k h)) (g.rising.0 k (under k h)),
    λ k h. later k (under (suc k) h),
  );
}
  where
    l : length (fixes_from (count_of s) 0 (fix_at s)) ≡ count_of s
    l = fixes_length (count_of s) 0 (fix_at s)

    under : (k : ℕ) → k < length (fixes_from (count_of s) 0 (fix_at s)) → k < count_of s
    under k h = let e = l in omega arith

    is : (k : ℕ) → k < count_of s → fix_among (fixes_from (count_of s) 0 (fix_at s)) k ≡ fix_at s k
    is k h = fixes-at (count_of s) 0 (fix_at s) k h ∙ ap (fix_at s) (omega arith)

    later : (k : ℕ) → suc k < count_of s → (fix_among (fixes_from (count_of s) 0 (fix_at s)) k).buoy < (fix_among (fixes_from (count_of s) 0 (fix_at s)) (suc k)).buoy
    later k h =
        let p = ap (λ (f : Fields). f.buoy) (is k (omega arith)) in
        let q = ap (λ (f : Fields). f.buoy) (is (suc k) h) in
        let r = g.rising.1 k h in
        omega arith
