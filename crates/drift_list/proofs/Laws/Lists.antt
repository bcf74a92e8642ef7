-- The bytes of a list: what was spelled is read, and what was read is spelled.
use Prim.Native.Nat.{ℕ, zero, suc, ◌+◌, ◌*◌, ◌^◌, ◌<◌, ◌≤◌}
use mathlib.Core.Path.{◌≡◌, refl, sym, ap, ap₂, ◌∙◌}
use mathlib.Core.List.{List, [], ◌∷◌, ◌++◌}
use native.Mathlib.Nat.{mod-eq_of_lt}
use native.Mathlib.Omega.{arith}
use lib.ListN.{length, drop, length-append, drop_of_length-le}
use Rattle.wire.specs.Fields.{field_at, spelled}
use Rattle.wire.specs.Bits.{AllBytes}
use Rattle.wire.proofs.Laws.Fields.{field_lt, spelled-reads}
use Rattle.wire.proofs.Laws.Spelled.{part-spelled, field-after, both_are}
use Rattle.drift_list.specs.declared.Fields.{Fields}
use Rattle.drift_list.specs.Values.{fix_among}
use Rattle.drift_list.specs.Reading.{fields_from, spare_from, begins, fix_at, spare_at, fixes_from, spell_fix, spell_fixes, FitsFix}
use Rattle.drift_list.proofs.Laws.Records.{said_by, spare_by, number_of, number_lt, number-back, fields-number, spare-number, fields_fit, fix_length, fix-bytes, fix-spelled}

-- record k as one number, and that it begins with a byte
abbrev pub record_at : List ℕ → ℕ → ℕ
record_at s k = field_at 12 s (4 + 12 * k)

whole-bytes : (k : ℕ) → begins k ≡ 8 * (4 + 12 * k)
whole-bytes k = omega arith

pub fix-number : (s : List ℕ) (k : ℕ) → AllBytes s → fix_at s k ≡ said_by (record_at s k)
fix-number s k b = ap (fields_from s) (whole-bytes k) ∙ fields-number s (4 + 12 * k) b

pub spare-said : (s : List ℕ) (k : ℕ) → AllBytes s → spare_at s k ≡ spare_by (record_at s k)
spare-said s k b = ap (spare_from s) (whole-bytes k) ∙ spare-number s (4 + 12 * k) b

pub spelled-fixes_length : (fs : List Fields) → length (spell_fixes fs) ≡ 12 * length fs
unfolding spell_fixes
spelled-fixes_length [] = refl
spelled-fixes_length (f ∷ fs) =
    let l = length-append (spell_fix f) (spell_fixes fs) in
    let m = fix_length f in
    let r = spelled-fixes_length fs in
    omega arith

pub spelled-fixes-bytes : (fs : List Fields) → AllBytes (spell_fixes fs)
unfolding spell_fixes
spelled-fixes-bytes [] k = omega arith
spelled-fixes-bytes (f ∷ fs) k = both_are (spell_fix f) (spell_fixes fs) (fix-bytes f) (spelled-fixes-bytes fs) k

-- RECORD k OF SPELLED RECORDS
pub record-spelled : (fs : List Fields) → ((k : ℕ) → k < length fs → FitsFix (fix_among fs k))
    → (k : ℕ) → k < length fs → field_at 12 (spell_fixes fs) (12 * k) ≡ number_of (fix_among fs k)
unfolding spell_fixes
record-spelled [] b k h = absurd (omega arith)
record-spelled (f ∷ fs) b zero h =
    ap (λ (l : List ℕ). field_at 12 (l ++ spell_fixes fs) 0) (fix-spelled f (b zero (omega arith)))
    ∙ spelled-reads 12 (number_of f) (spell_fixes fs) ∙ mod-eq_of_lt (number_lt f (b zero (omega arith)))
record-spelled (f ∷ fs) b (suc k) h =
    let e : 12 * suc k ≡ 12 + 12 * k = omega arith in
    ap₂ (λ (l : List ℕ) (i : ℕ). field_at 12 (l ++ spell_fixes fs) i) (fix-spelled f (b zero (omega arith))) e
    ∙ field-after 12 12 (number_of f) (12 * k) (spell_fixes fs)
    ∙ record-spelled fs (λ j l. b (suc j) (omega arith)) k (omega arith)

-- records taken one by one are the list
pub fixes_are : (fs : List Fields) (k : ℕ) (g : ℕ → Fields) → ((j : ℕ) → j < length fs → g (k + j) ≡ fix_among fs j) → fixes_from (length fs) k g ≡ fs
unfolding fixes_from
fixes_are [] k g e = refl
fixes_are (f ∷ fs) k g e =
    let z : k ≡ k + 0 = omega arith in
    ap₂ (λ (x : Fields) (xs : List Fields). x ∷ xs) (ap g z ∙ e zero (omega arith))
    (fixes_are fs (suc k) g (λ j l. ap g (omega arith) ∙ e (suc j) (omega arith)))

pub fixes_length : (n k : ℕ) (g : ℕ → Fields) → length (fixes_from n k g) ≡ n
unfolding fixes_from
fixes_length zero k g = refl
fixes_length (suc n) k g = ap suc (fixes_length n (suc k) g)

pub fixes-at : (n k : ℕ) (g : ℕ → Fields) (j : ℕ) → j < n → fix_among (fixes_from n k g) j ≡ g (k + j)
unfolding fixes_from
fixes-at zero k g j h = absurd (omega arith)
fixes-at (suc n) k g zero h = ap g (omega arith)
fixes-at (suc n) k g (suc j) h = fixes-at n (suc k) g j (omega arith) ∙ ap g (omega arith)

-- THE RECORDS FROM k ON, READ AND SPELLED AGAIN
pub record-back : (s : List ℕ) (k : ℕ) → AllBytes s → spare_at s k ≡ 0 → spell_fix (fix_at s k) ≡ spelled 12 (record_at s k)
record-back s k b z =
    let l : record_at s k < 2 ^ 96 = field_lt 12 s (4 + 12 * k) b in
    fix-spelled (fix_at s k) (fields_fit s (begins k))
    ∙ ap (spelled 12) (ap number_of (fix-number s k b) ∙ number-back (record_at s k) l (sym (spare-said s k b) ∙ z))

pub records-back : (n k : ℕ) (s : List ℕ) → AllBytes s → length s ≡ 4 + 12 * (k + n) → ((j : ℕ) → j < k + n → spare_at s j ≡ 0)
    → spell_fixes (fixes_from n k (fix_at s)) ≡ drop (4 + 12 * k) s
unfolding spell_fixes fixes_from
records-back zero k s b l z = let h : length s ≤ 4 + 12 * k = omega arith in sym (drop_of_length-le s h)
records-back (suc n) k s b l z =
    let a : 4 + 12 * k + 12 ≡ 4 + 12 * suc k = omega arith in
    let r = records-back n (suc k) s b (omega arith) (λ j h. z j (omega arith)) in
    ap₂ (λ (x u : List ℕ). x ++ u) (record-back s k b (z k (omega arith))) (r ∙ ap (λ (i : ℕ). drop i s) (sym a)) ∙ part-spelled 12 s (4 + 12 * k) b (omega arith)
