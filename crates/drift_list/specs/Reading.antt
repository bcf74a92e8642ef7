-- THE DRIFT LIST IN BYTES. 02, §1: "bit-packed, most significant first: issue 16, count 16, then 12-byte records".
use Rattle.std.specs.Prelude.{ℕ, zero, suc, ◌+◌, ◌*◌, ◌^◌, ◌<◌, ◌≡◌, Bool, not, cond, List, [], ◌∷◌, ◌++◌, eqb, length, replicate}
use Rattle.wire.specs.Fields.{spelled}
use Rattle.wire.specs.Bits.{bits_at, put_all}
use Rattle.wire.specs.Tests.{Tests}
use Rattle.wire.specs.Signed.{signed, twos, InBits}
use Rattle.drift_list.specs.declared.Fields.{Fields}
use Rattle.drift_list.specs.Values.{Drift, GoodFix, Rising, refusal_at, first_fault}

abbrev pub issue_of : List ℕ → ℕ
issue_of s = bits_at 16 s 0

abbrev pub count_of : List ℕ → ℕ
count_of s = bits_at 16 s 16

-- "buoy 20, fix state 2, longitude 28 and latitude 27 two's complement, minute of week 14, spare 5": what stands from bit i on
unfoldable pub fields_from : List ℕ → (i : ℕ) → Fields
fields_from s i = record {
  buoy = bits_at 20 s i;
  state = bits_at 2 s (i + 20);
  longitude = signed 27 (bits_at 28 s (i + 22));
  latitude = signed 26 (bits_at 27 s (i + 50));
  minute = bits_at 14 s (i + 77);
}

unfoldable pub spare_from : List ℕ → (i : ℕ) → ℕ
spare_from s i = bits_at 5 s (i + 91)

-- record k, from 0, begins after the 32 bits of issue and count and 96 for each record before it
abbrev pub begins : (k : ℕ) → ℕ
begins k = 32 + 96 * k

abbrev pub fix_at : List ℕ → ℕ → Fields
fix_at s k = fields_from s (begins k)

abbrev pub spare_at : List ℕ → ℕ → ℕ
spare_at s k = spare_from s (begins k)

-- THE BYTES ARE A GOOD DRIFT LIST. A bit past the end reads as 0, so `exact` fails of fewer than 4 bytes.
pub record GoodList (s : List ℕ) : Type 0 where
  pub exact : length s ≡ 4 + 12 * count_of s
  pub good : (k : ℕ) → k < count_of s → GoodFix (fix_at s k)
  pub rising : Rising (count_of s) (fix_at s)
  pub spare : (k : ℕ) → k < count_of s → spare_at s k ≡ 0

-- REFUSALS: "30 length; then, at the first faulty record, the lowest of" 31 to 35

-- 30: length
abbrev pub meets30 : List ℕ → Bool
meets30 s = not (eqb (length s) (4 + 12 * count_of s))

-- the refusal of the first faulty record, 0 where none is faulty
abbrev pub fault_of : List ℕ → ℕ
fault_of s = first_fault (count_of s) 0 (refusal_at (fix_at s) (spare_at s))

unfoldable pub read_refusal : List ℕ → ℕ
read_refusal s = cond (meets30 s) 30 (fault_of s)

-- the same as a table of tests, lowest first
unfoldable pub list_tests : List ℕ → Tests
list_tests s =
    (30, meets30 s)
    ∷ (31, eqb (fault_of s) 31)
    ∷ (32, eqb (fault_of s) 32)
    ∷ (33, eqb (fault_of s) 33)
    ∷ (34, eqb (fault_of s) 34)
    ∷ (35, eqb (fault_of s) 35)
    ∷ []

-- the values
unfoldable pub fixes_from : (n k : ℕ) → (ℕ → Fields) → List Fields
fixes_from zero k f = []
fixes_from (suc n) k f = f k ∷ fixes_from n (suc k) f

unfoldable pub read_list : List ℕ → Drift
read_list s = record { issue = issue_of s; fixes = fixes_from (count_of s) 0 (fix_at s) }

-- THE SPELLING: each value put into its field of 12 bytes, the spare bits zero
abbrev pub field_widths : List ℕ
field_widths = 20 ∷ 2 ∷ 28 ∷ 27 ∷ 14 ∷ 5 ∷ []

abbrev pub field_values : Fields → List ℕ
field_values f = f.buoy ∷ f.state ∷ twos 27 f.longitude ∷ twos 26 f.latitude ∷ f.minute ∷ 0 ∷ []

unfoldable pub spell_fix : Fields → List ℕ
spell_fix f = put_all field_widths (field_values f) (replicate 12 0) 0

unfoldable pub spell_fixes : List Fields → List ℕ
spell_fixes [] = []
spell_fixes (f ∷ fs) = spell_fix f ++ spell_fixes fs

unfoldable pub spell_list : Drift → List ℕ
spell_list d = spelled 2 d.issue ++ (spelled 2 (length d.fixes) ++ spell_fixes d.fixes)

-- every number fits its field
pub record FitsFix (f : Fields) : Type 0 where
  pub buoy : f.buoy < 2 ^ 20
  pub state : f.state < 2 ^ 2
  pub longitude : InBits 27 f.longitude
  pub latitude : InBits 26 f.latitude
  pub minute : f.minute < 2 ^ 14
