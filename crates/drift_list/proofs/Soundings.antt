-- Worked records and lists, computed.
use Prim.Native.Nat.{ℕ}
use mathlib.Core.Path.{◌≡◌, refl}
use mathlib.Core.List.{List, [], ◌∷◌}
use lib.IntN.{ℤ, pos, negsuc}
use Rattle.wire.specs.Fields.{spelled}
use Rattle.wire.specs.Bits.{bits_at, put_bit, put_bits}
use Rattle.wire.specs.Signed.{signed, twos, between}
use Rattle.wire.specs.Tests.{first_met}
use Rattle.drift_list.specs.declared.Fields.{Fields}
use Rattle.drift_list.specs.Values.{Drift, meets31, state_fault, fix_tests, refusal_at, first_fault}
use Rattle.drift_list.specs.Reading.{fields_from, spare_from, read_refusal, spell_fix, spell_fixes, spell_list}

-- a record after buoy 5, and its refusal: `negsuc n` is -(n + 1)
abbrev fields : (buoy state : ℕ) (longitude latitude : ℤ) (minute : ℕ) → Fields
fields b s x y m = record { buoy = b; state = s; longitude = x; latitude = y; minute = m }

abbrev judged : Fields → (spare : ℕ) → ℕ
judged f spare = first_met (fix_tests 5 f spare)

-- the ends of the ranges, and one past them
ranges :
    (judged (fields 6 1 (pos 108_000_000) (pos 54_000_000) 10_079) 0 ≡ 0)
    × (judged (fields 6 2 (negsuc 107_999_998) (negsuc 53_999_999) 0) 0 ≡ 0)
    × (judged (fields 6 1 (pos 108_000_001) (pos 1) 0) 0 ≡ 31)
    × (judged (fields 6 1 (negsuc 107_999_999) (pos 1) 0) 0 ≡ 31)
    × (judged (fields 6 1 (pos 1) (pos 54_000_001) 0) 0 ≡ 31)
    × (judged (fields 6 1 (pos 1) (negsuc 54_000_000) 0) 0 ≡ 31)
    × (judged (fields 6 1 (pos 1) (pos 1) 10_080) 0 ≡ 32)
    × (judged (fields 5 1 (pos 1) (pos 1) 0) 0 ≡ 33)
    × (judged (fields 0 1 (pos 1) (pos 1) 0) 0 ≡ 33)
    × (judged (fields 6 1 (pos 1) (pos 1) 0) 1 ≡ 34)
unfolding first_met fix_tests meets31 between state_fault
ranges = (refl, refl, refl, refl, refl, refl, refl, refl, refl, refl)

-- state against coordinates: "one zero is fine" of states 1 and 2
states :
    (judged (fields 6 0 (pos 0) (pos 0) 0) 0 ≡ 0)
    × (judged (fields 6 0 (pos 1) (pos 0) 0) 0 ≡ 35)
    × (judged (fields 6 0 (pos 0) (negsuc 0) 0) 0 ≡ 35)
    × (judged (fields 6 1 (pos 0) (pos 0) 0) 0 ≡ 35)
    × (judged (fields 6 2 (pos 0) (pos 1) 0) 0 ≡ 0)
    × (judged (fields 6 1 (negsuc 0) (pos 0) 0) 0 ≡ 0)
    × (judged (fields 6 3 (pos 1) (pos 1) 0) 0 ≡ 35)
unfolding first_met fix_tests meets31 between state_fault
states = (refl, refl, refl, refl, refl, refl, refl)

-- "the lowest of": a record of state 3 that is out of range is 31
lowest : judged (fields 6 3 (negsuc 107_999_999) (pos 1) 0) 0 ≡ 31
unfolding first_met fix_tests meets31 between state_fault
lowest = refl

-- A LIST OF ONE RECORD: issue 7; buoy 1, a fix, longitude -1, the north pole, the week's last minute
one : Drift
one = record { issue = 7; fixes = fields 1 1 (negsuc 0) (pos 54_000_000) 10_079 ∷ [] }

abbrev bytes : (last : ℕ) → List ℕ
bytes last = 0x00 ∷ 0x07 ∷ 0x00 ∷ 0x01 ∷ 0x00 ∷ 0x00 ∷ 0x17 ∷ 0xFF ∷ 0xFF ∷ 0xFF ∷ 0xD9 ∷ 0xBF ∷ 0xCC ∷ 0x04 ∷ 0xEB ∷ last ∷ []

written : spell_list one ≡ bytes 0xE0
unfolding one spell_list spell_fixes spell_fix put_bit put_bits twos spelled
written = refl

-- it is taken; with a spare bit, a byte less, and no record at all
lists :
    (read_refusal (bytes 0xE0) ≡ 0)
    × (read_refusal (bytes 0xE1) ≡ 34)
    × (read_refusal (0x00 ∷ 0x07 ∷ 0x00 ∷ []) ≡ 30)
    × (read_refusal (0x00 ∷ 0x07 ∷ 0x00 ∷ 0x00 ∷ []) ≡ 0)
unfolding read_refusal first_fault refusal_at fix_tests first_met fields_from spare_from bits_at signed meets31 between state_fault
lists = (refl, refl, refl, refl)
