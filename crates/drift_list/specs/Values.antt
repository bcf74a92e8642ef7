-- THE DRIFT LIST AS VALUES: no byte, no place. 02, §1.
use Rattle.std.specs.Prelude.{ℕ, zero, suc, ◌<◌, ◌^◌, ◌≡◌, ◌⊎◌, Bool, not, cond, ◌&&◌, ◌||◌, List, [], ◌∷◌, ltb, leb, eqb, length, get_or, ℤ, pos, negsuc}
use Rattle.wire.specs.Tests.{Tests, first_met}
use Rattle.wire.specs.Signed.{Between, between, is_zero}
use Rattle.drift_list.specs.declared.Fields.{Fields}
use Rattle.drift_list.specs.declared.State.{State}
use Rattle.drift_list.specs.declared.State.TheVariants as state
use Rattle.drift_list.specs.declared.Fix.{Fix}

-- the issue, and the records in their order. `Fields` is what stands in a record: five numbers; spare is zero by rule
pub record Drift : Type 0 where
  pub issue : ℕ
  pub fixes : List Fields

unfoldable pub no_fields : Fields
no_fields = record { buoy = 0; state = 0; longitude = pos 0; latitude = pos 0; minute = 0 }

-- A RECORD AS IT IS HANDED OUT: "Fix states: 0 none, 1 fix, 2 last known, 3 refused"
unfoldable pub state_of : ℕ → State
state_of n = cond (eqb n 0) state.None (cond (eqb n 1) state.Fix state.LastKnown)

unfoldable pub state_number : State → ℕ
state_number state.None = 0
state_number state.Fix = 1
state_number state.LastKnown = 2

unfoldable pub fix_of : Fields → Fix
fix_of f = record { buoy = f.buoy; state = state_of f.state; longitude = f.longitude; latitude = f.latitude; minute = f.minute }

-- "latitude within ±54,000,000, longitude from -107,999,999 to 108,000,000": `negsuc n` is -(n + 1)
abbrev pub west : ℤ
west = negsuc 107_999_998

abbrev pub east : ℤ
east = pos 108_000_000

abbrev pub south : ℤ
south = negsuc 53_999_999

abbrev pub north : ℤ
north = pos 54_000_000

-- "minute below 10,080"
abbrev pub week : ℕ
week = 10_080

-- both coordinates are zero
abbrev pub AtZero : Fields → Type 0
AtZero f = (f.longitude ≡ pos 0) × (f.latitude ≡ pos 0)

-- "State 0 must have both coordinates zero; states 1 and 2 must not have both zero"; state 3 is refused
abbrev pub StateTold : Fields → Type 0
StateTold f = ((f.state ≡ 0) × AtZero f) ⊎ (((f.state ≡ 1) ⊎ (f.state ≡ 2)) × (AtZero f → ⊥))

-- A RECORD BY ITSELF IS GOOD
pub record GoodFix (f : Fields) : Type 0 where
  pub longitude : Between west east f.longitude
  pub latitude : Between south north f.latitude
  pub minute : f.minute < week
  pub state : StateTold f

-- "Buoys are nonzero and strictly rising", of the first n records
abbrev pub Rising : ℕ → (ℕ → Fields) → Type 0
Rising n f = ((k : ℕ) → k < n → 0 < (f k).buoy) × ((k : ℕ) → suc k < n → (f k).buoy < (f (suc k)).buoy)

-- A DRIFT LIST IS GOOD: it has good records, rising, and every number fits its field
abbrev pub fix_among : List Fields → ℕ → Fields
fix_among fs k = get_or fs k no_fields

pub record GoodDrift (d : Drift) : Type 0 where
  pub issue : d.issue < 2 ^ 16
  pub count : length d.fixes < 2 ^ 16
  pub buoy : (k : ℕ) → k < length d.fixes → (fix_among d.fixes k).buoy < 2 ^ 20
  pub good : (k : ℕ) → k < length d.fixes → GoodFix (fix_among d.fixes k)
  pub rising : Rising (length d.fixes) (fix_among d.fixes)

-- THE TESTS OF ONE RECORD, lowest first: the buoy before it (0 before the first), its values, and its spare bits

-- 31: coordinate range
unfoldable pub meets31 : Fields → Bool
meets31 f = not (between west east f.longitude) || not (between south north f.latitude)

-- 32: minute
abbrev pub meets32 : Fields → Bool
meets32 f = leb week f.minute

-- 33: buoy zero or not rising
abbrev pub meets33 : (before : ℕ) → Fields → Bool
meets33 before f = leb f.buoy before

-- 34: spare
abbrev pub meets34 : (spare : ℕ) → Bool
meets34 spare = ltb 0 spare

-- 35: state 3, or state against coordinates
abbrev pub at_zero : Fields → Bool
at_zero f = is_zero f.longitude && is_zero f.latitude

unfoldable pub state_fault : (state : ℕ) (zero : Bool) → Bool
state_fault n z = leb 3 n || cond (eqb n 0) (not z) z

abbrev pub meets35 : Fields → Bool
meets35 f = state_fault f.state (at_zero f)

unfoldable pub fix_tests : (before : ℕ) → Fields → (spare : ℕ) → Tests
fix_tests before f spare =
    (31, meets31 f)
    ∷ (32, meets32 f)
    ∷ (33, meets33 before f)
    ∷ (34, meets34 spare)
    ∷ (35, meets35 f)
    ∷ []

-- the buoy before record k
abbrev pub buoy_before : (ℕ → Fields) → ℕ → ℕ
buoy_before f zero = 0
buoy_before f (suc k) = (f k).buoy

-- record k's refusal, 0 where it has none
unfoldable pub refusal_at : (ℕ → Fields) → (ℕ → ℕ) → ℕ → ℕ
refusal_at f spare k = first_met (fix_tests (buoy_before f k) (f k) (spare k))

-- "at the first faulty record": the first of n refusals from record k on that is not 0
unfoldable pub first_fault : (n k : ℕ) → (ℕ → ℕ) → ℕ
first_fault zero k refused = 0
first_fault (suc n) k refused = cond (eqb (refused k) 0) (first_fault n (suc k) refused) (refused k)
