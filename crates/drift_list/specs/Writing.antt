-- WHAT THE WRITER IS GIVEN, AND ITS REFUSALS. 02, §1: 36 "before all others", 37 "last".
use Rattle.std.specs.Prelude.{ℕ, ◌+◌, ◌*◌, ◌%◌, ◌^◌, ◌<◌, ◌≡◌, Bool, true, not, cond, ◌||◌, List, [], ◌∷◌, ◌++◌, Result, leb, ltb, eqb, length, get_or, drop, ℤ, pos, negsuc}
use Rattle.std.specs.Int.Signed.{mag}
use Rattle.drift_list.specs.declared.Fields.{Fields}
use Rattle.wire.specs.Outcomes.{answered}
use Rattle.wire.specs.Tests.{Tests}
use Rattle.wire.specs.Signed.{InBits}
use Rattle.drift_list.specs.Values.{Drift, GoodFix, Rising, refusal_at, first_fault}
use Rattle.drift_list.specs.Reading.{fixes_from, spell_list}

-- an issue, a count, and five numbers for each record: buoy, state, longitude, latitude, minute
pub record Draft : Type 0 where
  pub issue : ℕ
  pub count : ℕ
  pub numbers : List ℤ

abbrev pub draft : (issue count : ℕ) → List ℤ → Draft
draft i c ns = record { issue = i; count = c; numbers = ns }

abbrev pub cell : List ℤ → ℕ → ℤ
cell ns i = get_or ns i (pos 0)

-- the record whose numbers begin at place i. Of numbers too wide for their fields it says something, too; they are refused before it is asked.
unfoldable pub fix_in : List ℤ → ℕ → Fields
fix_in ns i = record {
  buoy = mag (cell ns i);
  state = mag (cell ns (i + 1)) % 2 ^ 8;
  longitude = cell ns (i + 2);
  latitude = cell ns (i + 3);
  minute = mag (cell ns (i + 4)) % 2 ^ 16;
}

abbrev pub fix_given : List ℤ → ℕ → Fields
fix_given ns k = fix_in ns (5 * k)

-- the values that are given
unfoldable pub value_of : Draft → Drift
value_of d = record { issue = d.issue; fixes = fixes_from d.count 0 (fix_given d.numbers) }

-- a number without sign, below `top`
abbrev pub InField : (top : ℕ) → ℤ → Type 0
InField top (pos n) = n < top
InField top (negsuc n) = ⊥

-- the five numbers from place i on are in their fields
pub record InFields (ns : List ℤ) (i : ℕ) : Type 0 where
  pub buoy : InField (2 ^ 20) (cell ns i)
  pub state : InField (2 ^ 2) (cell ns (i + 1))
  pub longitude : InBits 27 (cell ns (i + 2))
  pub latitude : InBits 26 (cell ns (i + 3))
  pub minute : InField (2 ^ 14) (cell ns (i + 4))

-- no value is "too wide for its field", and the count is "the number of records"
pub record Fitting (d : Draft) : Type 0 where
  pub issue : d.issue < 2 ^ 16
  pub count : d.count < 2 ^ 16
  pub number : length d.numbers ≡ 5 * d.count
  pub fields : (k : ℕ) → k < d.count → InFields d.numbers (5 * k)

-- THE DRAFT IS GOOD
pub record GoodDraft (d : Draft) : Type 0 where
  pub fitting : Fitting d
  pub good : (k : ℕ) → k < d.count → GoodFix (fix_given d.numbers k)
  pub rising : Rising d.count (fix_given d.numbers)

-- REFUSALS
unfoldable pub outside : (top : ℕ) → ℤ → Bool
outside top (pos n) = leb top n
outside top (negsuc n) = true

abbrev pub outside_signed : (half : ℕ) → ℤ → Bool
outside_signed half z = leb half (mag z)

unfoldable pub wide_at : List ℤ → ℕ → Bool
wide_at ns i =
    outside (2 ^ 20) (cell ns i) || outside (2 ^ 2) (cell ns (i + 1)) || outside_signed (2 ^ 27) (cell ns (i + 2)) || outside_signed (2 ^ 26) (cell ns (i + 3)) || outside (2 ^ 14) (cell ns (i + 4))

abbrev pub wide_refusal : List ℤ → ℕ → ℕ
wide_refusal ns k = cond (wide_at ns (5 * k)) 36 0

unfoldable pub head_wide : Draft → Bool
head_wide d = leb (2 ^ 16) d.issue || leb (2 ^ 16) d.count || not (eqb (length d.numbers) (5 * d.count))

-- a first answer, and where it is 0 another
unfoldable pub or_else : ℕ → ℕ → ℕ
or_else n m = cond (eqb n 0) m n

-- the refusal of the first record with a value too wide, and of the first faulty one; a record holds no spare, so that is 0
abbrev pub width_of : Draft → ℕ
width_of d = first_fault d.count 0 (wide_refusal d.numbers)

abbrev pub given_fault : Draft → ℕ
given_fault d = first_fault d.count 0 (refusal_at (fix_given d.numbers) (λ k. 0))

-- 37: a short buffer
abbrev pub meets37 : Draft → (room : ℕ) → Bool
meets37 d room = ltb room (4 + 12 * d.count)

-- 36; then the first faulty record's; then 37
unfoldable pub write_refusal : Draft → (room : ℕ) → ℕ
write_refusal d room = or_else (cond (head_wide d) 36 0) (or_else (width_of d) (or_else (given_fault d) (cond (meets37 d room) 37 0)))

-- the same as a table of tests, in their order
-- 36: a value too wide for its field, or a count that isn't the number of records
unfoldable pub meets36 : Draft → Bool
meets36 d = head_wide d || not (eqb (width_of d) 0)

unfoldable pub write_tests : Draft → (room : ℕ) → Tests
write_tests d room =
    (36, meets36 d)
    ∷ (31, eqb (given_fault d) 31)
    ∷ (32, eqb (given_fault d) 32)
    ∷ (33, eqb (given_fault d) 33)
    ∷ (35, eqb (given_fault d) 35)
    ∷ (37, meets37 d room)
    ∷ []

-- WHAT THE WRITER ANSWERS: the size, or the refusal
unfoldable pub write_answer : Draft → (room : ℕ) → Result ℕ ℕ
write_answer d room = answered (write_refusal d room) (4 + 12 * d.count)

-- AND WHAT IT LEAVES in the lent bytes: the list and, after it, what was there; "a refusal writes nothing"
unfoldable pub written_bytes : Draft → (out : List ℕ) → List ℕ
written_bytes d out = cond (eqb (write_refusal d (length out)) 0) (spell_list (value_of d) ++ drop (4 + 12 * d.count) out) out

-- values given as numbers
unfoldable pub rows_of : List Fields → List ℤ
rows_of [] = []
rows_of (f ∷ fs) = pos f.buoy ∷ pos f.state ∷ f.longitude ∷ f.latitude ∷ pos f.minute ∷ rows_of fs

unfoldable pub draft_of : Drift → Draft
draft_of v = record { issue = v.issue; count = length v.fixes; numbers = rows_of v.fixes }
