-- WHAT DECIMAL DIGITS SAY: a number read from text. Nothing here is of DVB.
use Rattle.std.specs.Prelude.{ℕ, ◌+◌, ◌-◌, ◌*◌, Bool, true, cond, not, ◌&&◌, Option, None, Some, List, [], ◌∷◌, eqb, leb, length}

-- digits, "0" to "9", and nothing else
unfoldable pub all_digits : List ℕ → Bool
all_digits [] = true
all_digits (d ∷ ds) = (leb 48 d && leb d 57) && all_digits ds

-- what digits say, the greatest first, after a number n
unfoldable pub value_from : (n : ℕ) → List ℕ → ℕ
value_from n [] = n
value_from n (d ∷ ds) = value_from (n * 10 + (d - 48)) ds

-- one or more digits that say a number of at most so much; leading zeros are taken
unfoldable pub said_by : (most : ℕ) → List ℕ → Option ℕ
said_by most xs = cond (not (eqb (length xs) 0) && all_digits xs && leb (value_from 0 xs) most) (Some (value_from 0 xs)) None
