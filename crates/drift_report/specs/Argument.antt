-- THE ARGUMENT: "the module's number in decimal", a number of 16 bits.
use Rattle.std.specs.Prelude.{ℕ, ◌^◌, cond, not, ◌&&◌, List, Option, None, Some, eqb, ltb, length}
use Rattle.text.specs.Digits.{all_digits, value_from}

-- one or more digits that say a number of 16 bits; leading zeros are taken
unfoldable pub module_asked : List ℕ → Option ℕ
module_asked xs = cond (not (eqb (length xs) 0) && all_digits xs && ltb (value_from 0 xs) (2 ^ 16)) (Some (value_from 0 xs)) None
