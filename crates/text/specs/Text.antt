-- Text in lent bytes, and a number as text. Nothing here is of DVB.
use Rattle.std.specs.Prelude.{ℕ, zero, suc, ◌+◌, ◌/◌, ◌%◌, cond, List, [], ◌∷◌, ◌++◌, eqb, ltb}
use Prim.Native.Char.{code}
use Prim.Native.String.{String}
use Prim.Native.String.{[] as String·[], ◌∷◌ as ◌String·∷◌}

-- THE CODES OF A QUOTED TEXT
abbrev pub codes : String → List ℕ
codes String·[] = []
codes (c String·∷ s) = code c ∷ codes s

-- TEXT PUT INTO LENT BYTES from a place on: `sets out at text`, one byte after another. A store past the end changes nothing, so what there is no room for is left out.

-- the place after it: no further than the room
unfoldable pub reached : (at size room : ℕ) → ℕ
reached at size room = cond (ltb (at + size) room) (at + size) (cond (ltb at room) room at)

-- WORD k OF A TEXT whose words stand apart by single spaces, counted from 0; nothing where it has fewer
unfoldable pub word_at : ℕ → List ℕ → List ℕ
word_at k [] = []
word_at zero (c ∷ cs) = cond (eqb c 32) [] (c ∷ word_at zero cs)
word_at (suc k) (c ∷ cs) = cond (eqb c 32) (word_at k cs) (word_at (suc k) cs)

-- A NUMBER IN DECIMAL DIGITS, the fewest, the greatest first. 01, "Soundings": "index,answer,kind"

-- the code of a digit, "0" to "9"
abbrev pub digit : ℕ → ℕ
digit d = 48 + d

-- in at most so many digits
unfoldable pub digits_in : (most : ℕ) → ℕ → List ℕ
digits_in zero n = []
digits_in (suc most) n = cond (ltb n 10) (digit n ∷ []) (digits_in most (n / 10) ++ digit (n % 10) ∷ [])

-- every number of 64 bits has at most 20
abbrev pub decimal : ℕ → List ℕ
decimal n = digits_in 20 n
