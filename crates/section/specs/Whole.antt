-- The section that a stretch of bytes begins with. 01, "The run".
use Rattle.std.specs.Prelude.{ℕ, ◌+◌, Bool, cond, ◌||◌, List, eqb, ltb, length}
use Rattle.wire.specs.Fields.{byte_at}
use Rattle.section.specs.Header.{length_of}

-- what it says of its length: "3 + L bytes"
abbrev pub said_length : List ℕ → ℕ
said_length s = 3 + length_of s

-- "fewer than 3 or 3 + L bytes"
abbrev pub is_short : List ℕ → Bool
is_short s = ltb (length s) 3 || ltb (length s) (said_length s)

-- its length; 0 where there is none that is whole: too few bytes, or 0xFF, which is stuffing
unfoldable pub whole_at : List ℕ → ℕ
whole_at s = cond (is_short s || eqb (byte_at s 0) 0xFF) 0 (said_length s)
