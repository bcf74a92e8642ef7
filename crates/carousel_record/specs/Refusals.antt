-- The refusals that a record holds against a data section and against a hand-out alike. 01, "Numbers a call may answer".
use Rattle.std.specs.Prelude.{ℕ, Bool, not, ltb, length}
use Rattle.carousel_messages.specs.Heard.{Announced}
use Rattle.carousel_record.specs.Record.{place_of, bytes_of}

-- 13: "module not announced"
unfoldable pub meets13 : Announced → ℕ → Bool
meets13 a number = not (ltb (place_of a number) (length a.modules))

-- 15: "image shorter than the record's sizes together", the image being of length n
unfoldable pub meets15 : Announced → ℕ → Bool
meets15 a n = ltb n (bytes_of a)
