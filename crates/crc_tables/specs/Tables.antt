-- The tables of the CRC, said by the CRC itself: nothing in them is a number of its own.
use Rattle.std.specs.Prelude.{ℕ, zero, suc, ◌/◌, ◌%◌, List, [], ◌∷◌, ◌++◌, replicate}
use Rattle.section.specs.Crc.{crc_from}

-- what the byte b leaves of a clear register when k clear bytes follow
unfoldable pub left : (k b : ℕ) → ℕ
left k b = crc_from 0 (b ∷ replicate k 0)

-- the first n entries: entry b of table k lies at k * 256 + b
unfoldable pub first_entries : ℕ → List ℕ
first_entries zero = []
first_entries (suc n) = first_entries n ++ (left (n / 256) (n % 256) ∷ [])

-- sixteen tables
unfoldable pub crc_tables : List ℕ
crc_tables = first_entries 4096
