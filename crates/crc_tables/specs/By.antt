-- The CRC taken sixteen bytes at a time, by sixteen tables of 256 words that lie one after the other in one list: whatever the list holds.
use Rattle.std.specs.Prelude.{ℕ, zero, suc, ◌+◌, ◌-◌, ◌*◌, ◌/◌, ◌%◌, ◌^◌, cond, List, [], ◌∷◌, ltb, length, get_or, drop}
use Rattle.std.specs.Int.Bits.{bit_xor}
use Rattle.section.specs.Crc.{all_ones, crc_of}

infixl 68 ◌⊕◌
abbrev pub ◌⊕◌ : ℕ → ℕ → ℕ
a ⊕ b = bit_xor a b

-- entry x of table k, of x its eight low bits
abbrev pub entry_of : (t : List ℕ) (k x : ℕ) → ℕ
entry_of t k x = get_or t (k * 256 + x % 256) 0

-- the register r after the first four bytes of s and k clear bytes
unfoldable pub four : (t : List ℕ) (k r : ℕ) (s : List ℕ) → ℕ
four t k r s =
    entry_of t (k + 3) (r / 2 ^ 24 ⊕ get_or s 0 0)
    ⊕ entry_of t (k + 2) (r / 2 ^ 16 ⊕ get_or s 1 0)
    ⊕ entry_of t (k + 1) (r / 2 ^ 8 ⊕ get_or s 2 0)
    ⊕ entry_of t k (r ⊕ get_or s 3 0)

-- the register r after the first sixteen bytes of s, all at once
unfoldable pub sixteen : (t : List ℕ) (r : ℕ) (s : List ℕ) → ℕ
sixteen t r s = four t 8 0 (drop 4 s) ⊕ four t 4 0 (drop 8 s) ⊕ four t 0 0 (drop 12 s) ⊕ four t 12 r s

-- after one byte
unfoldable pub one : (t : List ℕ) (r b : ℕ) → ℕ
one t r b = r * 256 % 2 ^ 32 ⊕ entry_of t 0 (r / 2 ^ 24 ⊕ b)

-- after some bytes, one after the other
unfoldable pub ones : (t : List ℕ) (r : ℕ) → List ℕ → ℕ
ones t r [] = r
ones t r (b ∷ s) = ones t (one t r b) s

-- what some bytes leave of a clear register, each by the table that counts those after it
unfoldable pub from_clear : (t : List ℕ) → List ℕ → ℕ
from_clear t [] = 0
from_clear t (b ∷ s) = entry_of t (length s) b ⊕ from_clear t s

-- the register r after all bytes of s, all at once where there are four
unfoldable pub up_to15 : (t : List ℕ) (r : ℕ) (s : List ℕ) → ℕ
up_to15 t r s = cond (ltb (length s) 4) (ones t r s) (from_clear t (drop 4 s) ⊕ four t (length s - 4) r s)

-- after n groups of sixteen, and then the rest
unfoldable pub groups : (t : List ℕ) (n r : ℕ) → List ℕ → ℕ
groups t zero r s = up_to15 t r s
groups t (suc n) r s = groups t n (sixteen t r s) (drop 16 s)

-- A list that is too short for sixteen tables is not looked at.
unfoldable pub crc_by : (t s : List ℕ) → ℕ
crc_by t s = cond (ltb (length t) 4096) (crc_of s) (groups t (length s / 16) all_ones s)
