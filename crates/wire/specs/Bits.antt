-- Fields of bits in bytes, at any bit place and of any width, and how one is put. Bit 0 is the most significant of byte 0, bit 8 that of byte 1. A
-- bit past the end of a list reads as 0, and putting one there changes nothing.
use Rattle.std.specs.Prelude.{ℕ, zero, suc, ◌+◌, ◌-◌, ◌*◌, ◌/◌, ◌%◌, ◌^◌, ◌<◌, List, [], ◌∷◌, set}
use Rattle.wire.specs.Fields.{byte_at, bits}

-- each number of a list is a byte
abbrev pub AllBytes : List ℕ → Type 0
AllBytes s = (k : ℕ) → byte_at s k < 256

-- how far bit i stands above the lowest of its byte
abbrev pub above : ℕ → ℕ
above i = 7 - i % 8

-- bit i
abbrev pub bit_at : List ℕ → ℕ → ℕ
bit_at s i = bits (above i) 1 (byte_at s (i / 8))

-- the n bits from bit i on as one number, most significant first
unfoldable pub bits_at : (n : ℕ) → List ℕ → (i : ℕ) → ℕ
bits_at zero s i = 0
bits_at (suc n) s i = bits_at n s i * 2 + bit_at s (i + n)

-- a number with its bit of weight 2 ^ j made v
abbrev pub with_bit_of : (j v x : ℕ) → ℕ
with_bit_of j v x = (x / 2 ^ suc j * 2 + v) * 2 ^ j + x % 2 ^ j

-- THE WRITER: bit i made the lowest bit of v, and the n bits from bit i on made the n lowest of v
unfoldable pub put_bit : (v : ℕ) → List ℕ → (i : ℕ) → List ℕ
put_bit v s i = set s (i / 8) (with_bit_of (above i) (v % 2) (byte_at s (i / 8)))

unfoldable pub put_bits : (n v : ℕ) → List ℕ → (i : ℕ) → List ℕ
put_bits zero v s i = s
put_bits (suc n) v s i = put_bit v (put_bits n (v / 2) s i) (i + n)

-- FIELDS SIDE BY SIDE, of these widths: how many bits they have together, what stands in them from bit i on, and how values are put into them
abbrev pub width : List ℕ → ℕ
width [] = 0
width (w ∷ ws) = w + width ws

abbrev pub values_at : (ws : List ℕ) → List ℕ → (i : ℕ) → List ℕ
values_at [] s i = []
values_at (w ∷ ws) s i = bits_at w s i ∷ values_at ws s (i + w)

abbrev pub put_all : (ws vs : List ℕ) → List ℕ → (i : ℕ) → List ℕ
put_all [] vs s i = s
put_all (w ∷ ws) [] s i = s
put_all (w ∷ ws) (v ∷ vs) s i = put_all ws vs (put_bits w v s i) (i + w)

-- as many values as widths, each below its own
abbrev pub Fit : (ws vs : List ℕ) → Type 0
Fit [] [] = Unit {0}
Fit [] (v ∷ vs) = ⊥
Fit (w ∷ ws) [] = ⊥
Fit (w ∷ ws) (v ∷ vs) = (v < 2 ^ w) × Fit ws vs
