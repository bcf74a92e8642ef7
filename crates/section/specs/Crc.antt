-- The CRC of ISO/IEC 13818-1. 01, "The section": "generator 0x04C11DB7, register starts all ones, most significant bit first, no final change".
use Rattle.std.specs.Prelude.{ℕ, zero, suc, ◌*◌, ◌/◌, ◌%◌, ◌^◌, cond, List, [], ◌∷◌, eqb}
use Rattle.std.specs.Int.Bits.{bit_xor}

abbrev pub generator : ℕ
generator = 0x04C1_1DB7

abbrev pub all_ones : ℕ
all_ones = 0xFFFF_FFFF

-- One bit d of the message: the register of 32 bits moves up by one, and where the bit that leaves it at the top is not d, the generator is added without carry.
unfoldable pub crc_bit : (r d : ℕ) → ℕ
crc_bit r d = cond (eqb (r / 2 ^ 31) d) (r * 2 % 2 ^ 32) (bit_xor (r * 2 % 2 ^ 32) generator)

-- the n low bits of b, most significant first
unfoldable pub crc_bits : (n b r : ℕ) → ℕ
crc_bits zero b r = r
crc_bits (suc n) b r = crc_bits n b (crc_bit r (b / 2 ^ n % 2))

abbrev pub crc_byte : (r b : ℕ) → ℕ
crc_byte r b = crc_bits 8 b r

-- the register after some bytes
unfoldable pub crc_from : ℕ → List ℕ → ℕ
crc_from r [] = r
crc_from r (b ∷ bs) = crc_from (crc_byte r b) bs

unfoldable pub crc_of : List ℕ → ℕ
crc_of s = crc_from all_ones s
