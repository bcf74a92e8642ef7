-- Worked examples, computed from the definitions: the CRC's known check value, an application section that is accepted, so that acceptance is not empty, and where others broke.
use mathlib.Core.Path.{◌≡◌, refl}
use mathlib.Core.List.{List, [], ◌∷◌}
use Prim.Native.Nat.{ℕ}
use Rattle.std.proofs.Common.{Some, Ok, Err}
use Rattle.wire.specs.Fields.{field_at}
use Rattle.wire.specs.Tests.{first_met}
use Rattle.section.specs.Crc.{crc_bit, crc_bits, crc_from, crc_of}
use Rattle.section.specs.Refusals.{meets2, meets3, meets4, meets5, meets6, refusal_by, spot_of}
use Rattle.section.specs.Answer.{checked_by, checked_of}
use Rattle.section.specs.declared.Rules.TheVariants.{Application, Carousel}
use Rattle.section.specs.declared.Refusal.{Refusal}

-- "123456789"
pub digits : crc_of (0x31 ∷ 0x32 ∷ 0x33 ∷ 0x34 ∷ 0x35 ∷ 0x36 ∷ 0x37 ∷ 0x38 ∷ 0x39 ∷ []) ≡ 0x0376_E6E7
unfolding crc_of crc_from crc_bits crc_bit
digits = refl

-- no byte at all: the register as it starts
pub nothing : crc_of [] ≡ 0xFFFF_FFFF
unfolding crc_of crc_from
nothing = refl

abbrev at : (number place : ℕ) → Refusal
at n p = record { number = n; place = Some p }

-- an application section with nothing in it, of type 1 and version 0; by the carousel's rules its table is the wrong one
abbrev empty_table : List ℕ
empty_table = 0x74 ∷ 0xB0 ∷ 0x0D ∷ 0x00 ∷ 0x01 ∷ 0xC1 ∷ 0x00 ∷ 0x00 ∷ 0xF0 ∷ 0x00 ∷ 0xF0 ∷ 0x00 ∷ 0x26 ∷ 0x71 ∷ 0x6E ∷ 0xA0 ∷ []

pub accepted : (checked_of Application empty_table ≡ Ok (record { table = 0x74; extension = 1; version = 0; section = 0; last = 0 }))
    × (checked_of Carousel empty_table ≡ Err (at 3 0))
unfolding crc_of crc_from crc_bits crc_bit field_at checked_by refusal_by spot_of first_met meets2 meets3 meets4 meets5 meets6
accepted = (refl, refl)

-- a section whose number is 3 over a last of 2, and one of current_next 0
abbrev numbered : (flags : ℕ) → List ℕ
numbered flags = 0x3C ∷ flags ∷ 9 ∷ 0 ∷ 0 ∷ 0xC1 ∷ 3 ∷ 2 ∷ 0 ∷ 0 ∷ 0 ∷ 0 ∷ []

abbrev next : List ℕ
next = 0x74 ∷ 0xB0 ∷ 13 ∷ 0 ∷ 1 ∷ 0xC0 ∷ 0 ∷ 0 ∷ 0xF0 ∷ 0 ∷ 0xF0 ∷ 0 ∷ 0x69 ∷ 0x26 ∷ 0x06 ∷ 0xB1 ∷ []

-- 02, §9, where it broke: a section of 2 bytes, and the empty one; L = 8; section number 3 over last 2; the same under a syntax indicator 0; L = 13 with a CRC that is wrong in its last
-- byte; current_next 0
pub places : (checked_of Application (0x74 ∷ 0xB0 ∷ []) ≡ Err (at 2 2))
    × (checked_of Application [] ≡ Err (at 2 0))
    × (checked_of Carousel (0x3C ∷ 0xB0 ∷ 8 ∷ 0 ∷ 0 ∷ 0xC1 ∷ 0 ∷ 0 ∷ 0 ∷ 0 ∷ 0 ∷ []) ≡ Err (at 4 1))
    × (checked_of Carousel (numbered 0xB0) ≡ Err (at 4 6))
    × (checked_of Carousel (numbered 0x30) ≡ Err (at 4 1))
    × (checked_of Application (0x74 ∷ 0xB0 ∷ 13 ∷ 0 ∷ 1 ∷ 0xC1 ∷ 0 ∷ 0 ∷ 0xF0 ∷ 0 ∷ 0xF0 ∷ 0 ∷ 0x26 ∷ 0x71 ∷ 0x6E ∷ 0xA1 ∷ []) ≡ Err (at 5 12))
    × (checked_of Application next ≡ Err (at 6 5))
unfolding crc_of crc_from crc_bits crc_bit field_at checked_by refusal_by spot_of first_met meets2 meets3 meets4 meets5 meets6
places = (refl, refl, refl, refl, refl, refl, refl)
