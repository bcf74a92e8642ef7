-- Soundings: whole sections, bytes and CRC written out. What the box does not read (the unread bytes, the ten zeros, the unread bit) no theorem about the box sees: here it is held.
use Prim.Native.Nat.{ℕ, ◌*◌, ◌≤◌}
use mathlib.Core.Path.{◌≡◌, refl}
use mathlib.Core.Logic.{inl, inr}
use mathlib.Core.List.Memᴰ
use mathlib.Core.List.{List, [], ◌∷◌, Memᴰ}
use native.Mathlib.Omega.{arith}
use lib.ListN.{replicate}
use Rattle.wire.specs.Fields.{spelled}
use Rattle.wire.specs.Items.{joined}
use Rattle.section.specs.Crc.{crc_bit, crc_bits, crc_from, crc_of}
use Rattle.carousel_messages.specs.Limits.{total}
use Rattle.carousel_messages.specs.Heard.{Announced}
use Rattle.carousel_record.specs.Blocks.{blocks_of, block_length_of}
use Rattle.carousel_record.specs.Record.{sums}
use Rattle.carousel_play.specs.Bytes.{front_bytes, section_bytes, message_bytes, module_bytes, list_bytes, announcement_bytes, block_data, block_bytes}
use Rattle.carousel_play.specs.Rotation.{module_sections, sections_to, block_sections, blocks_to, section_count, Playable, Holding}

-- An announcement of download 1, blockSize 4, module 1 of 6 bytes, version 0, identifier 0x80000002; its block 0, "ABCD"; and its last block, of what is left.
abbrev shown : Announced
shown = record { download = 1; block_size = 4; modules = record { number = 1; size = 6; version = 0 } ∷ [] }

abbrev letters : List ℕ
letters = 0x41 ∷ 0x42 ∷ 0x43 ∷ 0x44 ∷ 0x45 ∷ 0x46 ∷ []

-- it is an announcement within the limits, and the letters hold its module: so there are such
pub shown_playable : Playable shown × Holding shown letters
unfolding total
shown_playable = (
  record {
    keeps = record {
      block_some = omega arith;
      block_most = omega arith;
      modules_some = omega arith;
      modules_most = omega arith;
      sizes = only;
      together = omega arith;
      distinct = (λ m. Memᴰ.not-nil m, tt);
    };
    download = omega arith;
    number = λ i l. let z : i ≡ 0 = omega arith in rw z (omega arith);
    version = λ i l. let z : i ≡ 0 = omega arith in rw z (omega arith);
  },
  omega arith,
)
  where
    only : (z : ℕ) → Memᴰ z (6 ∷ []) → (1 ≤ z) × (z ≤ 1024 * 4)
    only z m = elim (Memᴰ.cases_cons m) [ inl e ↦ (omega arith, omega arith) | inr n ↦ absurd (Memᴰ.not-nil n) ]

pub written_announcement : announcement_bytes 0x80000002 shown ≡
    0x3B ∷ 0xB0 ∷ 0x33 ∷ 0x00 ∷ 0x02 ∷ 0xC1 ∷ 0x00 ∷ 0x00 ∷ 0x11 ∷ 0x03 ∷ 0x10 ∷ 0x02 ∷ 0x80 ∷ 0x00 ∷ 0x00 ∷ 0x02 ∷ 0xFF ∷ 0x00 ∷ 0x00 ∷ 0x1E ∷ 0x00 ∷ 0x00 ∷ 0x00 ∷ 0x01 ∷ 0x00 ∷ 0x04
    ∷ 0x00 ∷ 0x00 ∷ 0x00 ∷ 0x00 ∷ 0x00 ∷ 0x00 ∷ 0x00 ∷ 0x00 ∷ 0x00 ∷ 0x00 ∷ 0x00 ∷ 0x00 ∷ 0x00 ∷ 0x01 ∷ 0x00 ∷ 0x01 ∷ 0x00 ∷ 0x00 ∷ 0x00 ∷ 0x06 ∷ 0x00 ∷ 0x00 ∷ 0x00 ∷ 0x00
    ∷ 0x13 ∷ 0x99 ∷ 0x19 ∷ 0x34 ∷ []
unfolding crc_of crc_from crc_bits crc_bit joined spelled front_bytes section_bytes message_bytes module_bytes list_bytes announcement_bytes
written_announcement = refl

pub written-blocks : block_sections shown letters ≡
    (0x3C ∷ 0xB0 ∷ 0x1F ∷ 0x00 ∷ 0x01 ∷ 0xC1 ∷ 0x00 ∷ 0x01 ∷ 0x11 ∷ 0x03 ∷ 0x10 ∷ 0x03 ∷ 0x00 ∷ 0x00 ∷ 0x00 ∷ 0x01 ∷ 0xFF ∷ 0x00 ∷ 0x00 ∷ 0x0A ∷ 0x00 ∷ 0x01 ∷ 0x00 ∷ 0xFF ∷ 0x00 ∷ 0x00
    ∷ 0x41 ∷ 0x42 ∷ 0x43 ∷ 0x44 ∷ 0xAC ∷ 0x72 ∷ 0x9B ∷ 0x2F ∷ [])
    ∷ (0x3C ∷ 0xB0 ∷ 0x1D ∷ 0x00 ∷ 0x01 ∷ 0xC1 ∷ 0x01 ∷ 0x01 ∷ 0x11 ∷ 0x03 ∷ 0x10 ∷ 0x03 ∷ 0x00 ∷ 0x00 ∷ 0x00 ∷ 0x01 ∷ 0xFF ∷ 0x00 ∷ 0x00 ∷ 0x08 ∷ 0x00 ∷ 0x01 ∷ 0x00 ∷ 0xFF ∷ 0x00 ∷ 0x01
    ∷ 0x45 ∷ 0x46 ∷ 0x92 ∷ 0x0C ∷ 0x2E ∷ 0x31 ∷ [])
    ∷ []
unfolding crc_of crc_from crc_bits crc_bit spelled sums blocks_of block_length_of front_bytes section_bytes message_bytes block_data block_bytes module_sections sections_to
written-blocks = refl

-- Block 300 of a module of 301 blocks, number 7, version 33: section number 44 (300 mod 256), last 255, section version 1 (33 mod 32)
abbrev long : Announced
long = record { download = 0x01020304; block_size = 1; modules = record { number = 7; size = 301; version = 33 } ∷ [] }

pub high : block_bytes long 0 300 (replicate 301 0x5A) ≡
    0x3C ∷ 0xB0 ∷ 0x1C ∷ 0x00 ∷ 0x07 ∷ 0xC3 ∷ 0x2C ∷ 0xFF ∷ 0x11 ∷ 0x03 ∷ 0x10 ∷ 0x03 ∷ 0x01 ∷ 0x02 ∷ 0x03 ∷ 0x04 ∷ 0xFF ∷ 0x00 ∷ 0x00 ∷ 0x07 ∷ 0x00 ∷ 0x07 ∷ 0x21 ∷ 0xFF ∷ 0x01 ∷ 0x2C
    ∷ 0x5A ∷ 0xD6 ∷ 0x1C ∷ 0x08 ∷ 0xC1 ∷ []
unfolding crc_of crc_from crc_bits crc_bit spelled sums blocks_of block_length_of front_bytes section_bytes message_bytes block_data block_bytes
high = refl

-- three blocks, five, and the announcement
pub counted : section_count (record { download = 1; block_size = 400; modules = record { number = 1; size = 1000; version = 0 } ∷ record { number = 2; size = 2000; version = 0 } ∷ [] }) ≡ 9
unfolding blocks_to blocks_of
counted = refl
