-- Worked examples, computed from the definitions: the paper's soundings of refusals 9 and 10, those of 02 §6 and §8, and an announcement and a block that are taken, so that acceptance is not empty.
use mathlib.Core.Path.{◌≡◌, refl}
use mathlib.Core.Bool.{true, false}
use mathlib.Core.List.{List, [], ◌∷◌, ◌++◌}
use Prim.Native.Nat.{ℕ}
use Rattle.std.proofs.Common.{Ok, Err}
use lib.ListN.{replicate}
use Rattle.wire.specs.Fields.{field_at}
use Rattle.wire.specs.Tests.{first_met}
use Rattle.wire.specs.Items.{framed, items_in, items, end_of}
use Rattle.section.specs.declared.Header.{Header}
use Rattle.section.specs.Crc.{crc_bit, crc_bits, crc_from, crc_of}
use Rattle.section.specs.Refusals.{meets2, meets3, meets4, meets5, meets6, refusal_by}
use Rattle.section.specs.Answer.{refused, checked_by}
use Rattle.carousel_messages.specs.declared.Announcement.{Announcement}
use Rattle.carousel_messages.specs.declared.Block.{Block}
use Rattle.carousel_messages.specs.declared.Message.TheVariants.{Announced, Carried}
use Rattle.carousel_messages.specs.Judged.{announcement_of, block_of, read_of, message_judged, judged_of, judged_by}
use Rattle.carousel_messages.specs.declared.CarouselTable.TheVariants.{Announcements, Blocks}
use Rattle.carousel_messages.specs.Contents.{announcement_framed}
use Rattle.carousel_messages.specs.Limits.{some_bad, total, beyond10, among, twice11}
use Rattle.carousel_messages.specs.Refusals.{short7, meets8, message_framed, payload_framed, message_meets7, meets9, meets10, meets11, message_refusal}

-- 02 §8: "blockSize 1: 1,024 taken, 1,025 gives 10; blockSize 400: 262,143 and 1 taken, 262,144 and 1 gives 10"; 32 modules are taken, 33 give 10
pub sizes : (beyond10 1 (1024 ∷ []) ≡ false) × (beyond10 1 (1025 ∷ []) ≡ true) × (beyond10 400 (262143 ∷ 1 ∷ []) ≡ false)
    × (beyond10 400 (262144 ∷ 1 ∷ []) ≡ true) × (beyond10 4066 (262144 ∷ []) ≡ false) × (beyond10 4067 (1 ∷ []) ≡ true)
    × (beyond10 1 (replicate 32 1) ≡ false) × (beyond10 1 (replicate 33 1) ≡ true)
unfolding beyond10 some_bad total
sizes = (refl, refl, refl, refl, refl, refl, refl, refl)

-- the header of a section of module 7, with this section number
abbrev pub headed : ℕ → Header
headed n = record { table = 0x3C; extension = 7; version = 1; section = n; last = 255 }

-- a block of module 7 in download 5: two adaptation bytes, then block 300, of one byte
abbrev pub block300 : List ℕ
block300 =
    0x11 ∷ 0x03 ∷ 0x10 ∷ 0x03 ∷ 0 ∷ 0 ∷ 0 ∷ 5 ∷ 0xFF ∷ 2 ∷ 0 ∷ 9 ∷ 0xAA ∷ 0xAA ∷ 0 ∷ 7 ∷ 1 ∷ 0xFF ∷ 1 ∷ 44 ∷ 0x55 ∷ []

-- "block 300 with section number 44 passes 9"; a block in the announcements' table is 8; a body of 11 bytes is 7, whatever they are
pub blocks : (message_refusal Blocks (headed 44) block300 ≡ 0) × (message_refusal Blocks (headed 45) block300 ≡ 9)
    × (message_refusal Announcements (headed 44) block300 ≡ 8) × (message_refusal Blocks (headed 44) (0 ∷ 0 ∷ 0 ∷ 0 ∷ 0 ∷ 0 ∷ 0 ∷ 0 ∷ 0 ∷ 0 ∷ 0 ∷ []) ≡ 7)
unfolding message_refusal first_met short7 meets8 message_meets7 message_framed payload_framed meets9 field_at
blocks = (refl, refl, refl, refl)

-- an announcement of two modules of 1,000 and 400 bytes, the second of this number, the first with one byte of info
abbrev announced : ℕ → List ℕ
announced n =
    0x11 ∷ 0x03 ∷ 0x10 ∷ 0x02 ∷ 0 ∷ 0 ∷ 0 ∷ 0 ∷ 0xFF ∷ 0 ∷ 0 ∷ 39 ∷ 0 ∷ 0 ∷ 0 ∷ 5 ∷ 1 ∷ 0x90 ∷ 0 ∷ 0 ∷ 0 ∷ 0 ∷ 0 ∷ 0 ∷ 0 ∷ 0 ∷ 0 ∷ 0
    ∷ 0 ∷ 0 ∷ 0 ∷ 2 ∷ 0 ∷ 7 ∷ 0 ∷ 0 ∷ 3 ∷ 0xE8 ∷ 1 ∷ 1 ∷ 0xCC ∷ 0 ∷ n ∷ 0 ∷ 0 ∷ 1 ∷ 0x90 ∷ 1 ∷ 0 ∷ 0 ∷ 0 ∷ []

pub announcements : (message_refusal Announcements (headed 0) (announced 8) ≡ 0) × (message_refusal Announcements (headed 0) (announced 7) ≡ 11)
unfolding message_refusal first_met short7 meets8 message_meets7 message_framed payload_framed announcement_framed framed items_in
    items end_of meets10 beyond10 some_bad total meets11 twice11 among field_at
announcements = (refl, refl)

-- an announcement of download 1, by L, the message length, blockSize, the modules after their count, and its CRC
abbrev announcing_in : (l m : ℕ) → (block_size modules crc : List ℕ) → List ℕ
announcing_in l m block_size modules crc =
    0x3B ∷ 0xB0 ∷ l ∷ 0x00 ∷ 0x02 ∷ 0xC1 ∷ 0x00 ∷ 0x00 ∷ 0x11 ∷ 0x03 ∷ 0x10 ∷ 0x02 ∷ 0x80 ∷ 0x00 ∷ 0x00 ∷ 0x02 ∷ 0xFF ∷ 0x00 ∷ 0x00 ∷ m ∷ 0x00 ∷ 0x00 ∷ 0x00 ∷ 0x01
    ∷ (block_size ++ (replicate 12 0x00 ++ (modules ++ (0x00 ∷ 0x00 ∷ crc))))

-- of one module, number 1, and of two, numbers 1 and 2
abbrev announcing_one : (block_size size crc : List ℕ) → List ℕ
announcing_one block_size size crc = announcing_in 0x33 0x1E block_size (0x00 ∷ 0x01 ∷ 0x00 ∷ 0x01 ∷ (size ++ (0x00 ∷ 0x00 ∷ []))) crc

abbrev announcing_two : (block_size size other crc : List ℕ) → List ℕ
announcing_two block_size size other crc =
    announcing_in 0x3B 0x26 block_size (0x00 ∷ 0x02 ∷ 0x00 ∷ 0x01 ∷ (size ++ (0x00 ∷ 0x00 ∷ 0x00 ∷ 0x02 ∷ (other ++ (0x00 ∷ 0x00 ∷ []))))) crc

-- a block of module 1 of download 1, by L, the message length, bytes 5 to 7 of the section, its module version, and the rest: block number, data, CRC
abbrev block_in : (l m : ℕ) → (header : List ℕ) → (version : ℕ) → (rest : List ℕ) → List ℕ
block_in l m header version rest =
    0x3C ∷ 0xB0 ∷ l ∷ 0x00 ∷ 0x01 ∷ (header ++ (0x11 ∷ 0x03 ∷ 0x10 ∷ 0x03 ∷ 0x00 ∷ 0x00 ∷ 0x00 ∷ 0x01 ∷ 0xFF ∷ 0x00 ∷ 0x00 ∷ m ∷ 0x00 ∷ 0x01 ∷ version ∷ 0xFF ∷ rest))

-- SOURCES' two whole sections: an announcement of download 1 with one module of 6 bytes in blocks of 4, and its block 0, "ABCD"
abbrev pub announcing : List ℕ
announcing = announcing_one (0x00 ∷ 0x04 ∷ []) (0x00 ∷ 0x00 ∷ 0x00 ∷ 0x06 ∷ []) (0x13 ∷ 0x99 ∷ 0x19 ∷ 0x34 ∷ [])

-- the block with this byte 5 (0xC1 is section version 0, 0xFF is 31) and this module version, and its CRC
abbrev pub carrying : (byte5 version : ℕ) → (crc : List ℕ) → List ℕ
carrying b v crc = block_in 0x1F 0x0A (b ∷ 0x00 ∷ 0x01 ∷ []) v (0x00 ∷ 0x00 ∷ 0x41 ∷ 0x42 ∷ 0x43 ∷ 0x44 ∷ crc)

abbrev pub carried : (version : ℕ) → Block
carried v = record { download = 1; number = 1; version = v; block = 0; part = record { start = 26; size = 4 } }

abbrev pub abcd : List ℕ
abcd = carrying 0xC1 0 (0xAC ∷ 0x72 ∷ 0x9B ∷ 0x2F ∷ [])

-- what an announcement of download 1 is judged to be, by its block size, the number of its modules and the bytes that they lie in
abbrev pub announced_as : (block_size count size : ℕ) → Announcement
announced_as bs n z = record { download = 1; block_size = bs; count = n; part = record { start = 40; size = z } }

pub sections : (judged_of announcing ≡ Ok (Announced (announced_as 4 1 8)))
    × (judged_of abcd ≡ Ok (Carried (carried 0)))
unfolding judged_by message_judged read_of announcement_of block_of crc_of crc_from crc_bits crc_bit checked_by refusal_by meets2 meets3 meets4 meets5 meets6
    message_refusal first_met short7 meets8 message_meets7 message_framed payload_framed announcement_framed framed items_in items end_of meets9 meets10
    beyond10 some_bad total meets11 twice11 among field_at
sections = (refl, refl)

-- 02 §6: module version 32 under section version 0 passes; 33 under 0 gives 9; 0 under 31 gives 9; 255 under 31 passes
pub versions : (judged_of (carrying 0xC1 32 (0xF3 ∷ 0x02 ∷ 0xC9 ∷ 0x0E ∷ [])) ≡ Ok (Carried (carried 32)))
    × (judged_of (carrying 0xC1 33 (0xA8 ∷ 0xA3 ∷ 0x15 ∷ 0xC4 ∷ [])) ≡ Err (refused 9))
    × (judged_of (carrying 0xFF 0 (0x4C ∷ 0xA6 ∷ 0xDE ∷ 0x0E ∷ [])) ≡ Err (refused 9))
    × (judged_of (carrying 0xFF 255 (0x2B ∷ 0xC6 ∷ 0x0C ∷ 0x6A ∷ [])) ≡ Ok (Carried (carried 255)))
unfolding judged_by message_judged read_of block_of crc_of crc_from crc_bits crc_bit checked_by refusal_by meets2 meets3 meets4 meets5 meets6
    message_refusal first_met short7 meets8 message_meets7 message_framed payload_framed meets9 field_at
versions = (refl, refl, refl, refl)

-- 02 §8, as whole sections: one module of 1,024 blocks of 1, and of 1,025; sizes 262,143 and 1, and 262,144 and 1, in blocks of 400; one of 65,537 in blocks of 65
abbrev pub chart : List ℕ
chart = announcing_one (0x00 ∷ 0x01 ∷ []) (0x00 ∷ 0x00 ∷ 0x04 ∷ 0x00 ∷ []) (0x3B ∷ 0x29 ∷ 0x40 ∷ 0xF5 ∷ [])

abbrev pub chart_beyond : List ℕ
chart_beyond = announcing_one (0x00 ∷ 0x01 ∷ []) (0x00 ∷ 0x00 ∷ 0x04 ∷ 0x01 ∷ []) (0x72 ∷ 0x24 ∷ 0x27 ∷ 0x78 ∷ [])

abbrev pub charts : List ℕ
charts = announcing_two (0x01 ∷ 0x90 ∷ []) (0x00 ∷ 0x03 ∷ 0xFF ∷ 0xFF ∷ []) (0x00 ∷ 0x00 ∷ 0x00 ∷ 0x01 ∷ []) (0xDB ∷ 0xDD ∷ 0x5D ∷ 0xD8 ∷ [])

abbrev pub charts_beyond : List ℕ
charts_beyond = announcing_two (0x01 ∷ 0x90 ∷ []) (0x00 ∷ 0x04 ∷ 0x00 ∷ 0x00 ∷ []) (0x00 ∷ 0x00 ∷ 0x00 ∷ 0x01 ∷ []) (0x2E ∷ 0x56 ∷ 0xA6 ∷ 0xA8 ∷ [])

abbrev pub wide : List ℕ
wide = announcing_one (0x00 ∷ 0x41 ∷ []) (0x00 ∷ 0x01 ∷ 0x00 ∷ 0x01 ∷ []) (0xEB ∷ 0xB7 ∷ 0x1C ∷ 0x80 ∷ [])

pub limits : (judged_of chart ≡ Ok (Announced (announced_as 1 1 8))) × (judged_of chart_beyond ≡ Err (refused 10))
    × (judged_of charts ≡ Ok (Announced (announced_as 400 2 16))) × (judged_of charts_beyond ≡ Err (refused 10)) × (judged_of wide ≡ Ok (Announced (announced_as 65 1 8)))
unfolding judged_by message_judged read_of announcement_of crc_of crc_from crc_bits crc_bit checked_by refusal_by meets2 meets3 meets4 meets5 meets6
    message_refusal first_met short7 meets8 message_meets7 message_framed payload_framed announcement_framed framed items_in items end_of meets10
    beyond10 some_bad total meets11 twice11 among field_at
limits = (refl, refl, refl, refl, refl)

-- "9's mod 256 stays": block 1,023 under section number 255, and block 1,024 under 0, of one byte; and block 0 of 65 bytes
abbrev pub block1023 : List ℕ
block1023 = block_in 0x1C 0x07 (0xC1 ∷ 0xFF ∷ 0xFF ∷ []) 0 (0x03 ∷ 0xFF ∷ 0x42 ∷ 0x6C ∷ 0x0A ∷ 0x51 ∷ 0xDD ∷ [])

abbrev pub block1024 : List ℕ
block1024 = block_in 0x1C 0x07 (0xC1 ∷ 0x00 ∷ 0xFF ∷ []) 0 (0x04 ∷ 0x00 ∷ 0x42 ∷ 0x35 ∷ 0xA8 ∷ 0xE4 ∷ 0xEB ∷ [])

abbrev pub wide_block : List ℕ
wide_block = block_in 0x5C 0x47 (0xC1 ∷ 0x00 ∷ 0xFF ∷ []) 0 (0x00 ∷ 0x00 ∷ (replicate 65 0x41 ++ (0x79 ∷ 0xDF ∷ 0x1B ∷ 0xF5 ∷ [])))

abbrev pub carried_as : (block size : ℕ) → Block
carried_as b z = record { download = 1; number = 1; version = 0; block = b; part = record { start = 26; size = z } }

pub high : (judged_of block1023 ≡ Ok (Carried (carried_as 1023 1))) × (judged_of block1024 ≡ Ok (Carried (carried_as 1024 1))) × (judged_of wide_block ≡ Ok (Carried (carried_as 0 65)))
unfolding judged_by message_judged read_of block_of crc_of crc_from crc_bits crc_bit checked_by refusal_by meets2 meets3 meets4 meets5 meets6
    message_refusal first_met short7 meets8 message_meets7 message_framed payload_framed meets9 field_at
high = (refl, refl, refl)
