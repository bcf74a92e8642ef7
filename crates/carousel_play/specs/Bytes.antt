-- THE SECTIONS THAT SHORE WRITES, byte for byte. 02, §13; the fields and their widths are those of 01, "The section" and "The messages".
-- `spelled n x` is x in n bytes, most significant first.
use Rattle.std.specs.Prelude.{ℕ, ◌+◌, ◌-◌, ◌*◌, ◌%◌, ◌^◌, min, List, [], ◌∷◌, ◌++◌, map, length, get_or, take, drop, replicate}
use Rattle.wire.specs.Fields.{spelled}
use Rattle.wire.specs.Items.{joined}
use Rattle.section.specs.Crc.{crc_of}
use Rattle.section.specs.Header.{announcement_table, block_table}
use Rattle.carousel_messages.specs.declared.Listed.{Listed}
use Rattle.carousel_messages.specs.Heard.{Announced, sizes_of}
use Rattle.carousel_record.specs.Record.{module_at, sums, block_count, block_length}

-- THE SECTION up to its CRC. Bytes 1 and 2: the syntax indicator 1, "the unread bit 0", "reserved bits .. one" (binary 1011), and L, which counts all after byte 2: five bytes
-- of header, the body, four of CRC. Byte 5: "reserved bits .. one" (binary 11), the version in five bits, "current_next one".
unfoldable pub front_bytes : (table extension version number last : ℕ) → (body : List ℕ) → List ℕ
front_bytes t x v n l body = (t ∷ []) ++ spelled 2 (0xB000 + (9 + length body)) ++ spelled 2 x ++ ((0xC1 + 2 * v) ∷ n ∷ l ∷ []) ++ body

-- and whole, with the CRC of all that
unfoldable pub section_bytes : (table extension version number last : ℕ) → (body : List ℕ) → List ℕ
section_bytes t x v n l body = front_bytes t x v n l body ++ spelled 4 (crc_of (front_bytes t x v n l body))

-- THE MESSAGE: 0x11, 0x03, its number, its identifier, "single unread bytes 0xFF", "no adaptation" bytes, and the length of its payload
unfoldable pub message_bytes : (message identifier : ℕ) → (payload : List ℕ) → List ℕ
message_bytes m id p = (0x11 ∷ 0x03 ∷ []) ++ spelled 2 m ++ spelled 4 id ++ (0xFF ∷ 0 ∷ []) ++ spelled 2 (length p) ++ p

-- A MODULE as it is announced: number, size, version, "no .. info" bytes
unfoldable pub module_bytes : Listed → List ℕ
module_bytes m = spelled 2 m.number ++ spelled 4 m.size ++ (m.version ∷ 0 ∷ [])

abbrev pub modules_bytes : List Listed → List ℕ
modules_bytes ms = joined (map module_bytes ms)

-- THE ANNOUNCEMENT'S PAYLOAD: downloadId, blockSize, "the ten unread ones zero", "no .. compatibility" bytes, how many modules, each of them, "no .. private bytes"
unfoldable pub list_bytes : Announced → List ℕ
list_bytes a =
    spelled 4 a.download ++ spelled 2 a.block_size ++ replicate 10 0 ++ spelled 2 0 ++ spelled 2 (length a.modules) ++ modules_bytes a.modules ++ spelled 2 0

-- "the announcement's identifier given by the caller with its low half as extension, section version 0, number and last 0"
unfoldable pub announcement_bytes : (identifier : ℕ) → Announced → List ℕ
announcement_bytes id a = section_bytes announcement_table (id % 2 ^ 16) 0 0 0 (message_bytes 0x1002 id (list_bytes a))

-- THE SHORE'S IMAGE holds the modules one after another from byte 0, in announced order. A module's part of it, and one block's.
abbrev pub start_of : Announced → (place : ℕ) → ℕ
start_of a i = get_or (sums 0 (sizes_of a.modules)) i 0

unfoldable pub shore_part : Announced → (image : List ℕ) → (place : ℕ) → List ℕ
shore_part a image i = take (module_at a i).size (drop (start_of a i) image)

unfoldable pub block_data : Announced → (place block : ℕ) → (image : List ℕ) → List ℕ
block_data a i b image = take (block_length a i b) (drop (start_of a i + b * a.block_size) image)

-- A BLOCK'S PAYLOAD: module number, version, the unread byte, block number, data
abbrev pub carried_bytes : (number version block : ℕ) → (bytes : List ℕ) → List ℕ
carried_bytes n v b ds = spelled 2 n ++ (v ∷ 0xFF ∷ []) ++ spelled 2 b ++ ds

-- "A block's section version is its module version mod 32, its last section number 255 or the module's last block, whichever is less." By 01's 9 the extension is the module
-- number and the section number the block number mod 256; the identifier is the downloadId.
unfoldable pub block_bytes : Announced → (place block : ℕ) → (image : List ℕ) → List ℕ
block_bytes a i b image =
    section_bytes block_table (module_at a i).number ((module_at a i).version % 32) (b % 256) (min 255 (block_count a i - 1))
    (message_bytes 0x1003 a.download (carried_bytes (module_at a i).number (module_at a i).version b (block_data a i b image)))
