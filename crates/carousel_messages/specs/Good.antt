-- Well-formed announcements and blocks, as a reader would say it: every clause of the paper, none of them a test. 01, "The messages"; refusals 2 to 11.
use Rattle.std.specs.Prelude.{ℕ, ◌+◌, ◌*◌, ◌%◌, ◌≤◌, ◌≡◌, length}
use mathlib.Core.List.{List, [], ◌∷◌, map, Memᴰ}
use Rattle.wire.specs.Fields.{byte_at, sixteen_at}
use Rattle.section.specs.declared.Rules.TheVariants.{Carousel}
use Rattle.section.specs.Header.{announcement_table, block_table, header_of, body_of}
use Rattle.section.specs.Refusals.{GoodSection}
use Rattle.carousel_messages.specs.declared.CarouselTable.{CarouselTable}
use Rattle.carousel_messages.specs.declared.CarouselTable.TheVariants.{Announcements, Blocks}
use Rattle.carousel_messages.specs.Message.{message_of, message_identifier_of, adaptation_of, message_length_of, payload_of, wanted_of}
use Rattle.carousel_messages.specs.Contents.{download_of, block_size_of, modules_start, modules_end, modules_of, module_number_of, module_size_of}
use Rattle.carousel_messages.specs.Contents.{block_module_of, block_version_of, block_number_of, block_data_of}
use Rattle.carousel_messages.specs.Heard.{Announced, Arrived, listed_of}
use Rattle.carousel_messages.specs.Limits.{largest_block, most_modules, most_blocks, most_bytes, total}

-- The message in a body b: "0x11, 0x03, message number 16, identifier 32, one byte unread, adaptation length 8, message length 16. Message length counts all that follows
-- up to the CRC, adaptation bytes first."
pub record GoodMessage (t : CarouselTable) (b : List ℕ) : Type 0 where
  pub headed : 12 ≤ length b
  pub first : byte_at b 0 ≡ 0x11
  pub second : byte_at b 1 ≡ 0x03
  pub wanted : message_of b ≡ wanted_of t
  pub ends : 12 + message_length_of b ≡ length b
  pub adapted : adaptation_of b ≤ message_length_of b

-- no number stands twice in a list
abbrev pub Distinct : List ℕ → Type 0
Distinct [] = Unit
Distinct (k ∷ ks) = (Memᴰ k ks → ⊥) × Distinct ks

abbrev pub announced_sizes : List ℕ → List ℕ
announced_sizes p = map module_size_of (modules_of p)

abbrev pub announced_numbers : List ℕ → List ℕ
announced_numbers p = map module_number_of (modules_of p)

-- An announcement's payload p
pub record GoodModules (p : List ℕ) : Type 0 where
  -- the fixed fields and the compatibility bytes are there; so are as many modules as are counted; and the private bytes end exactly
  pub headed : modules_start p ≤ length p
  pub counted : modules_end p ≡ 0 → ⊥
  pub ends : modules_end p + 2 + sixteen_at p (modules_end p) ≡ length p
  -- the limits of 10: "blockSize 0 or over 4,066; 0 or over 32 modules; a size 0 or over 1,024 × blockSize; sizes over 262,144 together"
  pub block_some : 1 ≤ block_size_of p
  pub block_most : block_size_of p ≤ largest_block
  pub modules_some : 1 ≤ length (modules_of p)
  pub modules_most : length (modules_of p) ≤ most_modules
  pub sizes : (z : ℕ) → Memᴰ z (announced_sizes p) → (1 ≤ z) × (z ≤ most_blocks * block_size_of p)
  pub together : total (announced_sizes p) ≤ most_bytes
  -- and of 11: "module number twice"
  pub distinct : Distinct (announced_numbers p)

pub record GoodAnnouncement (s : List ℕ) : Type 0 where
  pub section : GoodSection Carousel s
  pub table : (header_of s).table ≡ announcement_table
  pub message : GoodMessage Announcements (body_of s)
  pub list : GoodModules (payload_of (body_of s))

-- A section with a block in it, right in what 2 to 8 ask: "module number 16, version 8, one byte unread, block number 16, data"
pub record BlockSection (s : List ℕ) : Type 0 where
  pub section : GoodSection Carousel s
  pub table : (header_of s).table ≡ block_table
  pub message : GoodMessage Blocks (body_of s)
  pub headed : 6 ≤ length (payload_of (body_of s))

-- A block, whose section header is its message's own. 9: "extension is not the module number, or section number is not block number mod 256", and by 02 §6 "section version isn't
-- the module version mod 32"
pub record GoodBlock (s : List ℕ) : Type 0 where
  pub formed : BlockSection s
  pub extension : (header_of s).extension ≡ block_module_of (payload_of (body_of s))
  pub number : (header_of s).section ≡ block_number_of (payload_of (body_of s)) % 256
  pub version : (header_of s).version ≡ block_version_of (payload_of (body_of s)) % 32

-- What each says, field by field, from the text itself
abbrev pub said_announcement : List ℕ → Announced
said_announcement s = let p = payload_of (body_of s) in record { download = download_of p; block_size = block_size_of p; modules = map listed_of (modules_of p) }

-- "in the latter the identifier is the downloadId"
abbrev pub said_block : List ℕ → Arrived
said_block s = let p = payload_of (body_of s) in record {
  download = message_identifier_of (body_of s);
  number = block_module_of p;
  version = block_version_of p;
  block = block_number_of p;
  bytes =
      block_data_of p;
}
