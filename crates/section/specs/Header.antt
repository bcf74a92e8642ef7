-- The section's header, and what the application's and the carousel's rules make of it. 01, "The section".
use Rattle.std.specs.Prelude.{ℕ, ◌-◌, Bool, ◌||◌, List, eqb, length, take, drop}
use Rattle.wire.specs.Fields.{byte_at, sixteen_at, twelve_at, bits}
use Rattle.section.specs.declared.Rules.{Rules}
use Rattle.section.specs.declared.Rules.TheVariants.{Application, Carousel}
use Rattle.section.specs.declared.Header.{Header}

-- "Byte 0 is the table number."
abbrev pub table_of : List ℕ → ℕ
table_of s = byte_at s 0

-- "Bytes 1 and 2, most significant bit first: section_syntax_indicator 1 bit, 1 bit unread, 2 reserved, length L 12 bits."
abbrev pub syntax_of : List ℕ → ℕ
syntax_of s = bits 15 1 (sixteen_at s 1)

abbrev pub length_of : List ℕ → ℕ
length_of s = twelve_at s 1

-- "Bytes 3, 4: extension."
abbrev pub extension_of : List ℕ → ℕ
extension_of s = sixteen_at s 3

-- "Byte 5: 2 reserved, version 5, current_next 1."
abbrev pub version_of : List ℕ → ℕ
version_of s = bits 1 5 (byte_at s 5)

abbrev pub current_of : List ℕ → ℕ
current_of s = bits 0 1 (byte_at s 5)

-- "Bytes 6, 7: section and last section number."
abbrev pub section_of : List ℕ → ℕ
section_of s = byte_at s 6

abbrev pub last_of : List ℕ → ℕ
last_of s = byte_at s 7

-- "Body. CRC, 4 bytes.": what stands between the header and the CRC
abbrev pub body_of : List ℕ → List ℕ
body_of s = take (length s - 12) (drop 8 s)

-- what is handed on of the header
abbrev pub header_of : List ℕ → Header
header_of s = record { table = table_of s; extension = extension_of s; version = version_of s; section = section_of s; last = last_of s }

-- "An application section (AIT, table 0x74)"; "DSM-CC sections 0x3B and 0x3C become an announcement (DII) and blocks (DDB)"
abbrev pub application_table : ℕ
application_table = 0x74

abbrev pub announcement_table : ℕ
announcement_table = 0x3B

abbrev pub block_table : ℕ
block_table = 0x3C

abbrev pub is_table : Rules → ℕ → Bool
is_table Application t = eqb t application_table
is_table Carousel t = eqb t announcement_table || eqb t block_table

-- refusal 4: "L .. over 1,021 (AIT) or 4,093"
abbrev pub application_limit : ℕ
application_limit = 1021

abbrev pub carousel_limit : ℕ
carousel_limit = 4093

abbrev pub limit_of : Rules → ℕ
limit_of Application = application_limit
limit_of Carousel = carousel_limit
