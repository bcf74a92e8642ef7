-- A carousel section, judged before any record is looked at: refused by one of 2 to 11, an announcement, or a block. 01, "The messages".
use Rattle.std.specs.Prelude.{Result, Ok, Err, ℕ, ◌+◌, ◌-◌, cond, List, ◌++◌, eqb, length}
use Rattle.wire.specs.Tests.{Tests}
use Rattle.section.specs.declared.Rules.TheVariants.{Carousel}
use Rattle.section.specs.declared.Header.{Header}
use Rattle.section.specs.declared.Refusal.{Refusal}
use Rattle.section.specs.Header.{announcement_table, header_of, body_of}
use Rattle.section.specs.Refusals.{section_tests}
use Rattle.section.specs.Answer.{refused, checked_by, on_checked}
use Rattle.section.specs.Crc.{crc_of}
use Rattle.carousel_messages.specs.declared.CarouselTable.{CarouselTable}
use Rattle.carousel_messages.specs.declared.CarouselTable.TheVariants.{Announcements, Blocks}
use Rattle.carousel_messages.specs.declared.Announcement.{Announcement}
use Rattle.carousel_messages.specs.declared.Block.{Block}
use Rattle.carousel_messages.specs.declared.Message.{Message}
use Rattle.carousel_messages.specs.declared.Message.TheVariants as message
use Rattle.carousel_messages.specs.Message.{message_identifier_of, adaptation_of, payload_of}
use Rattle.carousel_messages.specs.Contents.{download_of, block_size_of, module_count_of, modules_start, modules_end, block_module_of, block_version_of, block_number_of}
use Rattle.carousel_messages.specs.Refusals.{message_tests, message_refusal}

-- "DSM-CC sections 0x3B and 0x3C become an announcement (DII) and blocks (DDB)"
abbrev pub carousel_table_of : ℕ → CarouselTable
carousel_table_of t = cond (eqb t announcement_table) Announcements Blocks

-- where the payload begins in the section: 8 bytes of header, 12 of the message's, and the adaptation bytes
abbrev pub payload_start : List ℕ → ℕ
payload_start b = 20 + adaptation_of b

-- what is kept of an announcement, and where its modules lie in the section
unfoldable pub announcement_of : List ℕ → Announcement
announcement_of b =
    record {
      download = download_of (payload_of b);
      block_size = block_size_of (payload_of b);
      count = module_count_of (payload_of b);
      part = record { start = payload_start b + modules_start (payload_of b); size = modules_end (payload_of b) - modules_start (payload_of b) };
    }

-- "in the latter the identifier is the downloadId"; what is kept of a block, and where its data lie in the section
unfoldable pub block_of : List ℕ → Block
block_of b =
    record {
      download = message_identifier_of b;
      number = block_module_of (payload_of b);
      version = block_version_of (payload_of b);
      block = block_number_of (payload_of b);
      part = record { start = payload_start b + 6; size = length (payload_of b) - 6 };
    }

-- a message, or the refusal of its section
abbrev pub Judged : Type 0
Judged = Result Message Refusal

unfoldable pub read_of : CarouselTable → List ℕ → Judged
read_of Announcements b = Ok (message.Announced (announcement_of b))
read_of Blocks b = Ok (message.Carried (block_of b))

unfoldable pub message_judged : CarouselTable → Header → List ℕ → Judged
message_judged t h b = cond (eqb (message_refusal t h b) 0) (read_of t b) (Err (refused (message_refusal t h b)))

-- the section check's refusal as it came; else the message's; else what the message says: whatever register is handed in, and by the section's own
unfoldable pub judged_by : (register : ℕ) → List ℕ → Judged
judged_by g s = on_checked (checked_by g Carousel s) Err (λ h. message_judged (carousel_table_of h.table) h (body_of s))

abbrev pub judged_of : List ℕ → Judged
judged_of s = judged_by (crc_of s) s

-- the paper's number of an answer; 0 is no refusal
abbrev pub number_of_judged : Judged → ℕ
number_of_judged (Err r) = r.number
number_of_judged (Ok (message.Announced a)) = 0
number_of_judged (Ok (message.Carried b)) = 0

-- The paper's table for a carousel section, in its order: 2 to 6 of the section, then those of its message, with the exception.
abbrev pub carousel_table_in : List ℕ → CarouselTable
carousel_table_in s = carousel_table_of (header_of s).table

abbrev pub carousel_tests : List ℕ → Tests
carousel_tests s = section_tests Carousel s ++ message_tests (carousel_table_in s) (header_of s) (body_of s)
