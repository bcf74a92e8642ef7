-- The message in a carousel section: its header and its payload. 01, "The messages"; ISO/IEC 13818-6; 004, clause 5.
-- b is the section's body, from its byte 8 up to the CRC.
use Rattle.std.specs.Prelude.{ℕ, ◌+◌, List, drop}
use Rattle.wire.specs.Fields.{byte_at, sixteen_at, thirty_two_at}
use Rattle.carousel_messages.specs.declared.CarouselTable.{CarouselTable}
use Rattle.carousel_messages.specs.declared.CarouselTable.TheVariants.{Announcements, Blocks}

-- "At byte 8: 0x11, 0x03, message number 16, identifier 32, one byte unread, adaptation length 8, message length 16."
abbrev pub message_of : List ℕ → ℕ
message_of b = sixteen_at b 2

abbrev pub message_identifier_of : List ℕ → ℕ
message_identifier_of b = thirty_two_at b 4

abbrev pub adaptation_of : List ℕ → ℕ
adaptation_of b = byte_at b 9

abbrev pub message_length_of : List ℕ → ℕ
message_length_of b = sixteen_at b 10

-- "Message length counts all that follows up to the CRC, adaptation bytes first." Adaptation bytes are no payload.
abbrev pub payload_of : List ℕ → List ℕ
payload_of b = drop (12 + adaptation_of b) b

-- "0x3B takes message 0x1002, 0x3C takes 0x1003"
abbrev pub wanted_of : CarouselTable → ℕ
wanted_of Announcements = 0x1002
wanted_of Blocks = 0x1003
