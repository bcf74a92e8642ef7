-- Refusals 7 to 11 of a carousel section, one test for each row of the paper's table. 01, "Numbers a call may answer".
use Rattle.std.specs.Prelude.{ℕ, ◌+◌, ◌%◌, Bool, not, ◌&&◌, ◌||◌, List, [], ◌∷◌, map, ltb, leb, eqb, length}
use Rattle.wire.specs.Fields.{byte_at}
use Rattle.wire.specs.Tests.{Tests, first_met}
use Rattle.section.specs.declared.Header.{Header}
use Rattle.carousel_messages.specs.declared.CarouselTable.{CarouselTable}
use Rattle.carousel_messages.specs.declared.CarouselTable.TheVariants.{Announcements, Blocks}
use Rattle.carousel_messages.specs.Message.{message_of, adaptation_of, message_length_of, payload_of, wanted_of}
use Rattle.carousel_messages.specs.Contents.{block_size_of, announcement_framed, modules_of, module_number_of, module_size_of, block_framed, block_module_of, block_version_of, block_number_of}
use Rattle.carousel_messages.specs.Limits.{beyond10, twice11}

-- "a body under 12 bytes in a message is 7"
unfoldable pub short7 : List ℕ → Bool
short7 b = ltb (length b) 12

-- 8: "first two message bytes or message number not as above"
unfoldable pub meets8 : CarouselTable → List ℕ → Bool
meets8 t b = not (eqb (byte_at b 0) 0x11) || not (eqb (byte_at b 1) 0x03) || not (eqb (message_of b) (wanted_of t))

-- message and adaptation lengths fit: the message ends at the CRC, and the adaptation bytes are within it
unfoldable pub message_framed : List ℕ → Bool
message_framed b = eqb (12 + message_length_of b) (length b) && leb (adaptation_of b) (message_length_of b)

unfoldable pub payload_framed : CarouselTable → List ℕ → Bool
payload_framed Announcements p = announcement_framed p
payload_framed Blocks p = block_framed p

-- 7: "a length or fixed field inside does not fit, bytes are left over"
unfoldable pub message_meets7 : CarouselTable → List ℕ → Bool
message_meets7 t b = not (message_framed b && payload_framed t (payload_of b))

-- 9: "DDB: extension is not the module number, or section number is not block number mod 256"; 02 §6: or "5-bit section version isn't the module version mod 32",
-- the version that this message bears, whatever was announced
unfoldable pub meets9 : Header → List ℕ → Bool
meets9 h p =
    not (eqb h.extension (block_module_of p)) || not (eqb h.section (block_number_of p % 256)) || not (eqb h.version (block_version_of p % 32))

-- 10 and 11, of the announced modules
unfoldable pub meets10 : List ℕ → Bool
meets10 p = beyond10 (block_size_of p) (map module_size_of (modules_of p))

unfoldable pub meets11 : List ℕ → Bool
meets11 p = twice11 (map module_number_of (modules_of p))

abbrev pub payload_tests : CarouselTable → Header → List ℕ → Tests
payload_tests Announcements h p = (10, meets10 p) ∷ (11, meets11 p) ∷ []
payload_tests Blocks h p = (9, meets9 h p) ∷ []

-- the payload's own part of the order
unfoldable pub payload_refusal : CarouselTable → Header → List ℕ → ℕ
payload_refusal t h p = first_met ((7, not (payload_framed t p)) ∷ payload_tests t h p)

-- "Exception: a body under 12 bytes in a message is 7; then 8; then the other cases of 7."
abbrev pub message_tests : CarouselTable → Header → List ℕ → Tests
message_tests t h b = (7, short7 b) ∷ (8, meets8 t b) ∷ (7, message_meets7 t b) ∷ payload_tests t h (payload_of b)

unfoldable pub message_refusal : CarouselTable → Header → List ℕ → ℕ
message_refusal t h b = first_met (message_tests t h b)
