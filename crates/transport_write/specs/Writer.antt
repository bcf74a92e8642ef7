-- THE OTHER WAY: the packets of one section. It begins a packet (unit start, pointer 0); the rest of its last packet is 0xFF; no adaptation field.
use Rattle.std.specs.Prelude.{ℕ, ◌+◌, ◌*◌, ◌/◌, ◌%◌, ◌-◌, not, cond, ◌||◌, Result, List, [], ◌∷◌, ◌++◌, eqb, ltb, length, replicate}
use Rattle.wire.specs.Fields.{byte_at}
use Rattle.wire.specs.Items.{joined}
use Rattle.wire.specs.Outcomes.{answered}
use Rattle.wire.specs.Pieces.{cut, laid_first}
use Rattle.wire.specs.Tests.{Tests, first_met}
use Rattle.section.specs.Whole.{said_length}

-- u is the unit start bit; the payload bit of the adaptation control is 1; no error, no priority, not scrambled
abbrev pub packet_head : (pid u counter : ℕ) → List ℕ
packet_head pid u c = 0x47 ∷ (64 * u + pid / 256) ∷ (pid % 256) ∷ (16 + c) ∷ []

abbrev pub payload_length : ℕ
payload_length = 184

-- a payload of 184 bytes, stuffing after the piece
abbrev pub packet_of : (pid u counter : ℕ) → (piece : List ℕ) → List ℕ
packet_of pid u c b = packet_head pid u c ++ (b ++ replicate (payload_length - length b) 0xFF)

unfoldable pub packets_over : (pid u counter : ℕ) → (pieces : List (List ℕ)) → List (List ℕ)
packets_over pid u c [] = []
packets_over pid u c (b ∷ bs) = packet_of pid u c b ∷ packets_over pid 0 ((c + 1) % 16) bs

-- a pointer of 0, then the section
unfoldable pub section_packets : (pid counter : ℕ) → (section : List ℕ) → List (List ℕ)
section_packets pid c s = packets_over pid 1 c (cut payload_length (0 ∷ s))

-- 2 under 3 bytes, or not 3 + L; 3 the table number that is stuffing; 21 a short buffer; 25 PID above 0x1FFF, or counter above 15
abbrev pub pack_tests : (pid counter : ℕ) → (section : List ℕ) → (room : ℕ) → Tests
pack_tests pid c s room =
    (2, ltb (length s) 3 || not (eqb (length s) (said_length s)))
    ∷ (3, eqb (byte_at s 0) 0xFF)
    ∷ (21, ltb room (length (joined (section_packets pid c s))))
    ∷ (25, ltb 0x1FFF pid || ltb 15 c)
    ∷ []

unfoldable pub pack_refusal : (pid counter : ℕ) → (section : List ℕ) → (room : ℕ) → ℕ
pack_refusal pid c s room = first_met (pack_tests pid c s room)

unfoldable pub pack_answer : (pid counter : ℕ) → (section : List ℕ) → (room : ℕ) → Result ℕ ℕ
pack_answer pid c s room = answered (pack_refusal pid c s room) (length (section_packets pid c s))

-- "what lies past" them "is unchanged; a refusal writes nothing"
unfoldable pub packed_bytes : (pid counter : ℕ) → (section out : List ℕ) → List ℕ
packed_bytes pid c s out = cond (eqb (pack_refusal pid c s (length out)) 0) (laid_first (joined (section_packets pid c s)) out) out
