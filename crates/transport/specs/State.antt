-- THE STATE AS BYTES that are lent, carried from call to call and written by nobody else: bytes 0 to 187 the last packet that was not refused
-- (zeros: none yet), 188 and 189 how many bytes are in hand, from 190 on those bytes. What lies past them is not looked at. 02, §2.
use Rattle.std.specs.Prelude.{ℕ, Bool, cond, ◌&&◌, List, [], ◌∷◌, ◌++◌, eqb, leb, length, take, drop, replicate}
use Rattle.wire.specs.Copies.{same_numbers}
use Rattle.wire.specs.Fields.{byte_at, sixteen_at, spelled}
use Rattle.transport.specs.Packet.{packet_length, packet_refusal}
use Rattle.transport.specs.Feed.{State, is_head}

-- a section has at most 3 + 4,095 bytes, so at most 4,097 are in hand
abbrev pub most_in_hand : ℕ
most_in_hand = 4097

abbrev pub hand_at : ℕ
hand_at = 190

abbrev pub state_length : ℕ
state_length = 4287

-- what the bytes say
abbrev pub last_in : List ℕ → List ℕ
last_in s = cond (eqb (byte_at s 0) 0) [] (take packet_length s)

abbrev pub held_in : List ℕ → ℕ
held_in s = sixteen_at s packet_length

abbrev pub hand_in : List ℕ → List ℕ
hand_in s = take (held_in s) (drop hand_at s)

unfoldable pub state_in : List ℕ → State
state_in s = record { last = last_in s; hand = hand_in s }

-- and the bytes of a state
abbrev pub last_bytes : List ℕ → List ℕ
last_bytes [] = replicate packet_length 0
last_bytes (x ∷ p) = x ∷ p

unfoldable pub state_bytes : State → List ℕ
state_bytes x = last_bytes x.last ++ spelled 2 (length x.hand) ++ x.hand

-- A STATE THAT THE RULES CAN HAVE LEFT, for this PID: long enough; and zeros, nothing taken yet and nothing in hand; or a packet that is not refused,
-- and in hand nothing or the head of a section. (Laws/State: exactly where the bytes are those of a state that keeps the rule.)
abbrev pub is_untouched : List ℕ → Bool
is_untouched s = same_numbers (take hand_at s) (replicate hand_at 0)

abbrev pub is_left : ℕ → List ℕ → Bool
is_left pid s = eqb (packet_refusal pid (take packet_length s)) 0 && leb (held_in s) most_in_hand && is_head (hand_in s)

unfoldable pub state_good : ℕ → List ℕ → Bool
state_good pid s = leb state_length (length s) && cond (eqb (byte_at s 0) 0) (is_untouched s) (is_left pid s)
