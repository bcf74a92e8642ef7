-- ONE TRANSPORT PACKET (02 §2; ISO/IEC 13818-1, 2.4.3.2): its fields, what it is refused for, and what it brings.
use Rattle.std.specs.Prelude.{ℕ, ◌+◌, Bool, not, cond, ◌&&◌, ◌||◌, List, [], ◌∷◌, eqb, leb, ltb, length, take, drop}
use Rattle.wire.specs.Fields.{byte_at, sixteen_at, bits}
use Rattle.wire.specs.Tests.{Tests, first_met}

abbrev pub packet_length : ℕ
packet_length = 188

abbrev pub error_of : List ℕ → ℕ
error_of p = bits 7 1 (byte_at p 1)

abbrev pub unit_start_of : List ℕ → ℕ
unit_start_of p = bits 6 1 (byte_at p 1)

abbrev pub pid_of : List ℕ → ℕ
pid_of p = bits 0 13 (sixteen_at p 1)

abbrev pub scrambling_of : List ℕ → ℕ
scrambling_of p = bits 6 2 (byte_at p 3)

-- adaptation control: bit 5 says that there is an adaptation field, bit 4 that there is a payload
abbrev pub has_field : List ℕ → Bool
has_field p = eqb (bits 5 1 (byte_at p 3)) 1

abbrev pub has_payload : List ℕ → Bool
has_payload p = eqb (bits 4 1 (byte_at p 3)) 1

abbrev pub counter_of : List ℕ → ℕ
counter_of p = bits 0 4 (byte_at p 3)

-- the byte after the adaptation field, whose length is byte 4
abbrev pub payload_at : List ℕ → ℕ
payload_at p = cond (has_field p) (5 + byte_at p 4) 4

abbrev pub payload_in : List ℕ → List ℕ
payload_in p = drop (payload_at p) p

-- unit start counts in a payload only
abbrev pub is_start : List ℕ → Bool
is_start p = has_payload p && eqb (unit_start_of p) 1

-- a field that runs past the packet: the adaptation field, or the bytes that the pointer field passes over
abbrev pub field_past : List ℕ → Bool
field_past p = has_field p && ltb packet_length (5 + byte_at p 4)

abbrev pub pointer_past : List ℕ → Bool
pointer_past p = is_start p && leb (length (payload_in p)) (byte_at (payload_in p) 0)

-- "43 transport error, scrambled, adaptation control 00, or a field that runs past the packet"
abbrev pub is_faulty : List ℕ → Bool
is_faulty p = eqb (error_of p) 1 || not (eqb (scrambling_of p) 0) || (not (has_field p) && not (has_payload p)) || field_past p || pointer_past p

-- "Refusals, lowest first ..: 40 not 188 bytes, 41 sync, 42 other PID, 43"
abbrev pub packet_tests : ℕ → List ℕ → Tests
packet_tests pid p =
    (40, not (eqb (length p) packet_length)) ∷ (41, not (eqb (byte_at p 0) 0x47)) ∷ (42, not (eqb (pid_of p) pid)) ∷ (43, is_faulty p) ∷ []

unfoldable pub packet_refusal : ℕ → List ℕ → ℕ
packet_refusal pid p = first_met (packet_tests pid p)

-- WHAT A PACKET BRINGS. The bytes before the pointed place go on with the section in hand, those after it begin sections. With no unit start
-- all go on with it.
pub record View : Type 0 where
  pub counter : ℕ
  pub payload : Bool
  pub start : Bool
  pub before : List ℕ
  pub after : List ℕ

abbrev pub before_of : List ℕ → List ℕ
before_of p = cond (is_start p) (take (byte_at (payload_in p) 0) (drop 1 (payload_in p))) (cond (has_payload p) (payload_in p) [])

abbrev pub after_of : List ℕ → List ℕ
after_of p = cond (is_start p) (drop (1 + byte_at (payload_in p) 0) (payload_in p)) []

unfoldable pub view_of : List ℕ → View
view_of p = record { counter = counter_of p; payload = has_payload p; start = is_start p; before = before_of p; after = after_of p }
