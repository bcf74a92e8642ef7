-- A SOUND PACKET AND A STATE THAT CAN HAVE BEEN LEFT, in plain facts that share nothing with the tests. 02, §2; ISO/IEC 13818-1, 2.4.3.2.
use Rattle.std.specs.Prelude.{ℕ, ◌+◌, ◌*◌, ◌/◌, ◌%◌, ◌≤◌, ◌<◌, ◌≡◌, List, [], length, take}
use Rattle.wire.specs.Fields.{byte_at}
use Rattle.section.specs.Whole.{whole_at}
use Rattle.transport.specs.Feed.{State}
use Rattle.transport.specs.State.{state_bytes}

-- of byte 3: bit 5 says that there is an adaptation field, bit 4 that there is a payload
abbrev pub WithField : List ℕ → Type 0
WithField p = byte_at p 3 / 32 % 2 ≡ 1

abbrev pub WithPayload : List ℕ → Type 0
WithPayload p = byte_at p 3 / 16 % 2 ≡ 1

-- where the payload lies: after the four bytes of the header, or after the adaptation field, whose length is byte 4
pub record PayloadAt (p : List ℕ) (at : ℕ) : Type 0 where
  pub bare : (WithField p → ⊥) → at ≡ 4
  pub behind : WithField p → at ≡ 5 + byte_at p 4

-- 43 DOES NOT MEET a packet
pub record Sound (p : List ℕ) : Type 0 where
  -- no transport error, not scrambled
  pub no_error : byte_at p 1 / 128 % 2 ≡ 1 → ⊥
  pub clear : byte_at p 3 / 64 % 4 ≡ 0
  -- the adaptation control is not 00
  pub control : (WithField p → ⊥) → WithPayload p
  -- the adaptation field ends in the packet
  pub field_in : WithField p → 5 + byte_at p 4 ≤ 188
  -- where a unit starts, the pointer field and the bytes that it passes over lie in the packet
  pub pointer_in : (at : ℕ) → PayloadAt p at → WithPayload p → byte_at p 1 / 64 % 2 ≡ 1 → at + 1 + byte_at p at ≤ 188

-- the PID, 13 bits
abbrev pub OfPid : ℕ → List ℕ → Type 0
OfPid pid p = (byte_at p 1 * 256 + byte_at p 2) % 8192 ≡ pid

-- A PACKET IS NOT REFUSED
pub record Accepted (pid : ℕ) (p : List ℕ) : Type 0 where
  pub long : length p ≡ 188
  pub sync : byte_at p 0 ≡ 0x47
  pub asked : OfPid pid p
  pub sound : Sound p

-- IN HAND: nothing; or the beginning of a section, which is not stuffing and not whole yet
abbrev pub InHand : List ℕ → Type 0
InHand h = (0 < length h → byte_at h 0 ≡ 0xFF → ⊥) × (whole_at h ≡ 0)

-- THE RULES CAN HAVE LEFT a state: no packet was taken yet, and nothing is in hand; or a packet that is not refused, and so much in hand
pub data Left (pid : ℕ) : State → Type 0 where
  untouched : Left pid (record { last = []; hand = [] })
  after : (p h : List ℕ) → Accepted pid p → InHand h → Left pid (record { last = p; hand = h })

-- 1 DOES NOT MEET these bytes: there are enough of them, and they begin with those of such a state
pub record Lent (pid : ℕ) (s : List ℕ) : Type 0 where
  pub enough : 4287 ≤ length s
  pub state : State
  pub possible : Left pid state
  pub spelled-so : take (length (state_bytes state)) s ≡ state_bytes state
