-- A WELL-FORMED STREAM WITHOUT REPEATS, what of it is lost, and the sections with no byte in a lost packet (02 §2). A stream is a list of packets, each with what it carries.
use Rattle.std.specs.Prelude.{ℕ, ◌+◌, ◌%◌, ◌≤◌, ◌≡◌, Bool, true, false, cond, ◌||◌, List, [], ◌∷◌, ◌++◌, replicate}
use Rattle.wire.specs.Fields.{byte_at}
use Rattle.wire.specs.Items.{Whole, Wholes, joined}
use Rattle.transport.specs.Packet.{View, view_of, packet_refusal}
use Rattle.section.specs.Whole.{whole_at}

-- What a packet carries: no payload; bytes of the section in hand, which goes on after them; its last bytes, and stuffing; or, with unit start, the last
-- bytes of the section in hand, whole sections, the head of the next or none, and stuffing.
pub data Sent : Type 0 where
  idle : Sent
  middle : (bytes : List ℕ) → Sent
  final : (bytes : List ℕ) → (stuffing : ℕ) → Sent
  start : (end : List ℕ) → (whole : List (List ℕ)) → (head : List ℕ) → (stuffing : ℕ) → Sent

abbrev pub stuffed : ℕ → List ℕ
stuffed n = replicate n 0xFF

-- how it shows in the packet's bytes. Adaptation fields are free: any packet with this view will do.
unfoldable pub shown : ℕ → Sent → View
shown c idle = record { counter = c; payload = false; start = false; before = []; after = [] }
shown c (middle bs) = record { counter = c; payload = true; start = false; before = bs; after = [] }
shown c (final bs n) = record { counter = c; payload = true; start = false; before = bs ++ stuffed n; after = [] }
shown c (start e ws h n) = record { counter = c; payload = true; start = true; before = e; after = joined ws ++ (h ++ stuffed n) }

-- the counter before a packet, and with it
abbrev pub turned : ℕ → Sent → ℕ
turned c idle = c
turned c (middle bs) = (c + 1) % 16
turned c (final bs n) = (c + 1) % 16
turned c (start e ws h n) = (c + 1) % 16

-- the bytes of the section in hand that were sent so far, after a packet
abbrev pub sent_so_far : List ℕ → Sent → List ℕ
sent_so_far h idle = h
sent_so_far h (middle bs) = h ++ bs
sent_so_far h (final bs n) = []
sent_so_far h (start e ws g n) = g

abbrev pub Some : List ℕ → Type 0
Some xs = xs ≡ [] → ⊥

-- 3 + L bytes, the first not 0xFF; and the head of one, which goes on
abbrev pub Section : List ℕ → Type 0
Section s = Whole whole_at s

abbrev pub Head : List ℕ → Type 0
Head h = Some h × (byte_at h 0 ≡ 0xFF → ⊥) × (whole_at h ≡ 0)

-- a unit start ends the section in hand if there is one, and its pointer is 0 if there is none
abbrev pub EndsHand : (hand end : List ℕ) → Type 0
EndsHand [] e = e ≡ []
EndsHand (x ∷ h) e = Section ((x ∷ h) ++ e)

-- a head goes to the packet's end
abbrev pub Opens : List ℕ → ℕ → Type 0
Opens [] n = Unit {0}
Opens (x ∷ h) n = Head (x ∷ h) × (n ≡ 0)

-- what may be carried while h is in hand. No payload is empty.
abbrev pub Fits : List ℕ → Sent → Type 0
Fits h idle = Unit {0}
Fits h (middle bs) = Some h × Some bs × Head (h ++ bs)
Fits h (final bs n) = Some h × Section (h ++ bs)
Fits h (start e ws g n) = EndsHand h e × Wholes whole_at ws × Opens g n

-- a packet on the air: it comes, or it is lost
pub data Aired : Type 0 where
  came : (packet : List ℕ) → Sent → Aired
  lost : (packet : List ℕ) → Sent → Aired

abbrev pub aired_packet : Aired → List ℕ
aired_packet (came p x) = p
aired_packet (lost p x) = p

abbrev pub sent_in : Aired → Sent
sent_in (came p x) = x
sent_in (lost p x) = x

abbrev pub is_lost : Aired → Bool
is_lost (came p x) = false
is_lost (lost p x) = true

-- WELL-FORMED, from counter c on with h in hand: no packet is refused, each shows what it carries with the counter in step, and that fits
abbrev pub WellSent : ℕ → ℕ → List ℕ → List Aired → Type 0
WellSent pid c h [] = Unit {0}
WellSent pid c h (a ∷ rs) =
    (packet_refusal pid (aired_packet a) ≡ 0) × (view_of (aired_packet a) ≡ shown (turned c (sent_in a)) (sent_in a)) × Fits h (sent_in a) × WellSent pid (turned c (sent_in a)) (sent_so_far h
    (sent_in a)) rs

-- the packets that come
unfoldable pub came_in : List Aired → List (List ℕ)
came_in [] = []
came_in (came p x ∷ rs) = p ∷ came_in rs
came_in (lost p x ∷ rs) = came_in rs

-- THE SECTIONS OF A STREAM, one after another as they end, each with whether a packet with a byte of it was lost. They are meant one by one: a section that is sent again is another.
pub record Carried : Type 0 where
  pub bytes : List ℕ
  pub hurt : Bool

abbrev pub ending : List ℕ → Bool → List ℕ → List Carried
ending [] l e = []
ending (x ∷ h) l e = record { bytes = (x ∷ h) ++ e; hurt = l } ∷ []

abbrev pub inside : Bool → List (List ℕ) → List Carried
inside l [] = []
inside l (s ∷ ss) = record { bytes = s; hurt = l } ∷ inside l ss

abbrev pub ends_in : List ℕ → Bool → Bool → Sent → List Carried
ends_in h l m idle = []
ends_in h l m (middle bs) = []
ends_in h l m (final bs n) = record { bytes = h ++ bs; hurt = l || m } ∷ []
ends_in h l m (start e ws g n) = ending h (l || m) e ++ inside m ws

abbrev pub hurt_so_far : Bool → Bool → Sent → Bool
hurt_so_far l m idle = l
hurt_so_far l m (middle bs) = l || m
hurt_so_far l m (final bs n) = false
hurt_so_far l m (start e ws g n) = m

-- h is in hand; l, whether a packet with a byte of it was lost
unfoldable pub carried : List ℕ → Bool → List Aired → List Carried
carried h l [] = []
carried h l (a ∷ rs) = ends_in h l (is_lost a) (sent_in a) ++ carried (sent_so_far h (sent_in a)) (hurt_so_far l (is_lost a) (sent_in a)) rs

-- all of them; and those with no byte in a lost packet
unfoldable pub all_of : List Carried → List (List ℕ)
all_of [] = []
all_of (k ∷ ks) = k.bytes ∷ all_of ks

unfoldable pub spared : List Carried → List (List ℕ)
spared [] = []
spared (k ∷ ks) = cond k.hurt (spared ks) (k.bytes ∷ spared ks)

-- HOW MUCH MAY BE LOST. Between two packets that come, at most 14 with a payload (g were lost so far); before the first and after the last, any number.
abbrev pub burden : Sent → ℕ
burden idle = 0
burden (middle bs) = 1
burden (final bs n) = 1
burden (start e ws h n) = 1

abbrev pub Gaps : ℕ → List Aired → Type 0
Gaps g [] = Unit {0}
Gaps g (came p x ∷ rs) = (g ≤ 14) × Gaps 0 rs
Gaps g (lost p x ∷ rs) = Gaps (g + burden x) rs

abbrev pub Losses : List Aired → Type 0
Losses [] = Unit {0}
Losses (came p x ∷ rs) = Gaps 0 rs
Losses (lost p x ∷ rs) = Losses rs

-- how many packets with a payload are lost in all
unfoldable pub lost_in : List Aired → ℕ
lost_in [] = 0
lost_in (came p x ∷ rs) = lost_in rs
lost_in (lost p x ∷ rs) = burden x + lost_in rs

-- ONE LOSS: packets with what they carry, of which some in a row are lost; the rest comes
abbrev pub Carry : Type 0
Carry = List ℕ × Sent

unfoldable pub comes : List Carry → List Aired
comes [] = []
comes (k ∷ ks) = came k.0 k.1 ∷ comes ks

unfoldable pub goes : List Carry → List Aired
goes [] = []
goes (k ∷ ks) = lost k.0 k.1 ∷ goes ks

unfoldable pub packets : List Carry → List (List ℕ)
packets [] = []
packets (k ∷ ks) = k.0 ∷ packets ks

-- how many of them have a payload
unfoldable pub payloads : List Carry → ℕ
payloads [] = 0
payloads (k ∷ ks) = burden k.1 + payloads ks

-- the same stream with nothing lost
unfoldable pub unharmed : List Aired → List Aired
unharmed [] = []
unharmed (a ∷ rs) = came (aired_packet a) (sent_in a) ∷ unharmed rs
