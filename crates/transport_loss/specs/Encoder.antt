-- AN ENCODER: sections, cut into packets in any legal way. What a packet is to carry is chosen by a `Cut`; how it is written by an `Extra`, its adaptation field.
-- It is there to show that well-formed streams are what the standard has, and that none of the promises is empty.
use Rattle.std.specs.Prelude.{ℕ, ◌+◌, ◌*◌, ◌/◌, ◌%◌, ◌<◌, ◌≡◌, cond, List, [], ◌∷◌, ◌++◌, ltb, length, take, drop}
use Rattle.wire.specs.Items.{joined}
use Rattle.transport_loss.specs.Stream.{Sent, idle, middle, final, start, Some, stuffed, turned, Carry}

-- what lies before the encoder: of the section in hand what was sent and what is left, and the sections after it
pub record Desk : Type 0 where
  pub done : List ℕ
  pub left : List ℕ
  pub later : List (List ℕ)

abbrev pub desk : List (List ℕ) → Desk
desk ss = record { done = []; left = []; later = ss }

-- a packet without payload; n bytes of the section in hand, or its last ones and m bytes of stuffing; or, with unit start, its last ones, k whole sections, and then m bytes of stuffing or
-- the first n of the next
pub data Cut : Type 0 where
  pause : Cut
  on : (n m : ℕ) → Cut
  fill : (k m : ℕ) → Cut
  begin : (k n : ℕ) → Cut

abbrev pub first_of : List (List ℕ) → List ℕ
first_of [] = []
first_of (s ∷ ss) = s

abbrev pub Legal : Desk → Cut → Type 0
Legal d pause = Unit {0}
Legal d (on n m) = Some d.left × (0 < n)
Legal d (fill k m) = Unit {0}
Legal d (begin k n) = (0 < n) × (n < length (first_of (drop k d.later)))

abbrev pub cut_off : Desk → Cut → Sent
cut_off d pause = idle
cut_off d (on n m) = cond (ltb n (length d.left)) (middle (take n d.left)) (final d.left m)
cut_off d (fill k m) = start d.left (take k d.later) [] m
cut_off d (begin k n) = start d.left (take k d.later) (take n (first_of (drop k d.later))) 0

abbrev pub desk_after : Desk → Cut → Desk
desk_after d pause = d
desk_after d (on n m) =
    cond (ltb n (length d.left)) (record { done = d.done ++ take n d.left; left = drop n d.left; later = d.later }) (record { done = []; left = []; later = d.later })
desk_after d (fill k m) = record { done = []; left = []; later = drop k d.later }
desk_after d (begin k n) = record { done = take n (first_of (drop k d.later)); left = drop n (first_of (drop k d.later)); later = drop 1 (drop k d.later) }

-- the sections that are still to end
abbrev pub due_of : (done left : List ℕ) → List (List ℕ)
due_of [] l = []
due_of (x ∷ d) l = ((x ∷ d) ++ l) ∷ []

abbrev pub due : Desk → List (List ℕ)
due d = due_of d.done d.left ++ d.later

-- THE BYTES OF ONE PACKET, with an adaptation field or none
pub data Extra : Type 0 where
  none : Extra
  field : (bytes : List ℕ) → Extra

abbrev pub extra : Extra → List ℕ
extra none = []
extra (field f) = length f ∷ f

abbrev pub field_bit : Extra → ℕ
field_bit none = 0
field_bit (field f) = 1

abbrev pub payload_bit : Sent → ℕ
payload_bit idle = 0
payload_bit (middle bs) = 1
payload_bit (final bs n) = 1
payload_bit (start e ws h n) = 1

abbrev pub start_bit : Sent → ℕ
start_bit idle = 0
start_bit (middle bs) = 0
start_bit (final bs n) = 0
start_bit (start e ws h n) = 1

-- a unit start's first byte is the pointer
abbrev pub payload : Sent → List ℕ
payload idle = []
payload (middle bs) = bs
payload (final bs n) = bs ++ stuffed n
payload (start e ws h n) = length e ∷ (e ++ (joined ws ++ (h ++ stuffed n)))

unfoldable pub written : ℕ → ℕ → Extra → Sent → List ℕ
written pid c a x = 0x47 ∷ (64 * start_bit x + pid / 256) ∷ pid % 256 ∷ (32 * field_bit a + 16 * payload_bit x + c) ∷ (extra a ++ payload x)

-- MANY: what the encoder writes of some sections, a cut and a field for each packet
pub record Choice : Type 0 where
  pub cut : Cut
  pub extra : Extra

unfoldable pub encoded : ℕ → ℕ → Desk → List Choice → List Carry
encoded pid c d [] = []
encoded pid c d (k ∷ ks) =
    (written pid (turned c (cut_off d k.cut)) k.extra (cut_off d k.cut), cut_off d k.cut) ∷ encoded pid (turned c (cut_off d k.cut)) (desk_after d k.cut) ks

unfoldable pub desk_last : Desk → List Choice → Desk
desk_last d [] = d
desk_last d (k ∷ ks) = desk_last (desk_after d k.cut) ks

-- each cut is legal, and each packet has 188 bytes
abbrev pub Choices : ℕ → ℕ → Desk → List Choice → Type 0
Choices pid c d [] = Unit {0}
Choices pid c d (k ∷ ks) =
    Legal d k.cut × (length (written pid (turned c (cut_off d k.cut)) k.extra (cut_off d k.cut)) ≡ 188) × Choices pid (turned c (cut_off d k.cut)) (desk_after d k.cut) ks
