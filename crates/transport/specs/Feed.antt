-- WHAT A RECEIVER MAKES OF PACKETS (02 §2), one after another: its state, one packet, many.
use Rattle.std.specs.Prelude.{ℕ, ◌+◌, ◌%◌, Bool, true, not, cond, ◌&&◌, ◌||◌, Result, Ok, Err, List, [], ◌∷◌, ◌++◌, eqb, length, take, drop}
use Rattle.wire.specs.Copies.{same_numbers}
use Rattle.wire.specs.Fields.{byte_at}
use Rattle.wire.specs.Items.{items, joined}
use Rattle.wire.specs.Pieces.{is_none, cut}
use Rattle.section.specs.Whole.{whole_at}
use Rattle.transport.specs.declared.Answer.{Answer}
use Rattle.transport.specs.declared.Answer.TheVariants as answer
use Rattle.transport.specs.Packet.{View, view_of, packet_refusal, packet_length}

-- Sections are items of 3 + L bytes; 0xFF at a section's first byte is stuffing (section `whole_at`). What is left after the whole ones, and the head
-- of a section among it, none where stuffing stands there
abbrev pub left_of : List ℕ → List ℕ
left_of xs = drop (length (joined (items whole_at xs))) xs

unfoldable pub head_in : List ℕ → List ℕ
head_in xs = cond (eqb (byte_at (left_of xs) 0) 0xFF) [] (left_of xs)

-- the section in hand with more bytes: whole, or not yet. With nothing in hand nothing can end.
unfoldable pub ended : (hand more : List ℕ) → List (List ℕ)
ended hand more = cond (is_none hand || eqb (whole_at (hand ++ more)) 0) [] (take (whole_at (hand ++ more)) (hand ++ more) ∷ [])

unfoldable pub grown : (hand more : List ℕ) → List ℕ
grown hand more = cond (is_none hand || not (eqb (whole_at (hand ++ more)) 0)) [] (hand ++ more)

-- what a packet hands on, and what it leaves in hand
unfoldable pub hands_on : List ℕ → View → List (List ℕ)
hands_on hand v = cond v.payload (ended hand v.before ++ cond v.start (items whole_at v.after) []) []

unfoldable pub leaves : List ℕ → View → List ℕ
leaves hand v = cond v.payload (cond v.start (head_in v.after) (grown hand v.before)) hand

-- THE STATE: the last packet that was not refused (none at first), and the section in hand (none: waiting for a unit start)
pub record State : Type 0 where
  pub last : List ℕ
  pub hand : List ℕ

abbrev pub fresh : State
fresh = record { last = []; hand = [] }

-- "An exact repeat of the last packet"
abbrev pub is_repeat : State → List ℕ → Bool
is_repeat x p = not (is_none x.last) && same_numbers x.last p

-- the counter rises by one, mod 16, with each payload; the first packet is in step with whatever it has
abbrev pub weight : View → ℕ
weight v = cond v.payload 1 0

abbrev pub in_step : (last p : List ℕ) → Bool
in_step last p = is_none last || eqb (view_of p).counter (((view_of last).counter + weight (view_of p)) % 16)

-- "any other break of the counter drops the section in hand"
unfoldable pub kept_hand : State → List ℕ → List ℕ
kept_hand x p = cond (in_step x.last p) x.hand []

-- what became of a packet, or the number that it was refused with
abbrev pub Outcome : Type 0
Outcome = Result Answer ℕ

pub record Fed : Type 0 where
  pub state : State
  pub answer : Outcome
  pub sections : List (List ℕ)

-- "and waits for the next unit start, the breaking packet's own included"
abbrev pub taken_by : State → List ℕ → Fed
taken_by x p =
    record {
      state = record { last = p; hand = leaves (kept_hand x p) (view_of p) };
      answer = Ok (cond (in_step x.last p) answer.Taken answer.Broken);
      sections = hands_on (kept_hand x p) (view_of p);
    }

abbrev pub passed_over : State → Outcome → Fed
passed_over x a = record { state = x; answer = a; sections = [] }

-- ONE PACKET: refused, or a repeat, or taken
unfoldable pub fed : ℕ → State → List ℕ → Fed
fed pid x p = cond (eqb (packet_refusal pid p) 0) (cond (is_repeat x p) (passed_over x (Ok answer.Repeated)) (taken_by x p)) (passed_over x (Err (packet_refusal pid p)))

-- MANY, one by one
unfoldable pub state_after : ℕ → State → List (List ℕ) → State
state_after pid x [] = x
state_after pid x (p ∷ ps) = state_after pid (fed pid x p).state ps

unfoldable pub handed_on : ℕ → State → List (List ℕ) → List (List ℕ)
handed_on pid x [] = []
handed_on pid x (p ∷ ps) = (fed pid x p).sections ++ handed_on pid (fed pid x p).state ps

unfoldable pub answers_of : ℕ → State → List (List ℕ) → List Outcome
answers_of pid x [] = []
answers_of pid x (p ∷ ps) = (fed pid x p).answer ∷ answers_of pid (fed pid x p).state ps

-- the packets that are not refused: of a whole multiplex, those of the PID that are sound
unfoldable pub accepted : ℕ → List (List ℕ) → List (List ℕ)
accepted pid [] = []
accepted pid (p ∷ ps) = cond (eqb (packet_refusal pid p) 0) (p ∷ accepted pid ps) (accepted pid ps)

-- A STRETCH OF BYTES is cut into packets of 188; what is left over is one packet, which is refused with 40 and not kept
abbrev pub packets_in : List ℕ → List (List ℕ)
packets_in xs = cut packet_length xs

-- THE STATE'S RULE: nothing yet; or a packet that is not refused, and in hand nothing or a section's head
abbrev pub is_head : List ℕ → Bool
is_head [] = true
is_head (x ∷ h) = not (eqb x 0xFF) && eqb (whole_at (x ∷ h)) 0

unfoldable pub state_ruled : ℕ → State → Bool
state_ruled pid x = cond (is_none x.last) (is_none x.hand) (eqb (packet_refusal pid x.last) 0 && is_head x.hand)
