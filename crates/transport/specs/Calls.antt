-- WHAT THE CALLS ANSWER, and what they leave in the lent state and the lent buffer. 02, §2.
use Rattle.std.specs.Prelude.{ℕ, suc, ◌+◌, ◌-◌, Bool, true, false, not, cond, ◌&&◌, Result, Ok, Err, List, [], ◌∷◌, eqb, ltb, length, take}
use Rattle.wire.specs.Items.{joined}
use Rattle.wire.specs.Outcomes.{answered}
use Rattle.wire.specs.Pieces.{laid_first}
use Rattle.wire.specs.Tests.{Tests, first_met}
use Rattle.transport.specs.declared.Answer.TheVariants as answer
use Rattle.transport.specs.declared.Handed.{Handed}
use Rattle.transport.specs.declared.Counts.{Counts}
use Rattle.transport.specs.declared.Gathered.{Gathered}
use Rattle.transport.specs.Packet.{packet_refusal}
use Rattle.transport.specs.Feed.{State, Fed, Outcome, is_repeat, taken_by, fed, handed_on, answers_of, packets_in}
use Rattle.transport.specs.State.{state_in, state_bytes, state_good}

-- the most that one packet can hand on: 4,097 bytes in hand, and 184 that it brings
abbrev pub most_handed : ℕ
most_handed = 4281

-- 1 a state that the rules can't have left; 21 a buffer of less room than one packet may need
abbrev pub lent_tests : (pid : ℕ) → (state : List ℕ) → (room : ℕ) → Tests
lent_tests pid s room = (1, not (state_good pid s)) ∷ (21, ltb room most_handed) ∷ []

unfoldable pub lent_refusal : (pid : ℕ) → (state : List ℕ) → (room : ℕ) → ℕ
lent_refusal pid s room = first_met (lent_tests pid s room)

-- what a packet leaves in the state: a refused one, or a repeat, leaves it as it is
unfoldable pub next_state : (pid : ℕ) → (state packet : List ℕ) → List ℕ
next_state pid s p = cond (eqb (packet_refusal pid p) 0 && not (is_repeat (state_in s) p)) (laid_first (state_bytes (taken_by (state_in s) p).state) s) s

-- ONE PACKET
unfoldable pub feed_outcome : (pid : ℕ) → (state : List ℕ) → (room : ℕ) → (packet : List ℕ) → Fed
feed_outcome pid s room p = cond (eqb (lent_refusal pid s room) 0)
    (fed pid (state_in s) p)
    (record { state = state_in s; answer = Err (lent_refusal pid s room); sections = [] })

unfoldable pub feed_answer : (pid : ℕ) → (state : List ℕ) → (room : ℕ) → (packet : List ℕ) → Handed
feed_answer pid s room p = record { answer = (feed_outcome pid s room p).answer; size = length (joined (feed_outcome pid s room p).sections) }

-- what is left in the state, and in the buffer: the whole sections, end to end. A refusal changes nothing.
unfoldable pub feed_state : (pid : ℕ) → (state : List ℕ) → (room : ℕ) → (packet : List ℕ) → List ℕ
feed_state pid s room p = cond (eqb (lent_refusal pid s room) 0) (next_state pid s p) s

unfoldable pub feed_out : (pid : ℕ) → (state packet out : List ℕ) → List ℕ
feed_out pid s p out = laid_first (joined (feed_outcome pid s (length out) p).sections) out

-- MANY, one by one: as many packets as there is room for, before each the most that one can hand on
unfoldable pub fitting : (pid room : ℕ) → State → List (List ℕ) → ℕ
fitting pid room x [] = 0
fitting pid room x (p ∷ ps) = cond (ltb room most_handed) 0 (suc (fitting pid (room - length (joined (fed pid x p).sections)) (fed pid x p).state ps))

-- what they leave in the state, one after another
unfoldable pub states_over : (pid : ℕ) → (state : List ℕ) → List (List ℕ) → List ℕ
states_over pid s [] = s
states_over pid s (p ∷ ps) = states_over pid (next_state pid s p) ps

unfoldable pub gathered_packets : (pid : ℕ) → (state : List ℕ) → (room : ℕ) → (stretch : List ℕ) → List (List ℕ)
gathered_packets pid s room xs = cond (eqb (lent_refusal pid s room) 0) (take (fitting pid room (state_in s) (packets_in xs)) (packets_in xs)) []

-- how many of each answer
unfoldable pub how_many : (Outcome → Bool) → List Outcome → ℕ
how_many test [] = 0
how_many test (a ∷ as') = cond (test a) 1 0 + how_many test as'

-- "taken: packets of the PID that were used, with or without payload, breaking ones included; repeated ones apart"
abbrev pub is_taken : Outcome → Bool
is_taken (Ok answer.Taken) = true
is_taken (Ok answer.Broken) = true
is_taken (Ok answer.Repeated) = false
is_taken (Err n) = false

abbrev pub is_repeated : Outcome → Bool
is_repeated (Ok answer.Taken) = false
is_repeated (Ok answer.Broken) = false
is_repeated (Ok answer.Repeated) = true
is_repeated (Err n) = false

abbrev pub is_broken : Outcome → Bool
is_broken (Ok answer.Taken) = false
is_broken (Ok answer.Broken) = true
is_broken (Ok answer.Repeated) = false
is_broken (Err n) = false

abbrev pub is_refused_with : ℕ → Outcome → Bool
is_refused_with k (Ok answer.Taken) = false
is_refused_with k (Ok answer.Broken) = false
is_refused_with k (Ok answer.Repeated) = false
is_refused_with k (Err n) = eqb n k

unfoldable pub tally : List Outcome → Counts
tally rs =
    record {
      taken = how_many is_taken rs;
      repeated = how_many is_repeated rs;
      broken = how_many is_broken rs;
      refused40 = how_many (is_refused_with 40) rs;
      refused41 = how_many (is_refused_with 41) rs;
      refused42 = how_many (is_refused_with 42) rs;
      refused43 = how_many (is_refused_with 43) rs;
    }

unfoldable pub gathered_of : (pid : ℕ) → (state : List ℕ) → (room : ℕ) → (stretch : List ℕ) → Gathered
gathered_of pid s room xs =
    record {
      passed = length (joined (gathered_packets pid s room xs));
      size = length (joined (handed_on pid (state_in s) (gathered_packets pid s room xs)));
      counts = tally (answers_of pid (state_in s) (gathered_packets pid s room xs));
    }

unfoldable pub gather_answer : (pid : ℕ) → (state : List ℕ) → (room : ℕ) → (stretch : List ℕ) → Result Gathered ℕ
gather_answer pid s room xs = answered (lent_refusal pid s room) (gathered_of pid s room xs)

unfoldable pub gather_state : (pid : ℕ) → (state : List ℕ) → (room : ℕ) → (stretch : List ℕ) → List ℕ
gather_state pid s room xs = states_over pid s (gathered_packets pid s room xs)

unfoldable pub gather_out : (pid : ℕ) → (state stretch out : List ℕ) → List ℕ
gather_out pid s xs out = laid_first (joined (handed_on pid (state_in s) (gathered_packets pid s (length out) xs))) out
