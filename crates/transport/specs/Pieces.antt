-- WHAT THE CODE'S OWN FUNCTIONS SAY between the calls. No call's meaning rests on it.
use Rattle.std.specs.Prelude.{ℕ, ◌+◌, ◌%◌, ◌≤◌, ◌<◌, ◌≡◌, true, false, not, cond, ◌&&◌, Ok, Err, Option, Some, None, IfSome, List, ◌++◌, eqb, length, drop}
use Rattle.wire.specs.Copies.{same_numbers}
use Rattle.wire.specs.Fields.{byte_at, sixteen_at, spelled}
use Rattle.wire.specs.Items.{joined}
use Rattle.wire.specs.Pieces.{is_none, laid_first}
use Rattle.section.specs.Whole.{said_length}
use Rattle.transport.specs.declared.Answer.{Answer}
use Rattle.transport.specs.declared.Answer.TheVariants as answer
use Rattle.transport.specs.declared.Counts.{Counts}
use Rattle.transport.specs.Packet.{packet_length, packet_refusal, counter_of}
use Rattle.transport.specs.Feed.{Outcome, in_step, fed}
use Rattle.transport.specs.State.{hand_at, last_in, held_in, state_in, state_good}
use Rattle.transport.specs.Calls.{is_taken, is_repeated, is_broken, is_refused_with, next_state}

-- what becomes of a packet that is not refused, and of any, by the last one alone
unfoldable pub judged_after : (last p : List ℕ) → Answer
judged_after last p = cond (not (is_none last) && same_numbers last p) answer.Repeated (cond (in_step last p) answer.Taken answer.Broken)

unfoldable pub judged : (pid : ℕ) → (last p : List ℕ) → Outcome
judged pid last p = cond (eqb (packet_refusal pid p) 0) (Ok (judged_after last p)) (Err (packet_refusal pid p))

-- IN THE MIDDLE OF A STRETCH the last packet and the number of bytes in hand are not written to the state yet: it is one of the stretch; or none of
-- them was taken so far, and it is still in the state.
abbrev pub last_seen : (last : Option (List ℕ)) → (state : List ℕ) → List ℕ
last_seen None s = last_in s
last_seen (Some l) s = l

-- the state's bytes with this packet as the last and so many bytes in hand
abbrev pub with_last : (packet : List ℕ) → (held : ℕ) → (state : List ℕ) → List ℕ
with_last p held s = p ++ spelled 2 held ++ drop hand_at s

-- what the state's bytes are to be
abbrev pub midway : (last : Option (List ℕ)) → (held : ℕ) → (state : List ℕ) → List ℕ
midway None held s = s
midway (Some l) held s = with_last l held s

abbrev pub Midway : (pid : ℕ) → (last : Option (List ℕ)) → (held : ℕ) → (state : List ℕ) → Type 0
Midway pid last held s =
    (state_good pid (midway last held s) ≡ true) × (held ≡ held_in (midway last held s)) × IfSome last (λ l. packet_refusal pid l ≡ 0)

-- WHAT ONE PACKET CAME TO there: v is what the state's bytes were to be, s what they were, with so many bytes in hand; a, n and m are the answer, the
-- bytes handed on and the bytes in hand, s' and out' what is left. One that is not taken leaves all as it was.
abbrev pub Stepped : (pid : ℕ) → (v s : List ℕ) → (held : ℕ) → (p out : List ℕ) → (a : Outcome) → (n m : ℕ) → (s' out' : List ℕ) → Type 0
Stepped pid v s held p out a n m s' out' =
    (a ≡ (fed pid (state_in v) p).answer)
    × (n ≡ length (joined (fed pid (state_in v) p).sections))
    × (m ≡ held_in (next_state pid v p))
    × (is_taken a ≡ true → with_last p m s' ≡ next_state pid v p)
    × (is_taken a ≡ false → (s' ≡ s) × (m ≡ held))
    × (out' ≡ laid_first (joined (fed pid (state_in v) p).sections) out)

-- A PLAIN PACKET does nothing but go on with the section in hand, which is not whole with it: 184 bytes, no adaptation field, no unit start, in step.
-- Long sections are made of these.
pub record Plain (pid : ℕ) (last hand p : List ℕ) : Type 0 where
  pub long : length p ≡ packet_length
  pub sync : byte_at p 0 ≡ 0x47
  pub small : pid < 8192
  pub asked : sixteen_at p 1 ≡ pid
  pub next : byte_at p 3 ≡ 16 + (counter_of last + 1) % 16
  pub begun : 3 ≤ length hand
  pub lacking : length hand + 184 < said_length hand

-- counts with one more answer
unfoldable pub counted_with : Counts → Outcome → Counts
counted_with c a =
    record {
      taken = c.taken + cond (is_taken a) 1 0;
      repeated = c.repeated + cond (is_repeated a) 1 0;
      broken = c.broken + cond (is_broken a) 1 0;
      refused40 = c.refused40 + cond (is_refused_with 40 a) 1 0;
      refused41 = c.refused41 + cond (is_refused_with 41 a) 1 0;
      refused42 = c.refused42 + cond (is_refused_with 42 a) 1 0;
      refused43 = c.refused43 + cond (is_refused_with 43 a) 1 0;
    }

-- the answer of the one packet that was counted; it had 188 bytes
unfoldable pub counted_as : Counts → Outcome
counted_as c =
    cond (eqb c.broken 0)
    (cond (eqb c.taken 0)
    (cond (eqb c.repeated 0)
    (cond (eqb c.refused41 0) (cond (eqb c.refused42 0) (Err 43) (Err 42)) (Err 41))
    (Ok answer.Repeated))
    (Ok answer.Taken))
    (Ok answer.Broken)

-- one more can be counted
abbrev pub most : ℕ
most = 18446744073709551615

abbrev pub Countable : Counts → Type 0
Countable c =
    (c.taken < most) × (c.repeated < most) × (c.broken < most) × (c.refused40 < most) × (c.refused41 < most) × (c.refused42 < most) × (c.refused43 < most)
