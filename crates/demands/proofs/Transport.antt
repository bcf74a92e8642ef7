-- §2. "DEMAND 3 THEN SPEAKS OF THE SECTIONS HANDED ON": the record and the image after calls over packets are those of the sections that the
-- packets handed on, given to the receiver one after another; so each part of demand 3 is one of these sections.
use Prim.Native.Nat.{ℕ, ◌≤◌, ◌<◌}
use mathlib.Core.Path.{◌≡◌, refl, sym, ap, ap₂, subst, ◌∙◌}
use mathlib.Core.Logic.{◌↔◌}
use mathlib.Core.Bool.{Bool, true, false, cond, ◌||◌}
use lib.Dec.{eqb}
use mathlib.Core.List.Memᴰ
use mathlib.Core.List.{List, [], ◌∷◌, ◌++◌}
use native.Mathlib.Omega.{arith}
use lib.ListN.{length, length-append}
use Rattle.wire.specs.Fields.{byte_at}
use Rattle.wire.specs.Items.{Whole, Wholes, joined}
use Rattle.section.specs.Whole.{said_length, is_short, whole_at}
use Rattle.section.proofs.Laws.Whole.{whole_stuffing, whole-three}
use Rattle.carousel_record.specs.Record.{ruled_of}
use Rattle.receiver.specs.Run.{Held, sections_of, walk, ran_of, image_ran, run_of}
use Rattle.receiver.proofs.Runs.{runs_rule}
use Rattle.transport.specs.Feed.{handed_on}
use Rattle.transport.specs.State.{state_in}
use Rattle.transport.specs.Calls.{gathered_packets, gather_state}
use Rattle.transport.specs.Grouped.{all_given, gave, left_by}
use Rattle.transport.proofs.Laws.Wholes.{sections-whole}
use Rattle.transport.proofs.Laws.Calls.{gather-size}
use Rattle.transport_run.specs.Heard.{any_number, heard_stretch, heard_answer, heard_state, heard_image}
use Rattle.demands.specs.Demand.{called, took_by, Emptied, Keeps, trace, answers_for, bytes_in, missing_in, is_complete, blocks, Came}
use Rattle.demands.specs.Quiet.{Holds}
use Rattle.demands.specs.Transport.{Lending, heard_by, gathers, runs_over, Lendable}
use Rattle.demands.proofs.Calls.{broken-walk}
use Rattle.demands.proofs.Stretches.{Cut, joined-sections}
use Rattle.demands.proofs.Three.{calls-walk_any, isolation, completeness}

said : (s : List ℕ) → (whole_at s ≡ 0 → ⊥) → whole_at s ≡ said_length s
unfolding whole_at
said s n = go (is_short s || eqb (byte_at s 0) 0xFF) n
  where
    go : (t : Bool) → (cond t 0 (said_length s) ≡ 0 → ⊥) → cond t 0 (said_length s) ≡ said_length s
    go true z = absurd (z refl)
    go false z = refl

-- whole sections are as long as they say, and no stuffing
cut_of : (s : List ℕ) → Whole whole_at s → Cut s
cut_of s w =
    let z : whole_at s ≡ 0 → ⊥ = λ e. omega (arith, e, w.0, w.1) in
    record { headed = omega (arith, whole-three s z, w.0); exact = sym w.0 ∙ said s z; plain = λ e. z (whole_stuffing s e) }

cuts_of : (ss : List (List ℕ)) → Wholes whole_at ss → (s : List ℕ) → Holds ss s → Cut s
cuts_of [] w t x = elim x [ ]
cuts_of (s ∷ ss) w t (Memᴰ.head e) = subst Cut (sym e) (cut_of s w.0)
cuts_of (s ∷ ss) w t (Memᴰ.tail h) = cuts_of ss w.1 t h

-- each has bytes, so there are no more of them than bytes
fewer : (ss : List (List ℕ)) → Wholes whole_at ss → length ss ≤ length (joined ss)
unfolding joined
fewer [] w = omega arith
fewer (s ∷ ss) w = let i = fewer ss w.1 in let l = length-append s (joined ss) in omega (arith, i, l, w.0.1)

-- WHAT PACKETS HAND ON, THE RUN TAKES: these sections, in this order, and nothing else
pub run_takes : (pid : ℕ) (s : List ℕ) (room : ℕ) (xs : List ℕ) → room < 18446744073709551616
    → sections_of any_number (heard_stretch pid s room xs) ≡ handed_on pid (state_in s) (gathered_packets pid s room xs)
unfolding heard_stretch
run_takes pid s room xs l =
    let ss = handed_on pid (state_in s) (gathered_packets pid s room xs) in
    let w = sections-whole pid (gathered_packets pid s room xs) (state_in s) in
    joined-sections ss (cuts_of ss w) any_number (omega (arith, fewer ss w, gather-size pid s room xs, l))

pub took-sections : (pid : ℕ) (s : List ℕ) (ks : List Lending) → Lendable ks → took_by (runs_over pid s ks) ≡ all_given pid s (gathers ks)
unfolding took_by runs_over gathers all_given gave left_by
took-sections pid s [] l = refl
took-sections pid s (k ∷ ks) l =
    ap₂ (λ (a b : List (List ℕ)). a ++ b) (run_takes pid s k.room k.packets l.0) (took-sections pid (gather_state pid s k.room k.packets) ks l.1)

-- a record that keeps its rule: the call is the run over what was handed on
module _ (x : Held) (r : ruled_of x.state ≡ true) (pid : ℕ) (s : List ℕ) (k : Lending) where
  state-is : (heard_answer x.state pid k.packets s k.room x.image).state ≡ (ran_of x.state (heard_stretch pid s k.room k.packets) x.image any_number).state
  unfolding heard_answer
  state-is = rw r

  image-is : heard_image x.state pid k.packets s k.room x.image ≡ image_ran x.state (heard_stretch pid s k.room k.packets) x.image any_number
  unfolding heard_image
  image-is = rw r

  left_is : heard_state x.state pid k.packets s k.room ≡ gather_state pid s k.room k.packets
  unfolding heard_state
  left_is = rw r

  still-ruled : ruled_of (ran_of x.state (heard_stretch pid s k.room k.packets) x.image any_number).state ≡ true
  unfolding run_of
  still-ruled = rw r (runs_rule any_number x.state (heard_stretch pid s k.room k.packets) x.image r)

pub heard-called : (pid : ℕ) (ks : List Lending) (x : Held) (s : List ℕ) → ruled_of x.state ≡ true → heard_by pid x s ks ≡ called x (runs_over pid s ks)
unfolding heard_by called runs_over
heard-called pid [] x s r = refl
heard-called pid (k ∷ ks) x s r =
    (λ i. heard_by pid (record { state = state-is x r pid s k i; image = image-is x r pid s k i }) (left_is x r pid s k i) ks)
    ∙ heard-called pid ks _ (gather_state pid s k.room k.packets) (still-ruled x r pid s k)

-- one that breaks its rule: every call is refused with 1, and nothing changes
module _ (x : Held) (r : ruled_of x.state ≡ false) (pid : ℕ) (s : List ℕ) where
  broken-heard : (ks : List Lending) → heard_by pid x s ks ≡ x
  unfolding heard_by heard_answer heard_image heard_state
  broken-heard [] = refl
  broken-heard (k ∷ ks) = rw r (broken-heard ks)

-- CALLS OVER PACKETS LEAVE WHAT THE SECTIONS HANDED ON LEAVE, of any record
pub packets-walk_any : (pid : ℕ) (ks : List Lending) (x : Held) (s : List ℕ) → Lendable ks → heard_by pid x s ks ≡ walk x (all_given pid s (gathers ks))
packets-walk_any pid ks x s l = go (ruled_of x.state) refl
  where
    go : (t : Bool) → ruled_of x.state ≡ t → heard_by pid x s ks ≡ walk x (all_given pid s (gathers ks))
    go true r = heard-called pid ks x s r ∙ calls-walk_any x (runs_over pid s ks) ∙ ap (walk x) (took-sections pid s ks l)
    go false r = broken-heard x r pid s ks ∙ sym (broken-walk x r (all_given pid s (gathers ks)))

-- of a record that keeps its rule
pub packets-walk : (pid : ℕ) (ks : List Lending) (x : Held) (s : List ℕ) → ruled_of x.state ≡ true → Lendable ks → heard_by pid x s ks ≡ walk x (all_given pid s (gathers ks))
packets-walk pid ks x s r l = packets-walk_any pid ks x s l

-- and so demand 3, word for word, of the sections handed on
module _ (x : Held) (k : ℕ) (start : Emptied x k) (pid : ℕ) (s : List ℕ) where
  abbrev heard : List Lending → List (List ℕ)
  heard ks = all_given pid s (gathers ks)

  same-walk : (ks : List Lending) → Lendable ks → heard_by pid x s ks ≡ walk x (heard ks)
  same-walk ks l = packets-walk_any pid ks x s l

  pub isolation_of-packets : (ks js : List Lending) → Lendable ks → Lendable js → Keeps x k (heard ks) → Keeps x k (heard js) → trace x k (heard ks) ≡ trace x k (heard js)
      → (answers_for x k (heard ks) ≡ answers_for x k (heard js))
      × (bytes_in (heard_by pid x s ks) k ≡ bytes_in (heard_by pid x s js) k) × (missing_in (heard_by pid x s ks) k ≡ missing_in (heard_by pid x s js) k)
  isolation_of-packets ks js a b n m e = rw (same-walk ks a, same-walk js b) (isolation x k start (heard ks) (heard js) n m e)

  pub completeness_of-packets : (ks : List Lending) → Lendable ks → Keeps x k (heard ks) → (is_complete (heard_by pid x s ks) k ≡ true) ↔ ((b : ℕ) → b < blocks x k → Came x k b (heard ks))
  completeness_of-packets ks l n = rw (same-walk ks l) (completeness x k start (heard ks) n)
