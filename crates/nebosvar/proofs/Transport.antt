-- Of packets too, what a program in C sees as `refusal` is the paper's number, 0 where there is none; of one packet it is 0 exactly where there is a kind. Where it is not 0, every
-- other number is 0 and nothing was changed.
use Prim.Native.Nat.{ℕ, zero, suc}
use mathlib.Core.Path.{◌≡◌, refl, sym, ap, ◌∙◌}
use mathlib.Core.Bool.{Bool, true, false, cond}
use mathlib.Core.List.{List, [], ◌++◌}
use native.Mathlib.Omega.{arith}
use lib.Dec.{eqb}
use lib.ListN.{length, take}
use borrow.Author.Tests.{eqb-true, eqb-false, ne_eqb}
use Rattle.wire.specs.Items.{joined}
use Rattle.wire.specs.Outcomes.{answered}
use Rattle.wire.specs.Pieces.{laid_first}
use Rattle.wire.specs.Tests.{first_met}
use Rattle.wire.proofs.Laws.Tests.{met_append}
use Rattle.transport.specs.declared.Gathered.{Gathered}
use Rattle.transport.specs.Packet.{view_of, packet_tests, packet_refusal}
use Rattle.transport.specs.Feed.{Fed, Outcome, is_repeat, in_step, kept_hand, hands_on, leaves, passed_over, fed, answers_of, packets_in}
use Rattle.transport.specs.State.{state_in}
use Rattle.transport.specs.Calls.{
  lent_tests,
  lent_refusal,
  next_state,
  feed_outcome,
  feed_answer,
  feed_state,
  feed_out,
  fitting,
  gathered_packets,
  gathered_of,
  how_many,
  is_taken,
  is_repeated,
  is_broken,
  is_refused_with,
  tally,
  gather_answer,
  gather_state,
  gather_out,
}
use Rattle.transport.proofs.Laws.Hands.{none-long, none_laid}
use Rattle.transport.proofs.Laws.States.{refused-stays}
use Rattle.transport.proofs.Laws.Calls.{gather-refused}
use Rattle.transport_write.specs.Writer.{section_packets, pack_tests, pack_refusal, pack_answer, packed_bytes}
use Rattle.transport_write.proofs.Exact.{refused-keeps}
use Rattle.nebosvar.specs.Packets.{number_of_packet, kind_of_packet, fed_out, gathered_out, packed_out}
use Rattle.nebosvar.proofs.Numbers.{OneOfTwo}
use Rattle.std.proofs.Common.{Ok, Err}
use Rattle.transport.specs.declared.Answer.TheVariants as answer

-- ONE PACKET, by what decides: the state and the buffer, the packet, a repeat, the counter
module _ (pid : ℕ) (s : List ℕ) (room : ℕ) (p : List ℕ) where
  abbrev lent : ℕ
  lent = lent_refusal pid s room

  abbrev own : ℕ
  own = packet_refusal pid p

  abbrev by : (t u v w : Bool) → Fed
  by t u v w =
      cond t
      (cond u
      (cond v
      (passed_over (state_in s) (Ok answer.Repeated))
      (record {
        state = record { last = p; hand = leaves (kept_hand (state_in s) p) (view_of p) };
        answer = Ok (cond w answer.Taken answer.Broken);
        sections = hands_on (kept_hand (state_in s) p) (view_of p);
      }))
      (passed_over (state_in s) (Err own)))
      (record { state = state_in s; answer = Err lent; sections = [] })

  number_by : (t u v w : Bool) → eqb own 0 ≡ u → number_of_packet (by t u v w).answer ≡ cond t own lent
  unfolding number_of_packet
  number_by true true true w f = sym (eqb-true own 0 f)
  number_by true true false true f = sym (eqb-true own 0 f)
  number_by true true false false f = sym (eqb-true own 0 f)
  number_by true false v w f = refl
  number_by false u v w f = refl

  one-by : (t u v w : Bool) → eqb lent 0 ≡ t → eqb own 0 ≡ u → OneOfTwo (number_of_packet (by t u v w).answer) (kind_of_packet (by t u v w).answer)
  unfolding number_of_packet kind_of_packet
  one-by true true true w e f = (λ n k. omega (arith, k), λ k. refl)
  one-by true true false true e f = (λ n k. omega (arith, k), λ k. refl)
  one-by true true false false e f = (λ n k. omega (arith, k), λ k. refl)
  one-by true false v w e f = (λ n k. eqb-false own 0 f n, λ k. absurd (k refl))
  one-by false u v w e f = (λ n k. eqb-false lent 0 e n, λ k. absurd (k refl))

  kind-by : (t u v w : Bool) → eqb lent 0 ≡ t → eqb own 0 ≡ u → number_of_packet (by t u v w).answer ≡ 0 → kind_of_packet (by t u v w).answer ≡ cond v 3 (cond w 1 2)
  unfolding number_of_packet kind_of_packet
  kind-by true true true w e f n = refl
  kind-by true true false true e f n = refl
  kind-by true true false false e f n = refl
  kind-by true false v w e f n = absurd (eqb-false own 0 f n)
  kind-by false u v w e f n = absurd (eqb-false lent 0 e n)

  -- "Refusals, lowest first": 1 and 21 of what is lent, then the packet's
  pub feed-refusal : (fed_out (feed_answer pid s room p)).refusal ≡ first_met (lent_tests pid s room ++ packet_tests pid p)
  unfolding feed_answer feed_outcome fed lent_refusal packet_refusal
  feed-refusal =
      number_by (eqb lent 0) (eqb own 0) (is_repeat (state_in s) p) (in_step (state_in s).last p) refl
      ∙ sym (met_append 0 (lent_tests pid s room) (packet_tests pid p) (omega arith, (omega arith, tt)))

  -- exactly one of refusal and kind is 0
  pub feed-one_of-two : OneOfTwo (fed_out (feed_answer pid s room p)).refusal (fed_out (feed_answer pid s room p)).kind
  unfolding feed_answer feed_outcome fed
  feed-one_of-two = one-by (eqb lent 0) (eqb own 0) (is_repeat (state_in s) p) (in_step (state_in s).last p) refl refl

  -- 3 an exact repeat; else 1 in step, or 2
  pub feed_kind : (fed_out (feed_answer pid s room p)).refusal ≡ 0 → (fed_out (feed_answer pid s room p)).kind ≡ cond (is_repeat (state_in s) p) 3 (cond (in_step (state_in s).last p) 1 2)
  unfolding feed_answer feed_outcome fed
  feed_kind = kind-by (eqb lent 0) (eqb own 0) (is_repeat (state_in s) p) (in_step (state_in s).last p) refl refl

-- and a refusal changes nothing
module _ (pid : ℕ) (s p out : List ℕ) where
  abbrev by_out : (t u v w : Bool) → Fed
  by_out = by pid s (length out) p

  nothing-by : (t u v w : Bool) → eqb (packet_refusal pid p) 0 ≡ u → (number_of_packet (by_out t u v w).answer ≡ 0 → ⊥)
      → (length (joined (by_out t u v w).sections) ≡ 0) × (cond t (next_state pid s p) s ≡ s) × (laid_first (joined (by_out t u v w).sections) out ≡ out)
  unfolding number_of_packet
  nothing-by true true true w f n = absurd (n refl)
  nothing-by true true false true f n = absurd (n refl)
  nothing-by true true false false f n = absurd (n refl)
  nothing-by true false v w f n = (none-long, refused-stays pid s p (eqb-false (packet_refusal pid p) 0 f), none_laid out)
  nothing-by false u v w f n = (none-long, refl, none_laid out)

  pub feed_changes-nothing : ((fed_out (feed_answer pid s (length out) p)).refusal ≡ 0 → ⊥)
      → ((fed_out (feed_answer pid s (length out) p)).size ≡ 0) × (feed_state pid s (length out) p ≡ s) × (feed_out pid s p out ≡ out)
  unfolding feed_answer feed_outcome fed feed_state feed_out
  feed_changes-nothing = nothing-by (eqb (lent_refusal pid s (length out)) 0) (eqb (packet_refusal pid p) 0) (is_repeat (state_in s) p) (in_step (state_in s).last p) refl

-- a refusal's number stands beside what an answer says
refused-stretch : (n : ℕ) (g : Gathered) → (gathered_out (answered n g)).refusal ≡ n
unfolding gathered_out
refused-stretch zero g = refl
refused-stretch (suc n) g = refl

refused-packets : (n size : ℕ) → (packed_out (answered n size)).refusal ≡ n
refused-packets zero size = refl
refused-packets (suc n) size = refl

-- A STRETCH: 1 and 21 alone; a refused packet does not stop the rest
module _ (pid : ℕ) (s : List ℕ) (room : ℕ) (xs : List ℕ) where
  gather_number : (gathered_out (gather_answer pid s room xs)).refusal ≡ lent_refusal pid s room
  unfolding gather_answer
  gather_number = refused-stretch (lent_refusal pid s room) (gathered_of pid s room xs)

  pub gather-refusal : (gathered_out (gather_answer pid s room xs)).refusal ≡ first_met (lent_tests pid s room)
  unfolding lent_refusal
  gather-refusal = gather_number

  abbrev answers : List Outcome
  answers = answers_of pid (state_in s) (gathered_packets pid s room xs)

  -- none where what is lent is refused
  none-counted : (test : Outcome → Bool) (n : ℕ) → suc n ≡ lent_refusal pid s room → 0 ≡ how_many test answers
  unfolding gathered_packets answers_of how_many
  none-counted test n e =
      sym (ap (λ (t : Bool). how_many test (answers_of pid (state_in s) (cond t (take (fitting pid room (state_in s) (packets_in xs)) (packets_in xs)) [])))
      (ne_eqb (lent_refusal pid s room) 0 (λ z. omega (arith, e, z))))

  -- each number counts the packets that had its answer
  pub gather-counts : let g = gathered_out (gather_answer pid s room xs) in
      (g.taken ≡ how_many is_taken answers) × (g.repeated ≡ how_many is_repeated answers) × (g.broken ≡ how_many is_broken answers)
      × (g.refused40 ≡ how_many (is_refused_with 40) answers) × (g.refused41 ≡ how_many (is_refused_with 41) answers)
      × (g.refused42 ≡ how_many (is_refused_with 42) answers) × (g.refused43 ≡ how_many (is_refused_with 43) answers)
  unfolding gather_answer gathered_out gathered_of tally
  gather-counts = go (lent_refusal pid s room) refl
    where
      go : (n : ℕ) → n ≡ lent_refusal pid s room → let g = gathered_out (answered n (gathered_of pid s room xs)) in
          (g.taken ≡ how_many is_taken answers) × (g.repeated ≡ how_many is_repeated answers) × (g.broken ≡ how_many is_broken answers)
          × (g.refused40 ≡ how_many (is_refused_with 40) answers) × (g.refused41 ≡ how_many (is_refused_with 41) answers)
          × (g.refused42 ≡ how_many (is_refused_with 42) answers) × (g.refused43 ≡ how_many (is_refused_with 43) answers)
      go zero e = (refl, refl, refl, refl, refl, refl, refl)
      go (suc n) e = (
        none-counted is_taken n e,
        none-counted is_repeated n e,
        none-counted is_broken n e,
        none-counted (is_refused_with 40) n e,
        none-counted (is_refused_with 41) n e,
        none-counted (is_refused_with 42) n e,
        none-counted (is_refused_with 43) n e,
      )

pub gather_changes-nothing : (pid : ℕ) (s xs out : List ℕ) → ((gathered_out (gather_answer pid s (length out) xs)).refusal ≡ 0 → ⊥)
    → (gathered_out (gather_answer pid s (length out) xs) ≡
    record {
      passed = 0;
      size = 0;
      taken = 0;
      repeated = 0;
      broken = 0;
      refused40 = 0;
      refused41 = 0;
      refused42 = 0;
      refused43 = 0;
      refusal = lent_refusal pid s (length out);
    })
    × (gather_state pid s (length out) xs ≡ s) × (gather_out pid s xs out ≡ out)
unfolding gathered_out
gather_changes-nothing pid s xs out n =
    let g = gather-refused pid s out xs (lent_refusal pid s (length out)) refl (λ z. n (gather_number pid s (length out) xs ∙ z)) in
    (sym (ap gathered_out g.0), sym g.1, sym g.2)

-- THE OTHER WAY
pub pack-refusal : (pid c : ℕ) (s : List ℕ) (room : ℕ) → (packed_out (pack_answer pid c s room)).refusal ≡ first_met (pack_tests pid c s room)
unfolding pack_answer pack_refusal
pack-refusal pid c s room = refused-packets (pack_refusal pid c s room) (length (section_packets pid c s))

pub pack_changes-nothing : (pid c : ℕ) (s out : List ℕ) → ((packed_out (pack_answer pid c s (length out))).refusal ≡ 0 → ⊥)
    → ((packed_out (pack_answer pid c s (length out))).packets ≡ 0) × (packed_bytes pid c s out ≡ out)
unfolding pack_refusal
pack_changes-nothing pid c s out n =
    let k = refused-keeps pid c s out (λ z. n (pack-refusal pid c s (length out) ∙ z)) in
    (ap (λ a. (packed_out a).packets) k.0, k.1)
