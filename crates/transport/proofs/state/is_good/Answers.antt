-- `transport::state::is_good` meets its contract: the tests, one after another.
use Prim.Native.Nat.{ℕ, ◌+◌, ◌-◌}
use mathlib.Core.Path.{◌≡◌, sym, ap, ◌∙◌}
use mathlib.Core.List.{List}
use native.Mathlib.Omega.{arith}
use Rattle.std.proofs.Common.{is_err}
use lib.ListN.{take, drop}
use lib.Seq.{length-take-le}
use Rattle.wire.specs.Fields.{byte_at}
use Rattle.transport.specs.Packet.{packet_length, packet_refusal}
use Rattle.transport.specs.Feed.{is_head}
use Rattle.transport.specs.State.{hand_at, held_in}
use Rattle.transport.proofs.Laws.States.{good-short, good-untouched, good-refused, good-over, good-head, clear-told, refused-told}
use Rattle.transport.proofs.state.is_good.Goals as goal
use Rattle.transport.proofs.state.is_good.Goals.{Else-is_err, Else-state-eq0, Start}

abbrev bytes : Start → List ℕ
bytes s = s.args.state.now

-- none of the tests so far
not_zero : (c : Else-state-eq0) → byte_at (bytes ((goal.at.Else-state-eq0 c).Start)) 0 ≡ 0 → ⊥
not_zero c = c.if-state-eq0.false

sound : (c : Else-is_err) → packet_refusal c.args.pid (take packet_length c.args.state.now) ≡ 0
sound c = clear-told _ (sym c.if-is_err.false ∙ c.is_err.ensures.value ∙ ap is_err c.judge_packet.ensures)

pub returns-then-state-lt-STATE_LENGTH : goal.returns-then-state-lt-STATE_LENGTH
returns-then-state-lt-STATE_LENGTH c = sym (good-short c.args.pid (bytes (goal.at.returns-then-state-lt-STATE_LENGTH c).Start) c.if-state-lt-STATE_LENGTH.true)

pub slice_bounds-is_equal-end : goal.slice_bounds-is_equal-end
slice_bounds-is_equal-end c = sym (length-take-le hand_at (bytes ((goal.at.slice_bounds-is_equal-end c).Start)) (omega arith))

pub returns-then-state-eq0 : goal.returns-then-state-eq0
returns-then-state-eq0 c =
    c.is_equal.ensures ∙ sym (good-untouched c.args.pid (bytes ((goal.at.returns-then-state-eq0 c).Start)) (omega arith) c.if-state-eq0.true)

pub slice_bounds-judge_packet-end : goal.slice_bounds-judge_packet-end
slice_bounds-judge_packet-end c = sym (length-take-le packet_length (bytes ((goal.at.slice_bounds-judge_packet-end c).Start)) (omega arith))

pub returns-then-is_err : goal.returns-then-is_err
returns-then-is_err c =
    sym (good-refused c.args.pid (bytes (goal.at.returns-then-is_err c).Start) (omega arith) (not_zero (goal.at.returns-then-is_err c).Else-state-eq0)
    (refused-told _ (sym c.if-is_err.true ∙ c.is_err.ensures.value ∙ ap is_err c.judge_packet.ensures)))

pub returns-then-held-gt-MOST_IN_HAND : goal.returns-then-held-gt-MOST_IN_HAND
returns-then-held-gt-MOST_IN_HAND c =
    sym (good-over c.args.pid (bytes (goal.at.returns-then-held-gt-MOST_IN_HAND c).Start) (omega arith) (not_zero (goal.at.returns-then-held-gt-MOST_IN_HAND c).Else-state-eq0) (sound
    (goal.at.returns-then-held-gt-MOST_IN_HAND c).Else-is_err) (omega (arith, c.held_in-held.ensures.0, c.if-held-gt-MOST_IN_HAND.true)))

pub returns : goal.returns
returns c =
    let h = c.held_in-held.ensures.0 in
    let n : hand_at + c.held_in-held.result - hand_at ≡ held_in (bytes (goal.at.returns c).Start) = omega (arith, h) in
    c.is_head.ensures
    ∙ ap (λ (k : ℕ). is_head (take k (drop hand_at (bytes (goal.at.returns c).Start)))) n
    ∙ sym (good-head c.args.pid (bytes (goal.at.returns c).Start) (omega arith) (not_zero (goal.at.returns c).Else-state-eq0) (sound (goal.at.returns c).Else-is_err) (omega
    (arith, h, c.if-held-gt-MOST_IN_HAND.false)))
