-- `transport::packet::parts_of` meets its contract: no payload, one that goes on, one in which a section begins.
use Prim.Native.Nat.{ℕ, ◌+◌}
use mathlib.Core.Path.{◌≡◌, sym, ap, subst, ◌∙◌}
use mathlib.Core.Bool.{true, false}
use mathlib.Core.List.{List}
use lib.ListN.{length}
use Rattle.wire.specs.Fields.{byte_at}
use Rattle.transport.specs.Packet.{has_payload, payload_at}
use Rattle.transport.proofs.Laws.Packets.{Lies, lies-idle, lies-on, lies-start}
use Rattle.transport.proofs.packet.parts_of.Goals as goal
use Rattle.transport.proofs.packet.parts_of.Goals.{After-payload_at-at, Else-not-has_payload, Start}

abbrev packet : Start → List ℕ
packet s = s.args.p.now

paid : (c : Else-not-has_payload) → has_payload (packet ((goal.at.Else-not-has_payload c).Start)) ≡ true
paid c = sym c.has_payload.ensures ∙ c.if-not-has_payload.false

pub returns-then-not-has_payload : goal.returns-then-not-has_payload
returns-then-not-has_payload c =
    let l = lies-idle (packet (goal.at.returns-then-not-has_payload c).Start) (sym c.has_payload.ensures ∙ c.if-not-has_payload.true) in
    (l.has, tt)

pub returns-then-not-is_start : goal.returns-then-not-is_start
returns-then-not-is_start c =
    let n = sym c.is_start.ensures ∙ c.if-not-is_start.true in
    let l = subst (λ (k : ℕ). Lies (packet (goal.at.returns-then-not-is_start c).Start) true false k (length (packet (goal.at.returns-then-not-is_start c).Start))) (sym c.payload_at-at.ensures)
    (lies-on (packet (goal.at.returns-then-not-is_start c).Start) c.requires.0 c.requires.1 (paid (goal.at.returns-then-not-is_start c).Else-not-has_payload) n) in
    (l.has, (l.begins-one, l.order, l.inside, l.before-is, l.after_is))

pub returns : goal.returns
returns c =
    let n = sym c.is_start.ensures ∙ c.if-not-is_start.false in
    let k = c.payload_at-at.ensures in
    let b = c.eight_at.ensures.0 ∙ ap (byte_at (packet (goal.at.returns c).Start)) k in
    let w = lies-start (packet (goal.at.returns c).Start) c.requires.0 c.requires.1 (paid (goal.at.returns c).Else-not-has_payload) n in
    let l = subst (λ (m : ℕ). Lies (packet (goal.at.returns c).Start) true true (m + 1) (m + 1 + c.eight_at.result)) (sym k)
    (subst (λ (m : ℕ). Lies (packet (goal.at.returns c).Start) true true (payload_at (packet (goal.at.returns c).Start) + 1) (payload_at (packet (goal.at.returns c).Start) + 1 + m)) (sym b) w) in
    (l.has, (l.begins-one, l.order, l.inside, l.before-is, l.after_is))
