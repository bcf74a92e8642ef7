-- `transport::feed` meets its contract: refused for what is lent, or for its length, or as a stretch of one packet.
use mathlib.Core.Path.{refl, sym, ap, ◌∙◌}
use native.Mathlib.Omega.{arith}
use Rattle.wire.proofs.Laws.Outcomes.{refused_by_lem, not_refused}
use Rattle.transport.specs.declared.Gathered.{Gathered}
use Rattle.transport.specs.Feed.{Outcome}
use Rattle.transport.specs.Pieces.{counted_as}
use Rattle.transport.proofs.Laws.Packets.{refused-40}
use Rattle.transport.proofs.Laws.Answers.{told-refused}
use Rattle.transport.proofs.Laws.Calls.{feed-refused, feed-fed, one_told}
use Rattle.transport.proofs.feed.Goals as goal

pub pass-g-requires : goal.pass-g-requires
pass-g-requires c = not_refused _ tt tt c.in_default.ensures

pub returns-in-Err : goal.returns-in-Err
returns-in-Err c =
    let n = refused_by_lem _ _ tt c.in-Err.ensures in
    let w = feed-refused c.args.pid c.args.state.now c.args.p.now c.args.out.now _ n.0 (λ z. n.1 (sym n.0 ∙ z)) in
    w

pub returns-then-p-ne-PACKET_LENGTH : goal.returns-then-p-ne-PACKET_LENGTH
returns-then-p-ne-PACKET_LENGTH c =
    let z = not_refused _ tt tt c.in_default.ensures in
    let w = told-refused c.args.pid c.args.state.now c.args.p.now c.args.out.now 40 (sym (refused-40 c.args.pid c.args.p.now c.if-p-ne-PACKET_LENGTH.true)) (λ z. omega (arith, z)) in
    feed-fed c.args.pid c.args.state.now c.args.p.now c.args.out.now 0 (sym z) refl _ _ _ w.0 w.1 w.2

pub returns : goal.returns
returns c =
    let z = not_refused _ tt tt c.in_default.ensures in
    let w = one_told c.args.pid c.args.state.now c.args.p.now c.args.out.now z c.if-p-ne-PACKET_LENGTH.false in
    feed-fed c.args.pid c.args.state.now c.args.p.now c.args.out.now 0 (sym z) refl _ _ _
    (ap (λ (a : Outcome). record { answer = a; size = c.pass-g.result.size }) c.counted_as.ensures
    ∙ ap (λ (r : Gathered). record { answer = counted_as r.counts; size = r.size }) c.pass-g.ensures.0
    ∙ w.0) (c.pass-g.ensures.1 ∙ w.1) (c.pass-g.ensures.2 ∙ w.2)
