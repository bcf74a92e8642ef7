-- `transport::judge::judge` meets its contract: refused; by the last packet; by none; or by the one in the state.
use mathlib.Core.Path.{◌≡◌, sym, ap, subst, ◌∙◌}
use native.Mathlib.Omega.{arith}
use lib.Seq.{length-take-le}
use borrow.Author.Rules.{rules}
use Rattle.std.proofs.Common.{Ok, Err, IfSome, option_copied}
use Rattle.wire.proofs.Laws.Outcomes.{refused_by_lem, not_refused}
use Rattle.transport.specs.Packet.{packet_length, packet_refusal}
use Rattle.transport.specs.State.{last_in}
use Rattle.transport.specs.Pieces.{last_seen}
use Rattle.transport.proofs.Laws.Judged.{judged-refused, judged-by, judged-first, judged-past}
use Rattle.transport.proofs.Laws.Rule.{full}
use Rattle.transport.proofs.judge.judge.Goals as goal
use Rattle.transport.proofs.judge.judge.Goals.{In_ok-judge_packet, In_default}

clear : (c : In_ok-judge_packet) → packet_refusal c.args.pid c.args.p.now ≡ 0
clear c = not_refused _ tt tt (sym c.in_ok-judge_packet.was ∙ c.judge_packet.ensures)

-- no packet of the stretch is the last
still : (c : In_default) → last_seen (option_copied c.args.last) c.args.state.now ≡ last_in c.args.state.now
still c = ap (λ o. last_seen (option_copied o) c.args.state.now) c.in_default.is

pub returns-in_err-judge_packet : goal.returns-in_err-judge_packet
returns-in_err-judge_packet c =
    let r : c.from_residual.result ≡ Err c.in_err-judge_packet.field-0.0 = search rules in
    let n = refused_by_lem _ _ tt (sym c.in_err-judge_packet.was ∙ c.judge_packet.ensures) in
    r ∙ judged-refused _ _ _ _ n.0 (λ z. n.1 (sym n.0 ∙ z))

pub judge_after-requires : goal.judge_after-requires
judge_after-requires c = full _ _ (subst (λ o. IfSome (option_copied o) (λ l. packet_refusal c.args.pid l ≡ 0)) c.in-Some.is c.requires.1)

pub returns-in-Some : goal.returns-in-Some
returns-in-Some c =
    ap Ok c.judge_after.ensures
    ∙ judged-by c.args.pid c.args.state.now c.args.p.now (clear (goal.at.returns-in-Some c).In_ok-judge_packet) (option_copied c.args.last) _
    (ap (λ o. last_seen (option_copied o) c.args.state.now) c.in-Some.is)

pub returns-then-state-eq0 : goal.returns-then-state-eq0
returns-then-state-eq0 c =
    let k = goal.at.returns-then-state-eq0 c in
    judged-first c.args.pid c.args.state.now c.args.p.now (clear k.In_ok-judge_packet) (option_copied c.args.last) (still k.In_default) c.if-state-eq0.true

pub slice_bounds-judge_after-end : goal.slice_bounds-judge_after-end
slice_bounds-judge_after-end c = sym (length-take-le packet_length c.args.state.now (omega (arith, c.requires.0)))

pub judge_after-requires-2 : goal.judge_after-requires-2
judge_after-requires-2 c = length-take-le packet_length c.args.state.now (omega (arith, c.requires.0))

pub returns : goal.returns
returns c =
    let k = goal.at.returns c in
    ap Ok c.judge_after-2.ensures
    ∙ judged-past c.args.pid c.args.state.now c.args.p.now (clear k.In_ok-judge_packet) (option_copied c.args.last) (still k.In_default) c.if-state-eq0.false
