-- `transport::gather` meets its contract: refused for what is lent, or all packets passed.
use mathlib.Core.Path.{◌≡◌, sym, ap, ◌∙◌}
use borrow.Author.Rules.{rules}
use Rattle.std.proofs.Common.{Ok, Err}
use Rattle.wire.proofs.Laws.Outcomes.{refused_by_lem, not_refused}
use Rattle.transport.proofs.Laws.Calls.{gather-refused, gather-passed}
use Rattle.transport.proofs.gather.Goals as goal

pub returns-in_err-judge_lent : goal.returns-in_err-judge_lent
returns-in_err-judge_lent c =
    let r : c.from_residual.result ≡ Err c.in_err-judge_lent.field-0.0 = search rules in
    let n = refused_by_lem _ _ tt (sym c.in_err-judge_lent.was ∙ c.judge_lent.ensures) in
    let w = gather-refused c.args.pid c.args.state.now c.args.out.now c.args.packets.now _ n.0 (λ z. n.1 (sym n.0 ∙ z)) in
    (r ∙ w.0, w.1, w.2)

pub returns : goal.returns
returns c =
    let z = not_refused _ tt tt (sym c.in_ok-judge_lent.was ∙ c.judge_lent.ensures) in
    (ap Ok c.pass.ensures.0 ∙ gather-passed _ _ _ _ z, c.pass.ensures.1, c.pass.ensures.2)
