-- `ait_read::acceptance::locate` meets its contract.
use mathlib.Core.Path.{◌≡◌, sym, ◌∙◌}
use Rattle.std.proofs.Common.{rules, Err}
use Rattle.ait_read.proofs.Laws.Acceptance.{located-refused, located-good}
use Rattle.ait_read.proofs.acceptance.locate.Goals as goal

pub returns-in_err-judge : goal.returns-in_err-judge
returns-in_err-judge c =
    let r : c.from_residual.result ≡ Err c.in_err-judge.field-0.0 = search rules in
    r ∙ located-refused _ _ _ (sym c.judge.ensures ∙ c.in_err-judge.was)

pub returns : goal.returns
returns c = c.ok_or.ensures.value ∙ located-good _ _ _ (sym c.judge.ensures ∙ c.in_ok-judge.was)
