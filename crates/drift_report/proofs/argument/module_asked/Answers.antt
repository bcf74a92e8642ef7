-- `drift_report::argument::module_asked` meets its contract: it asks for what the digits say.
use mathlib.Core.Path.{sym, ◌∙◌}
use native.Mathlib.Omega.{arith}
use Rattle.text.proofs.Laws.Said.{said-most}
use Rattle.drift_report.proofs.Laws.Asked.{asked-said}
use Rattle.drift_report.proofs.argument.module_asked.Goals as goal

pub overflow_cast-result : goal.overflow_cast-result
overflow_cast-result c =
    let most = said-most _ _ _ c.in_ok-n.ensures in
    omega (arith, most)

pub returns-in_err-n : goal.returns-in_err-n
returns-in_err-n c = c.from_residual.ensures ∙ c.in_err-n.ensures ∙ sym (asked-said _)

pub returns : goal.returns
returns c = c.in_ok-n.ensures ∙ sym (asked-said _)
