-- `ait_read::labels::resolve_in` meets its contract.
use mathlib.Core.Path.{sym, ◌∙◌}
use Rattle.ait_read.proofs.Laws.Labels.{own_hit, common_hit, no_hit}
use Rattle.ait_read.proofs.labels.resolve_in.Goals as goal

pub returns-in-Some : goal.returns-in-Some
returns-in-Some c = own_hit _ _ _ _ (sym c.in-Some.ensures)

pub returns-in_err-j : goal.returns-in_err-j
returns-in_err-j c = c.from_residual.ensures ∙ no_hit _ _ _ (sym c.in_default.ensures) (sym c.find_within-2.ensures ∙ c.in_err-j.was)

pub returns : goal.returns
returns c = common_hit _ _ _ (sym c.in_default.ensures) _ (sym c.find_within-2.ensures ∙ c.in_ok-j.was)
