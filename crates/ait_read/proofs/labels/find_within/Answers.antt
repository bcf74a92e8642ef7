-- `ait_read::labels::find_within` meets its contract.
use mathlib.Core.Path.{ap, ◌∙◌}
use native.Mathlib.Omega.{arith}
use Rattle.wire.proofs.Laws.Finders.{part}
use Rattle.ait_read.specs.Labels.{first_to}
use Rattle.ait_read.proofs.Laws.Labels.{find_none, find_at}
use Rattle.ait_read.proofs.labels.find_within.Goals as goal

pub returns-in_err-start : goal.returns-in_err-start
returns-in_err-start c = c.from_residual.ensures ∙ find_none _ _ _ c.in_err-start.was

pub overflow_add-e : goal.overflow_add-e
overflow_add-e c = omega (arith, c.requires _ _ c.in_ok-start.was)

pub slice_bounds-find-end : goal.slice_bounds-find-end
slice_bounds-find-end c = omega (arith, c.requires _ _ c.in_ok-start.was)

pub returns : goal.returns
returns c =
    let s = c.args.s.now in
    let at = c.in_ok-start.field-0 in
    c.find.ensures ∙ ap (first_to c.args.test) (part s at.start at.size) ∙ find_at _ _ s _ _ c.in_ok-start.was
