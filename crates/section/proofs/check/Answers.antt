-- `section::check` meets its contract: the register that is handed on is the section's own.
use mathlib.Core.Path.{ap, ◌∙◌}
use Rattle.section.specs.Refusals.{refusal_by}
use Rattle.section.specs.Answer.{checked_by}
use Rattle.section.proofs.check.Goals as goal

pub returns : goal.returns
returns c =
    let a = c.args in
    let g = c.crc.ensures in
    let e = c.check_by.ensures in
    (e.0 ∙ ap (λ x. checked_by x a.rules a.s.now) g, e.1 ∙ ap (λ x. refusal_by x a.rules a.s.now) g)
