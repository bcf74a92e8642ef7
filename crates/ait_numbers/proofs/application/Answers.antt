-- `ait_numbers::application` meets its contract, case by case.
use mathlib.Core.Path.{sym, ◌∙◌}
use Rattle.ait_numbers.proofs.application.Goals as goal

pub returns-in-Err : goal.returns-in-Err
returns-in-Err c =
    let d = c.default.ensures in
    rw (sym c.application_at.ensures.0 ∙ c.in-Err.is, c.place_told.ensures, d.0, d.1.1.0, d.1.1.1.0, d.1.1.1.1.0, d.1.1.1.1.1.0, d.1.1.1.1.1.1.0)

pub returns-in-Ok : goal.returns-in-Ok
returns-in-Ok c =
    rw (sym c.application_at.ensures.0 ∙ c.in-Ok.is, c.class_number.ensures, c.control_number.ensures)
