-- `ait_numbers::extension` meets its contract, case by case.
use mathlib.Core.Path.{refl, sym, ◌∙◌}
use Rattle.ait_numbers.proofs.extension.Goals as goal

pub returns-in-Err : goal.returns-in-Err
returns-in-Err c =
    let d = c.default.ensures in
    rw (sym c.scope_of.ensures, sym c.extension_at.ensures.0 ∙ c.in-Err.is, c.place_told.ensures, d.0, d.1.0)

pub returns-in-Ok : goal.returns-in-Ok
returns-in-Ok c = rw (sym c.scope_of.ensures, sym c.extension_at.ensures.0 ∙ c.in-Ok.is) refl
