-- `ait_numbers::label` meets its contract, case by case.
use mathlib.Core.Path.{refl, sym, ◌∙◌}
use Rattle.ait_numbers.proofs.label.Goals as goal

pub returns-in-Err : goal.returns-in-Err
returns-in-Err c =
    let d = c.default.ensures in
    rw (sym c.resolve.ensures.0 ∙ c.in-Err.is, c.place_told.ensures, d.0, d.1.0, d.1.1.1.0)

pub returns-in-Ok-Some-Own : goal.returns-in-Ok-Some-Own
returns-in-Ok-Some-Own c = rw (sym c.resolve.ensures.0 ∙ c.in-Ok-Some-Own.is, c.in-Ok-Some-Own.field-0-is, c.in-Ok-Some-Own.field-0-0-is) refl

pub returns-in-Ok-Some-Common : goal.returns-in-Ok-Some-Common
returns-in-Ok-Some-Common c = rw (sym c.resolve.ensures.0 ∙ c.in-Ok-Some-Common.is, c.in-Ok-Some-Common.field-0-is, c.in-Ok-Some-Common.field-0-0-is) refl

pub returns-in-Ok-None : goal.returns-in-Ok-None
returns-in-Ok-None c = rw (sym c.resolve.ensures.0 ∙ c.in-Ok-None.is, c.in-Ok-None.field-0-is) refl
