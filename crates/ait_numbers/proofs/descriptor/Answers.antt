-- `ait_numbers::descriptor` meets its contract, case by case.
use mathlib.Core.Path.{sym, ◌∙◌}
use Rattle.ait_numbers.proofs.descriptor.Goals as goal

pub returns-in-Err : goal.returns-in-Err
returns-in-Err c =
    rw (sym c.scope_of.ensures, sym c.descriptor_at.ensures.0 ∙ c.in-Err.is) c.no_descriptor.ensures

pub returns-in-Ok : goal.returns-in-Ok
returns-in-Ok c =
    rw (sym c.scope_of.ensures, sym c.descriptor_at.ensures.0 ∙ c.in-Ok.is) c.described_out.ensures
