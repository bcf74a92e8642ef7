-- `ait_numbers::item` meets its contract, case by case.
use mathlib.Core.Path.{sym, ◌∙◌}
use Rattle.ait_numbers.proofs.item.Goals as goal

pub returns-in-Err : goal.returns-in-Err
returns-in-Err c =
    rw (sym c.scope_of.ensures, sym c.item_asked.ensures ∙ c.in-Err.is) c.no_item.ensures

pub returns-in-Ok : goal.returns-in-Ok
returns-in-Ok c =
    rw (sym c.scope_of.ensures, sym c.item_asked.ensures ∙ c.in-Ok.is) c.found_out.ensures
