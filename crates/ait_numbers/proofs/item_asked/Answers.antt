-- `ait_numbers::item_asked` meets its contract: items of the sort that was asked for, or no place.
use mathlib.Core.Path.{sym, ◌∙◌}
use Rattle.ait_numbers.proofs.item_asked.Goals as goal

pub returns-in-Some : goal.returns-in-Some
returns-in-Some c =
    rw (sym c.asked_by.ensures ∙ c.in-Some.is) c.item_at.ensures.0

pub returns-in-None : goal.returns-in-None
returns-in-None c = rw (sym c.asked_by.ensures ∙ c.in-None.is) c.no_place.ensures
