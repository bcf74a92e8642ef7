-- `ait_numbers::shapes::no_item` meets its contract.
use Rattle.ait_numbers.proofs.shapes.no_item.Goals as goal

pub returns : goal.returns
returns c = rw c.place_told.ensures
