-- `ait_numbers::shapes::no_descriptor` meets its contract.
use Rattle.ait_numbers.proofs.shapes.no_descriptor.Goals as goal

pub returns : goal.returns
returns c = rw c.place_told.ensures
