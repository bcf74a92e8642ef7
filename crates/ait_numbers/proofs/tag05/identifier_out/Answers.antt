-- `ait_numbers::tag05::identifier_out` meets its contract: the number beside its class.
use Rattle.ait_numbers.proofs.tag05.identifier_out.Goals as goal

pub returns : goal.returns
returns c = rw (c.class_number.ensures, c.class_of.ensures)
