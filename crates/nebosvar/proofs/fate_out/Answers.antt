-- `nebosvar::fate_out` meets its contract, field by field.
use Rattle.nebosvar.proofs.fate_out.Goals as goal

pub returns : goal.returns
returns c =
    rw (c.spot_number.ensures, c.fate_place.ensures, c.fate_number.ensures, c.kind_number.ensures)
