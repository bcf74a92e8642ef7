-- `nebosvar::packets::fed_out` meets its contract.
use mathlib.Core.Path.{refl}
use Rattle.nebosvar.proofs.packets.fed_out.Goals as goal

pub returns : goal.returns
returns c = rw (c.answer_number.ensures, c.kind_number.ensures) refl
