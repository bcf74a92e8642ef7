-- `ait_numbers::tag02::remote_out` meets its contract, field by field.
use mathlib.Core.Path.{refl}
use Rattle.ait_numbers.proofs.tag02.remote_out.Goals as goal

pub returns : goal.returns
returns c = refl
