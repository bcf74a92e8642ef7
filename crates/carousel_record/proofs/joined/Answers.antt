-- `carousel_record::joined` meets its contract.
use mathlib.Core.Path.{refl}
use Rattle.carousel_record.proofs.joined.Goals as goal

pub returns : goal.returns
returns c = refl
