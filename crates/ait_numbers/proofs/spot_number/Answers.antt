-- `ait_numbers::spot_number` meets its contract.
use mathlib.Core.Path.{◌≡◌, refl, ◌∙◌}
use Rattle.std.proofs.Common.{Some, None, unwrap_or}
use Rattle.section.specs.Refusals.{Spot}
use Rattle.ait_numbers.specs.Shapes.{nowhere, spot_number}
use Rattle.ait_numbers.proofs.spot_number.Goals as goal

told : (p : Spot) → unwrap_or p nowhere ≡ spot_number p
unfolding spot_number
told (Some p) = refl
told None = refl

pub returns : goal.returns
returns c = c.unwrap_or.ensures ∙ told c.args.place
