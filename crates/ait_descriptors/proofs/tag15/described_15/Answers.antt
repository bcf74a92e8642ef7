-- `ait_descriptors::tag15::described_15` meets its contract.
use mathlib.Core.Path.{ap}
use Rattle.ait_descriptors.specs.declared.Described.TheVariants as described
use Rattle.ait_descriptors.specs.Tag15.{described15}
use Rattle.ait_descriptors.proofs.tag15.described_15.Goals as goal

pub returns : goal.returns
unfolding described15
returns c = ap described.Path c.rest_of.ensures
