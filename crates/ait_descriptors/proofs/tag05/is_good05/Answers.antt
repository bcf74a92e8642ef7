-- `ait_descriptors::tag05::is_good05` meets its contract.
use Rattle.ait_descriptors.specs.Tag05.{good05}
use Rattle.ait_descriptors.specs.Kinds.{size_of}
use Rattle.ait_descriptors.proofs.tag05.is_good05.Goals as goal

pub returns : goal.returns
unfolding good05 size_of
returns c = c.fills.ensures
