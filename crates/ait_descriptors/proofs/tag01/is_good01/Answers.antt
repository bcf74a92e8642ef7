-- `ait_descriptors::tag01::is_good01` meets its contract.
use Rattle.ait_descriptors.specs.Tag01.{good01}
use Rattle.ait_descriptors.specs.Kinds.{size_of}
use Rattle.ait_descriptors.proofs.tag01.is_good01.Goals as goal

pub returns : goal.returns
unfolding good01 size_of
returns c = c.fills.ensures
