-- `ait_descriptors::tag01::names_in` meets its contract.
use Rattle.ait_descriptors.specs.Tag01.{names_in}
use Rattle.ait_descriptors.proofs.tag01.names_in.Goals as goal

pub returns : goal.returns
unfolding names_in
returns c = c.tagged_rest.ensures
