-- `ait_descriptors::tag05::identifiers_in` meets its contract.
use Rattle.ait_descriptors.specs.Tag05.{identifiers_in}
use Rattle.ait_descriptors.proofs.tag05.identifiers_in.Goals as goal

pub returns : goal.returns
unfolding identifiers_in
returns c = c.tagged_rest.ensures
