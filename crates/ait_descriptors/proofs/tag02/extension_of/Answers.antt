-- `ait_descriptors::tag02::extension_of` meets its contract.
use Rattle.ait_descriptors.specs.Tag02.{extension_read}
use Rattle.ait_descriptors.proofs.tag02.extension_of.Goals as goal

pub returns : goal.returns
unfolding extension_read
returns c = c.rest_of.ensures
