-- `ait_descriptors::descriptor::raw_of` meets its contract.
use Rattle.ait_descriptors.proofs.descriptor.raw_of.Goals as goal

pub returns : goal.returns
returns c = λ i. record { tag = c.byte_at.ensures.0 i; contents = c.rest_of.ensures i }
