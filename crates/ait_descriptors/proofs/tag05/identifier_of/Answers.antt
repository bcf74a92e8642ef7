-- `ait_descriptors::tag05::identifier_of` meets its contract: each field is what its reader answers.
use Rattle.ait_descriptors.specs.Tag05.{identifier_of}
use Rattle.ait_descriptors.proofs.tag05.identifier_of.Goals as goal

pub returns : goal.returns
unfolding identifier_of
returns c =
    λ i. record {
      organisation = c.thirty_two_at.ensures.0 i;
      number = c.sixteen_at.ensures.0 i;
      priority = c.byte_at.ensures.0 i;
    }
