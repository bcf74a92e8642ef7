-- `ait_descriptors::tag01::name_of` meets its contract: each field is what its reader answers.
use Rattle.ait_descriptors.specs.Tag01.{name_of}
use Rattle.ait_descriptors.proofs.tag01.name_of.Goals as goal

pub returns : goal.returns
unfolding name_of
returns c =
    λ i. record {
      first = c.byte_at.ensures.0 i;
      second = c.byte_at-2.ensures.0 i;
      third = c.byte_at-3.ensures.0 i;
      text = c.rest_of-text.ensures i;
    }
