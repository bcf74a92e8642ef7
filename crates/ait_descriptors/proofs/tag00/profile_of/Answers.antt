-- `ait_descriptors::tag00::profile_of` meets its contract: each field is what its reader answers.
use Rattle.ait_descriptors.specs.Tag00.{profile_of}
use Rattle.ait_descriptors.proofs.tag00.profile_of.Goals as goal

pub returns : goal.returns
unfolding profile_of
returns c =
    λ i. record {
      number = c.sixteen_at.ensures.0 i;
      major = c.byte_at.ensures.0 i;
      minor = c.byte_at-2.ensures.0 i;
      micro = c.byte_at-3.ensures.0 i;
    }
