-- `ait_descriptors::tag02::base_of` meets its contract: each field is what its reader answers.
use Prim.Native.Nat.{◌+◌}
use Rattle.ait_descriptors.specs.Tag02.{base_of}
use Rattle.ait_descriptors.proofs.Laws.Records.{byte_past}
use Rattle.ait_descriptors.proofs.tag02.base_of.Goals as goal

pub returns : goal.returns
unfolding base_of
returns c =
    let n = c.eight_at-n.ensures.0 in
    λ i. record {
      text = record { start = c.args.a + 1; size = n i };
      extensions = byte_past c.args.x.now 1 c.eight_at.ensures.0 n i;
    }
