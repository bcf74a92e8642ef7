-- `carousel_messages::body::block_of` meets its contract: each field is what its reader answers.
use Prim.Native.Nat.{ℕ, ◌+◌, ◌-◌}
use mathlib.Core.Path.{ap, ◌∙◌}
use mathlib.Core.List.{List}
use lib.ListN.{length}
use Rattle.carousel_messages.specs.Contents.{block_module_of, block_version_of, block_number_of}
use Rattle.carousel_messages.specs.Judged.{block_of}
use Rattle.carousel_messages.proofs.body.block_of.Goals as goal

pub returns : goal.returns
unfolding block_of
returns c =
    let payload = c.payload-p.ensures in
    λ i. record {
      download = c.thirty_two_at.ensures.0 i;
      number = (c.sixteen_at.ensures.0 ∙ ap block_module_of payload) i;
      version = (c.byte_at.ensures.0 ∙ ap block_version_of payload) i;
      block = (c.sixteen_at-2.ensures.0 ∙ ap block_number_of payload) i;
      part = record { start = 20 + c.eight_at.ensures.0 i + 6; size = (c.saturating_sub.ensures ∙ ap (λ (p : List ℕ). length p - 6) payload) i };
    }
