-- `ait_descriptors::tag00::labels_in` meets its contract.
use Prim.Native.Nat.{ℕ, ◌+◌}
use mathlib.Core.Path.{ap, ◌∙◌}
use Rattle.ait_descriptors.specs.Descriptor.{tagged_rest}
use Rattle.ait_descriptors.specs.Tag00.{labels_in}
use Rattle.ait_descriptors.proofs.tag00.labels_in.Goals as goal

pub returns : goal.returns
unfolding labels_in
returns c = c.tagged_rest.ensures ∙ ap (λ (n : ℕ). tagged_rest 0x00 (5 + n) c.args.d.now) c.eight_at.ensures.0
