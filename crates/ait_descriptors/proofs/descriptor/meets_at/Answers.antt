-- `ait_descriptors::descriptor::meets_at` meets its contract.
use mathlib.Core.Path.{ap, ◌∙◌}
use Rattle.wire.proofs.Laws.Finders.{part}
use Rattle.ait_descriptors.specs.Contents.{test_of}
use Rattle.ait_descriptors.proofs.descriptor.meets_at.Goals as goal

pub returns : goal.returns
returns c = c.meets.ensures ∙ ap (test_of _) (part c.args.s.now c.args.i c.args.n)
