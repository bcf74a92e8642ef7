-- `ait_descriptors::tag05::described_05` meets its contract.
use mathlib.Core.Path.{ap, ◌∙◌}
use Rattle.ait_descriptors.specs.declared.Described.TheVariants as described
use Rattle.ait_descriptors.specs.Tag05.{described05}
use Rattle.ait_descriptors.specs.Kinds.{size_of}
use Rattle.ait_descriptors.proofs.Laws.Lists.{count_of}
use Rattle.ait_descriptors.proofs.tag05.described_05.Goals as goal

pub returns : goal.returns
unfolding described05 size_of
returns c = ap described.Identifiers (c.count_within.ensures ∙ count_of _ _ _ _ c.identifiers_in.ensures)
