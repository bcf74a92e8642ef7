-- `ait_descriptors::tag01::described_01` meets its contract.
use mathlib.Core.Path.{ap, ◌∙◌}
use Rattle.ait_descriptors.specs.declared.Described.TheVariants as described
use Rattle.ait_descriptors.specs.Tag01.{described01}
use Rattle.ait_descriptors.specs.Kinds.{size_of}
use Rattle.ait_descriptors.proofs.Laws.Lists.{count_of}
use Rattle.ait_descriptors.proofs.tag01.described_01.Goals as goal

pub returns : goal.returns
unfolding described01 size_of
returns c = ap described.Names (c.count_within.ensures ∙ count_of _ _ _ _ c.names_in.ensures)
