-- `ait_read::records::own_count` meets its contract.
use mathlib.Core.Path.{ap, ◌∙◌}
use Rattle.wire.specs.Places.{Place}
use Rattle.ait_descriptors.specs.declared.Kind.TheVariants.{Descriptor}
use Rattle.ait_descriptors.specs.Kinds.{count_at}
use Rattle.ait_read.proofs.records.own_count.Goals as goal

pub returns : goal.returns
returns c = c.count_within.ensures ∙ ap (λ (q : Place). count_at Descriptor q c.args.x.now) c.rest.ensures
