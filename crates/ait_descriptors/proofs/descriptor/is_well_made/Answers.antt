-- `ait_descriptors::descriptor::is_well_made` meets its contract.
use mathlib.Core.Path.{ap₂, ◌∙◌}
use Rattle.wire.proofs.Laws.Loops.{tail}
use Rattle.ait_descriptors.specs.Contents.{contents_good}
use Rattle.ait_descriptors.proofs.descriptor.is_well_made.Goals as goal

pub returns : goal.returns
returns c =
    let d = c.args.d.now in
    let at = c.contents_start-at in
    c.is_good.ensures ∙ ap₂ contents_good c.byte_at.ensures.0 (tail d at.result ∙ at.ensures.1)
