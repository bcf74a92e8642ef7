-- `ait_descriptors::tag00::described_00` meets its contract.
use mathlib.Core.Path.{ap, ◌∙◌}
use Rattle.wire.specs.Fields.{bits}
use Rattle.wire.proofs.Laws.Fields.{masked}
use Rattle.ait_descriptors.specs.declared.Described.TheVariants as described
use Rattle.ait_descriptors.specs.Tag00.{described00}
use Rattle.ait_descriptors.specs.Kinds.{size_of}
use Rattle.ait_descriptors.proofs.Laws.Records.{byte_past, top-is}
use Rattle.ait_descriptors.proofs.Laws.Lists.{count_of}
use Rattle.ait_descriptors.proofs.tag00.described_00.Goals as goal

pub returns : goal.returns
unfolding described00 size_of
returns c =
    let d = c.args.d.now in
    let n = c.eight_at-n.ensures.0 in
    let flags = byte_past d 3 c.byte_at-flags.ensures.0 n in
    let profiles = c.count_within.ensures ∙ count_of _ _ _ d c.profiles_in.ensures in
    let labels = c.count_within-2.ensures ∙ count_of _ _ _ d c.labels_in.ensures in
    λ i.
    described.Application
    (record {
      profiles = profiles i;
      bound = top-is (flags, c.byte_at-flags.ensures.1) i;
      visibility = (masked 5 2 _ ∙ ap (bits 5 2) flags) i;
      priority = byte_past d 4 c.byte_at.ensures.0 n i;
      labels = labels i;
    })
