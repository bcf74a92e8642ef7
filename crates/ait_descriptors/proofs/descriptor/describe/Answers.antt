-- `ait_descriptors::descriptor::describe` meets its contract.
use mathlib.Core.Path.{sym, ap, ◌∙◌}
use Rattle.ait_descriptors.specs.declared.Described.TheVariants as described
use Rattle.ait_descriptors.specs.Contents.{described_as}
use Rattle.ait_descriptors.proofs.Laws.Tags.{described-at, described_unknown}
use Rattle.ait_descriptors.proofs.descriptor.describe.Goals as goal

pub returns-in-0 : goal.returns-in-0
unfolding described_as
returns-in-0 c = c.described_00.ensures ∙ described-at _ _ 0x00 (sym c.byte_at-tag.ensures.0 ∙ c.in-0.is)

pub returns-in-1 : goal.returns-in-1
unfolding described_as
returns-in-1 c = c.described_01.ensures ∙ described-at _ _ 0x01 (sym c.byte_at-tag.ensures.0 ∙ c.in-1.is)

pub returns-in-2 : goal.returns-in-2
unfolding described_as
returns-in-2 c = c.described_02.ensures ∙ described-at _ _ 0x02 (sym c.byte_at-tag.ensures.0 ∙ c.in-2.is)

pub returns-in-5 : goal.returns-in-5
unfolding described_as
returns-in-5 c = c.described_05.ensures ∙ described-at _ _ 0x05 (sym c.byte_at-tag.ensures.0 ∙ c.in-5.is)

pub returns-in-21 : goal.returns-in-21
unfolding described_as
returns-in-21 c = c.described_15.ensures ∙ described-at _ _ 0x15 (sym c.byte_at-tag.ensures.0 ∙ c.in-21.is)

pub returns-in_default : goal.returns-in_default
returns-in_default c =
    let t = c.byte_at-tag.ensures.0 in
    let n = c.in_default.in_default-own.rest in
    ap described.Raw c.raw_of.ensures
    ∙ described_unknown _ _ _ (λ e. n.0.0.0.0.1 (t ∙ e), λ e. n.0.0.0.1 (t ∙ e), λ e. n.0.0.1 (t ∙ e), λ e. n.0.1 (t ∙ e), λ e. n.1 (t ∙ e))
