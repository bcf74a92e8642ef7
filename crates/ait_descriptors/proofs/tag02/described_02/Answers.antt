-- `ait_descriptors::tag02::described_02` meets its contract.
use mathlib.Core.Path.{sym, ◌∙◌}
use Rattle.ait_descriptors.specs.declared.Described.TheVariants as described
use Rattle.ait_descriptors.specs.Kinds.{size_of}
use Rattle.ait_descriptors.proofs.Laws.Records.{is-1, is-3, is-other}
use Rattle.ait_descriptors.proofs.Laws.Lists.{count_of}
use Rattle.ait_descriptors.proofs.tag02.described_02.Goals as goal

pub returns-in-1 : goal.returns-in-1
returns-in-1 c = c.described_1.ensures ∙ is-1 _ _ (sym c.sixteen_at-protocol.ensures.0 ∙ c.in-1.is)

pub returns-in-3 : goal.returns-in-3
unfolding size_of
returns-in-3 c =
    let bases = c.count_within.ensures ∙ count_of _ _ _ _ c.bases_in.ensures in
    (λ i. described.Bases (record { label = c.byte_at.ensures.0 i; bases = bases i }))
    ∙ is-3 _ _ (sym c.sixteen_at-protocol.ensures.0 ∙ c.in-3.is)

pub returns-in_default : goal.returns-in_default
returns-in_default c =
    let t = c.sixteen_at-protocol.ensures.0 in
    let n = c.in_default.in_default-own.rest in
    (λ i. described.Selector (record { protocol = t i; label = c.byte_at-in_default.ensures.0 i; selector = c.rest_of.ensures i }))
    ∙ is-other _ _ (λ e. n.0.1 (t ∙ e)) (λ e. n.1 (t ∙ e))
