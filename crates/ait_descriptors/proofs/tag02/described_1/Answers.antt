-- `ait_descriptors::tag02::described_1` meets its contract.
use mathlib.Core.Path.{sym, ◌∙◌}
use Rattle.ait_descriptors.specs.declared.Described.TheVariants as described
use Rattle.ait_descriptors.proofs.Laws.Records.{top-is, is-remote, is_local}
use Rattle.ait_descriptors.proofs.tag02.described_1.Goals as goal

pub returns-then-byte_at-eq1 : goal.returns-then-byte_at-eq1
returns-then-byte_at-eq1 c =
    (λ i.
    described.Remote
    (record {
      label = c.byte_at-label.ensures.0 i;
      network = c.sixteen_at.ensures.0 i;
      transport = c.sixteen_at-then-byte_at-eq1.ensures.0 i;
      service = c.sixteen_at-then-byte_at-eq1-2.ensures.0 i;
      component = c.byte_at-then-byte_at-eq1.ensures.0 i;
    }))
    ∙ is-remote _ (sym (top-is c.byte_at.ensures) ∙ c.if-byte_at-eq1.true)

pub returns : goal.returns
returns c = (λ i. described.Local (record { label = c.byte_at-label.ensures.0 i; component = c.byte_at-2.ensures.0 i }))
    ∙ is_local _ (λ e. c.if-byte_at-eq1.false (top-is c.byte_at.ensures ∙ e))
