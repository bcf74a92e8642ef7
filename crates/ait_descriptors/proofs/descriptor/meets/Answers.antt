-- `ait_descriptors::descriptor::meets` meets its contract.
use mathlib.Core.Path.{◌∙◌}
use native.Mathlib.Omega.{arith}
use Rattle.ait_descriptors.specs.declared.Test.TheVariants.{Malformed, Tagged, Labelled}
use Rattle.ait_descriptors.proofs.Laws.Contents.{test-is, malformed-is, tagged_is, labelled-other, labelled-is}
use Rattle.ait_descriptors.proofs.descriptor.meets.Goals as goal

pub returns-then-byte_at-ne2 : goal.returns-then-byte_at-ne2
returns-then-byte_at-ne2 c = labelled-other _ _ (λ e. omega (arith, c.if-byte_at-ne2.true)) ∙ test-is _ (Labelled _) _ c.in-Labelled.is

pub returns-in-Malformed : goal.returns-in-Malformed
returns-in-Malformed c = malformed-is _ _ c.is_well_made.ensures ∙ test-is _ Malformed _ c.in-Malformed.is

pub returns-in-Tagged : goal.returns-in-Tagged
returns-in-Tagged c = tagged_is _ _ _ c.byte_at.ensures.0 ∙ test-is _ (Tagged _) _ c.in-Tagged.is

pub returns-else-byte_at-ne2 : goal.returns-else-byte_at-ne2
returns-else-byte_at-ne2 c = labelled-is _ _ _ (omega arith) c.byte_at-in-Labelled-2.ensures.0 ∙ test-is _ (Labelled _) _ c.in-Labelled.is
