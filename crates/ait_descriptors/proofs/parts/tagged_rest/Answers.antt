-- `ait_descriptors::parts::tagged_rest` meets its contract.
use mathlib.Core.Path.{◌∙◌}
use native.Mathlib.Omega.{arith}
use Rattle.ait_descriptors.proofs.Laws.Lists.{tagged-other, tagged_is}
use Rattle.ait_descriptors.proofs.parts.tagged_rest.Goals as goal

pub returns-then-byte_at-tag : goal.returns-then-byte_at-tag
returns-then-byte_at-tag c = tagged-other _ _ _ (λ e. omega (arith, c.if-byte_at-tag.true))

pub returns : goal.returns
returns c = c.rest.ensures ∙ tagged_is _ _ _ (omega arith)
