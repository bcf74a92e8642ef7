-- `ait_descriptors::tag02::bases_in` meets its contract.
use mathlib.Core.Path.{◌∙◌}
use native.Mathlib.Omega.{arith}
use Rattle.ait_descriptors.proofs.Laws.Lists.{bases-other, bases-is}
use Rattle.ait_descriptors.proofs.tag02.bases_in.Goals as goal

pub returns-then-sixteen_at-ne3 : goal.returns-then-sixteen_at-ne3
returns-then-sixteen_at-ne3 c = bases-other _ (λ e. omega (arith, c.if-sixteen_at-ne3.true))

pub returns : goal.returns
returns c = c.tagged_rest.ensures ∙ bases-is _ (omega arith)
