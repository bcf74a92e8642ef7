-- `ait_descriptors::tag00::is_good00` meets its contract.
use native.Mathlib.Omega.{arith}
use Rattle.ait_descriptors.proofs.Laws.Contents.{good00-odd, good00-is}
use Rattle.ait_descriptors.proofs.tag00.is_good00.Goals as goal

pub returns-then-p-ne0 : goal.returns-then-p-ne0
returns-then-p-ne0 c = good00-odd _ (λ e. omega (arith, c.if-p-ne0.true))

pub returns : goal.returns
returns c = rw c.eight_at-p.ensures.0 (good00-is _ (omega arith))
