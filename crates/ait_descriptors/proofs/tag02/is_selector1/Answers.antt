-- `ait_descriptors::tag02::is_selector1` meets its contract.
use native.Mathlib.Omega.{arith}
use Rattle.ait_descriptors.proofs.Laws.Contents.{remote-is, local-is}
use Rattle.ait_descriptors.proofs.tag02.is_selector1.Goals as goal

pub returns-then-byte_at-eq1 : goal.returns-then-byte_at-eq1
returns-then-byte_at-eq1 c = remote-is _ (omega arith)

pub returns : goal.returns
returns c = local-is _ (λ e. c.if-byte_at-eq1.false (omega arith))
