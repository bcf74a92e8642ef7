-- `carousel_messages::limits::sum` meets its contract. The invariant: the sum so far and the sizes left are the sizes together.
use native.Mathlib.Omega.{arith}
use Rattle.carousel_messages.proofs.Laws.Limits.{total-next, total-done}
use Rattle.carousel_messages.proofs.limits.sum.Goals as goal

pub loop-m-init : goal.loop-m-init
loop-m-init c = (omega arith, omega arith)

pub loop-m-preserved : goal.loop-m-preserved
loop-m-preserved c = let e = total-next c.args.modules.now c.loop-m.m-index c.loop-m-test.true in (omega arith, omega arith)

pub returns : goal.returns
returns c = let e = total-done c.args.modules.now c.loop-m.m-index (omega arith) in omega arith
