-- `ait_descriptors::lists::walk_loop` meets its contract: the invariant is `Walking`.
use Prim.Native.Nat.{◌-◌}
use lib.ListN.{length}
use Rattle.ait_descriptors.proofs.Laws.Walks.{Walking}
use Rattle.ait_descriptors.proofs.lists.walk_loop.Given as goal

abbrev pub invariant-loop-n : goal.invariant-loop-n
invariant-loop-n l = Walking l.l l.i l.m

abbrev pub decreases-loop-n : goal.decreases-loop-n
decreases-loop-n l = length l.l - l.i
