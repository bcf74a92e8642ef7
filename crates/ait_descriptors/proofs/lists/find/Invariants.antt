-- `ait_descriptors::lists::find` meets its contract: the invariant is wire's `Finding`.
use Prim.Native.Nat.{◌-◌}
use lib.ListN.{length}
use Rattle.ait_descriptors.specs.Kinds.{size_of}
use Rattle.ait_descriptors.specs.Contents.{test_of}
use Rattle.wire.proofs.Laws.Loops.{Finding}
use Rattle.ait_descriptors.proofs.lists.find.Given as goal

abbrev pub invariant-loop-n : goal.invariant-loop-n
invariant-loop-n l = Finding (size_of l.kind) (test_of l.test) l.s l.i l.k

abbrev pub decreases-loop-n : goal.decreases-loop-n
decreases-loop-n l = length l.s - l.i
