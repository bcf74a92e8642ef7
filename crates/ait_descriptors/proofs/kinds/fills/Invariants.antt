-- `ait_descriptors::kinds::fills` meets its contract: the invariant is wire's `Filling`.
use Prim.Native.Nat.{◌-◌}
use lib.ListN.{length}
use Rattle.ait_descriptors.specs.Kinds.{size_of}
use Rattle.wire.proofs.Laws.Loops.{Filling}
use Rattle.ait_descriptors.proofs.kinds.fills.Given as goal

abbrev pub invariant-loop-n : goal.invariant-loop-n
invariant-loop-n l = Filling (size_of l.kind) l.s l.i

abbrev pub decreases-loop-n : goal.decreases-loop-n
decreases-loop-n l = length l.s - l.i
