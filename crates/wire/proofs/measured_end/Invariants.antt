-- `wire::measured_end` meets its contract. The invariant: what is left to count from i on ends where all ends.
use Prim.Native.Nat.{◌-◌}
use Rattle.wire.specs.Items.{measured}
use Rattle.wire.proofs.Laws.Loops.{Ending}
use Rattle.wire.proofs.measured_end.Given as goal

abbrev pub invariant-loop-k : goal.invariant-loop-k
invariant-loop-k l = Ending (measured l.h l.at) l.s l.count l.start l.i (l.count - l.k)
