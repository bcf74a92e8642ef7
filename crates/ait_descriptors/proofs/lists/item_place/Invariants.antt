-- `ait_descriptors::lists::item_place` meets its contract: the invariant is wire's `Seeking`.
use Prim.Native.Nat.{◌-◌}
use Rattle.ait_descriptors.specs.Kinds.{size_of}
use Rattle.wire.proofs.Laws.Loops.{Seeking}
use Rattle.ait_descriptors.proofs.lists.item_place.Given as goal

abbrev pub invariant-loop-passed : goal.invariant-loop-passed
invariant-loop-passed l = Seeking (size_of l.kind) l.s l.k l.i (l.k - l.passed)
