-- `carousel_play::spots::sections_in` meets its contract. The invariant: the announcement, and the blocks of the modules passed.
use Prim.Native.Nat.{◌+◌, ◌*◌, ◌≤◌}
use mathlib.Core.Path.{◌≡◌}
use Rattle.carousel_play.specs.Rotation.{blocks_to}
use Rattle.carousel_play.specs.Calls.{to_play}
use Rattle.carousel_play.proofs.spots.sections_in.Given as goal

abbrev pub invariant-loop-m : goal.invariant-loop-m
invariant-loop-m l = (l.sum ≡ 1 + blocks_to (to_play l.p) l.m-index) × (l.sum ≤ 1 + l.m-index * 4295032832)
