-- `wire::copies::is_equal` meets its contract. The invariant: no bit differs so far, and what is left is the same, just where all is.
use Prim.Native.Nat.{◌≤◌}
use mathlib.Core.Path.{◌≡◌}
use mathlib.Core.Bool.{◌&&◌}
use lib.Dec.{eqb}
use lib.ListN.{length, drop}
use Rattle.wire.specs.Copies.{same_numbers}
use Rattle.wire.proofs.copies.is_equal.Given as goal

abbrev pub invariant-loop-i : goal.invariant-loop-i
invariant-loop-i l = (l.i ≤ length l.a) × (length l.a ≡ length l.b) × ((eqb l.all 0 && same_numbers (drop l.i l.a) (drop l.i l.b)) ≡ same_numbers l.a l.b)
