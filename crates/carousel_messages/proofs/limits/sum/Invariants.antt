-- `carousel_messages::limits::sum` meets its contract. The invariant: the sum so far and the sizes left are the sizes together.
use mathlib.Core.Path.{◌≡◌}
use Prim.Native.Nat.{◌+◌, ◌*◌, ◌≤◌}
use lib.ListN.{drop}
use Rattle.carousel_messages.specs.Limits.{total}
use Rattle.carousel_messages.specs.Heard.{sizes_of}
use Rattle.carousel_messages.proofs.limits.sum.Given as goal

abbrev pub invariant-loop-m : goal.invariant-loop-m
invariant-loop-m l = (l.sum ≤ l.m-index * 4294967295) × (l.sum + total (sizes_of (drop l.m-index l.modules)) ≡ total (sizes_of l.modules))
