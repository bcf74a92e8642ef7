-- `are_modules` is safe, and ends. The invariant: i is at most the count.
use Rattle.std.proofs.Common.{◌≤◌}
use Rattle.player.proofs.arguments.are_modules.Given as goal

abbrev pub invariant-loop-i : goal.invariant-loop-i
invariant-loop-i g l = l.i ≤ l.n
