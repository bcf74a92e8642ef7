-- `tell` is safe, and ends. The invariant: there are as many bytes for the line as there were.
use Rattle.std.proofs.Common.{◌≡◌, ◌-◌, length}
use Rattle.sections.proofs.totals.tell.Given as goal

abbrev pub invariant-loop-i : goal.invariant-loop-i
invariant-loop-i g l = length l.line ≡ 209

abbrev pub decreases-loop-i : goal.decreases-loop-i
decreases-loop-i g l = length l.counts - l.i
