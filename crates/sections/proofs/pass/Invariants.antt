-- `pass` is safe, and ends: each turn passes some of the stretch.
use Rattle.std.proofs.Common.{◌≡◌, ◌-◌, ◌≤◌, length}
use Rattle.sections.proofs.pass.Given as goal

abbrev pub invariant-loop-at : goal.invariant-loop-at
invariant-loop-at g l = (length l.state ≡ length l.initial.state) × (length l.out ≡ length l.initial.out) × (length l.counts ≡ length l.initial.counts) × (l.at ≤ length l.stretch)

abbrev pub decreases-loop-at : goal.decreases-loop-at
decreases-loop-at g l = length l.stretch - l.at
