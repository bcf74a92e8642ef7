-- `take_apart` is safe, and ends: its turns are counted. The invariant: the arrays are as long as they were.
use Rattle.std.proofs.Common.{◌≡◌, length}
use Rattle.sections.proofs.take_apart.Given as goal

abbrev pub invariant-loop : goal.invariant-loop
invariant-loop g l = (65612 ≡ length l.stretch) × (4287 ≡ length l.state) × (131072 ≡ length l.out) × (7 ≡ length l.counts)
