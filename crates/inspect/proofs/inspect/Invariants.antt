-- `inspect` stays within the stretch: what `take` takes fits into what is left.
use Rattle.std.proofs.Common.{◌≡◌, ◌≤◌, length}
use mathlib.Core.Bool.{true}
use Rattle.carousel_record.specs.Record.{ruled_of}
use Rattle.inspect.proofs.inspect.Given as goal

abbrev pub invariant-loop-index : goal.invariant-loop-index
invariant-loop-index g l = (l.passed ≤ length l.stretch) × (ruled_of l.c ≡ true)
