-- `drift_list::write` meets its contract.
use mathlib.Core.Path.{◌≡◌}
use lib.ListN.{length}
use lib.Seq.{sets}
use Rattle.drift_list.proofs.Left.{begun}
use Rattle.drift_list.proofs.write.Given as goal

abbrev pub invariant-loop-k : goal.invariant-loop-k
invariant-loop-k l = (length l.out ≡ length l.initial.out) × (l.out ≡ sets l.initial.out 4 (begun l.numbers l.k))
