-- `ait_body::applications_refusal` meets its contract: the invariant is `Judging`.
use Prim.Native.Nat.{◌-◌}
use lib.ListN.{length}
use Rattle.ait_body.proofs.Laws.Applications.{Judging}
use Rattle.ait_body.proofs.applications_refusal.Given as goal

abbrev pub invariant-loop-n : goal.invariant-loop-n
invariant-loop-n l = Judging l.s l.i l.answer

abbrev pub decreases-loop-n : goal.decreases-loop-n
decreases-loop-n l = length l.s - l.i
