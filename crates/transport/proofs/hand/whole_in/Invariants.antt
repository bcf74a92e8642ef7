-- `transport::hand::whole_in` meets its contract: section after section, until there is none.
use Prim.Native.Nat.{◌-◌}
use lib.ListN.{length}
use Rattle.transport.proofs.Laws.Hands.{Walked}
use Rattle.transport.proofs.hand.whole_in.Given as goal

abbrev pub invariant-loop-n : goal.invariant-loop-n
invariant-loop-n l = Walked l.xs l.at

abbrev pub decreases-loop-n : goal.decreases-loop-n
decreases-loop-n l = length l.xs - l.at
