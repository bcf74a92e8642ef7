-- `carousel_play::spots::spot_at` meets its contract. The invariant: the blocks and the bytes of the modules passed.
use Rattle.carousel_play.specs.Calls.{to_play}
use Rattle.carousel_play.proofs.Laws.Spots.{Walked}
use Rattle.carousel_play.proofs.spots.spot_at.Given as goal

abbrev pub invariant-loop-i : goal.invariant-loop-i
invariant-loop-i l = Walked (to_play l.p) l.n l.place l.left l.start l.i
