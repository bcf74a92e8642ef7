-- `carousel_play::spots::spot_at` meets its contract. The invariant: the blocks and the bytes of the modules passed.
use mathlib.Core.Path.{◌≡◌, ap}
use native.Mathlib.Omega.{arith}
use lib.ListN.{length}
use Rattle.carousel_play.specs.Rotation.{blocks_to}
use Rattle.carousel_play.specs.Calls.{to_play}
use Rattle.carousel_play.proofs.Laws.Spots.{walked_none, walked_next, walked_here, walked-past, one_or_none, played-count, entry-is}
use Rattle.carousel_play.proofs.spots.spot_at.Goals as goal
use Rattle.carousel_play.proofs.spots.spot_at.Goals.{Start}

counted : (s : Start) → length (to_play s.args.p).modules ≡ s.args.p.count
counted s = played-count s.args.p s.well_formed.0.1.1.1.1.1.0.1.0.1 s.requires

pub loop-i-init : goal.loop-i-init
loop-i-init c = walked_none _ _ _

pub returns-then-left-b : goal.returns-then-left-b
unfolding to_play
returns-then-left-b c =
    let l = c.loop-i in
    let m = entry-is c.args.p l.i (omega arith) in
    let w = walked_here (to_play c.args.p) c.args.p.count (counted (goal.at.returns-then-left-b c).Start) c.args.place l.left l.start l.i l.invariant (omega arith) _ m _ c.blocks_of-b.ensures.0
    (omega arith) in
    (((w.0, w.1, w.2), w.3), λ e. absurd (one_or_none _ e))

pub loop-i-preserved : goal.loop-i-preserved
unfolding to_play
loop-i-preserved c =
    let l = c.loop-i in
    let m = entry-is c.args.p l.i (omega arith) in
    walked_next (to_play c.args.p) c.args.p.count (counted (goal.at.loop-i-preserved c).Start) c.args.place l.left l.start l.i l.invariant (omega arith) _ m _
    c.blocks_of-b.ensures.0 (omega arith) (omega arith)

pub returns : goal.returns
returns c =
    let l = c.loop-i in
    let k = ap (blocks_to (to_play c.args.p)) (counted (goal.at.returns c).Start) in
    let h = walked-past (to_play c.args.p) c.args.p.count c.args.place l.left l.start l.i l.invariant (omega arith) in
    (tt, λ e. omega arith)
