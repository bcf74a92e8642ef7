-- `carousel_play::spots::sections_in` meets its contract. The invariant: the announcement, and the blocks of the modules passed.
use Prim.Native.Nat.{ℕ, ◌+◌}
use mathlib.Core.Path.{◌≡◌, refl, ap, ◌∙◌}
use native.Mathlib.Omega.{arith}
use lib.ListN.{length, take}
use Rattle.carousel_play.specs.Rotation.{blocks_to}
use Rattle.carousel_play.specs.Calls.{to_play}
use Rattle.carousel_play.proofs.Laws.Spots.{blocks-none, blocks-next, played-count}
use Rattle.carousel_play.proofs.spots.sections_in.Goals as goal
use Rattle.carousel_play.proofs.spots.sections_in.Goals.{Start}

counted : (s : Start) → length (to_play s.args.p).modules ≡ s.args.p.count
counted s = played-count s.args.p s.well_formed.0.1.1.1.1.1.0.1.0.1 s.requires

-- and the code takes as many
taken : (s : Start) → length (take s.args.p.count s.args.p.modules) ≡ s.args.p.count
unfolding to_play
taken s = counted s

pub loop-m-init : goal.loop-m-init
loop-m-init c = (ap (λ (k : ℕ). 1 + k) (blocks-none _), omega arith)

pub loop-m-preserved : goal.loop-m-preserved
unfolding to_play
loop-m-preserved c =
    let l = c.loop-m in
    let e = c.blocks_of-sum.ensures in
    (blocks-next (to_play c.args.p) l.m-index l.sum _ refl c.blocks_of-sum.result e.0 l.invariant.0, omega (arith, l.invariant.1, e.1))

pub returns : goal.returns
returns c =
    let l = c.loop-m in
    let e : l.m-index ≡ length (to_play c.args.p).modules = let k = counted (goal.at.returns c).Start in let t = taken (goal.at.returns c).Start in omega arith in
    l.invariant.0 ∙ ap (λ (k : ℕ). 1 + blocks_to (to_play c.args.p) k) e
