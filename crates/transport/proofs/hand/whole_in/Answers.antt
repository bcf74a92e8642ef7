-- `transport::hand::whole_in` meets its contract: section after section, until there is none.
use Prim.Native.Nat.{◌+◌}
use mathlib.Core.Path.{◌≡◌, ap, ◌∙◌}
use lib.ListN.{drop}
use Rattle.wire.specs.Items.{sized}
use Rattle.wire.proofs.Laws.Loops.{tail}
use Rattle.wire.proofs.Laws.Sizes.{sized-none, sized-has}
use Rattle.section.specs.Whole.{whole_at}
use Rattle.transport.proofs.Laws.Hands.{Walked, walked_stop, walked_on}
use Rattle.transport.proofs.hand.whole_in.Goals as goal
use Rattle.transport.proofs.hand.whole_in.Goals.{In-Some}

-- the section at this place
found : (c : In-Some) → (c.in-Some.n ≡ whole_at (drop c.loop-n.at c.args.xs.now)) × (c.in-Some.n ≡ 0 → ⊥)
found c = sized-has _ _ (c.in-Some.ensures.0 ∙ ap (λ l. sized (whole_at l)) (tail c.args.xs.now c.loop-n.at))

on : (c : In-Some) → Walked c.args.xs.now (c.loop-n.at + c.in-Some.n)
on c = let f = found c in walked_on c.args.xs.now c.loop-n.at c.loop-n.invariant _ f.0 f.1

pub loop-n-preserved : goal.loop-n-preserved
loop-n-preserved c = on (goal.at.loop-n-preserved c).In-Some

pub returns : goal.returns
returns c = (
  walked_stop c.args.xs.now c.loop-n.at c.loop-n.invariant
      (sized-none _ (c.in_default.ensures.0 ∙ ap (λ l. sized (whole_at l)) (tail c.args.xs.now c.loop-n.at))),
  c.loop-n.invariant.0,
)
