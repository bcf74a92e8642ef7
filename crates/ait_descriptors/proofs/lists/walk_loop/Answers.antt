-- `ait_descriptors::lists::walk_loop` meets its contract: the invariant is `Walking`.
use mathlib.Core.Path.{refl, sym, ◌∙◌}
use native.Mathlib.Omega.{arith}
use borrow.Author.Tests.{not-true, not-false}
use Rattle.wire.proofs.Laws.Sizes.{sized-has, sized-none}
use Rattle.ait_descriptors.specs.Kinds.{size_of}
use Rattle.ait_descriptors.specs.Contents.{test_of}
use Rattle.ait_descriptors.proofs.Laws.Walks.{walk_open, walk_bad, walk_hit, walk_miss, walk-done}
use Rattle.ait_descriptors.proofs.lists.walk_loop.Goals as goal
use Rattle.ait_descriptors.proofs.lists.walk_loop.Goals.{then-meets_at-2, else-meets_at-2}

pub returns-then-meets_at : goal.returns-then-meets_at
unfolding size_of test_of
returns-then-meets_at c =
    let h = sized-has _ _ c.in-Some.ensures.0 in
    walk_bad _ _ _ h.0 _ c.loop-n.invariant h.1 (not-true _ (sym c.meets_at.ensures ∙ c.if-meets_at.true))

pub loop-n-preserved : goal.loop-n-preserved
unfolding size_of test_of
loop-n-preserved c =
    let h = sized-has _ _ c.in-Some.ensures.0 in
    let g = not-false _ (sym c.meets_at.ensures ∙ c.if-meets_at.false) in
    let v = c.loop-n.invariant in
    elim c.if-meets_at-2.branch [
      | then-meets_at-2 w ↦ rw w.m-is (walk_hit _ _ _ h.0 _ v h.1 g (sym c.meets_at-in-Some.ensures ∙ w.if-meets_at-2.true))
      | else-meets_at-2 w ↦ rw w.m-is (walk_miss _ _ _ h.0 _ v h.1 g (sym c.meets_at-in-Some.ensures ∙ w.if-meets_at-2.false))
    ]

pub returns-then-i-l : goal.returns-then-i-l
unfolding size_of
returns-then-i-l c = walk_open _ _ _ (sym (sized-none _ c.in_default.ensures.0)) _ c.loop-n.invariant (omega arith) refl

pub returns : goal.returns
returns c = walk-done c.args.l.now c.loop-n.i _ (omega arith) c.loop-n.invariant
