-- `ait_descriptors::lists::find` meets its contract: the invariant is wire's `Finding`.
use mathlib.Core.Path.{refl, sym, ◌∙◌}
use native.Mathlib.Omega.{arith}
use Rattle.ait_descriptors.specs.Kinds.{size_of}
use Rattle.ait_descriptors.proofs.Laws.Kinds.{kind_of_lem}
use Rattle.ait_descriptors.specs.Contents.{test_of}
use Rattle.wire.specs.Places.{first}
use Rattle.wire.proofs.Laws.Sizes.{sized-has, sized-none}
use Rattle.wire.proofs.Laws.Loops.{find-stop, find_hit, find-turn}
use Rattle.ait_descriptors.proofs.lists.find.Goals as goal

pub loop-n-init : goal.loop-n-init
unfolding first
loop-n-init c = (omega arith, omega arith, refl)

pub returns-then-meets_at : goal.returns-then-meets_at
returns-then-meets_at c =
    let h = sized-has _ _ c.in-Some.ensures.0 in
    find_hit (size_of _) (kind_of_lem _) _ _ _ h.0 (test_of _) _ c.loop-n.invariant h.1 (sym c.meets_at.ensures ∙ c.if-meets_at.true)

pub loop-n-preserved : goal.loop-n-preserved
loop-n-preserved c =
    let h = sized-has _ _ c.in-Some.ensures.0 in
    find-turn (size_of _) (kind_of_lem _) _ _ _ h.0 (test_of _) _ c.loop-n.invariant h.1 (sym c.meets_at.ensures ∙ c.if-meets_at.false)

pub returns : goal.returns
returns c = find-stop (size_of _) (kind_of_lem _) _ _ _ (sym (sized-none _ c.in_default.ensures.0)) (test_of _) _ c.loop-n.invariant refl
