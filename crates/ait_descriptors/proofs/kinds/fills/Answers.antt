-- `ait_descriptors::kinds::fills` meets its contract: the invariant is wire's `Filling`.
use Rattle.ait_descriptors.specs.Kinds.{size_of}
use Rattle.wire.proofs.Laws.Sizes.{sized-has, sized-none}
use Rattle.wire.proofs.Laws.Loops.{fills-turn}
use Rattle.ait_descriptors.proofs.Laws.Kinds.{kind_of_lem}
use Rattle.ait_descriptors.proofs.Laws.Proper.{fills-end}
use Rattle.ait_descriptors.proofs.kinds.fills.Goals as goal

pub loop-n-preserved : goal.loop-n-preserved
loop-n-preserved c =
    let h = sized-has _ _ c.in-Some.ensures.0 in
    fills-turn (size_of _) (kind_of_lem _) _ _ _ h.0 c.loop-n.invariant h.1

pub returns : goal.returns
returns c = fills-end (size_of _) (kind_of_lem _) _ _ c.loop-n.invariant (sized-none _ c.in_default.ensures.0)
