-- `ait_descriptors::lists::item_place` meets its contract: the invariant is wire's `Seeking`.
use mathlib.Core.Path.{refl, sym, ◌∙◌}
use native.Mathlib.Omega.{arith}
use Rattle.ait_descriptors.specs.Kinds.{size_of}
use Rattle.ait_descriptors.proofs.Laws.Kinds.{kind_of_lem}
use Rattle.wire.specs.Places.{item_at}
use Rattle.wire.proofs.Laws.Sizes.{sized-has, sized-none}
use Rattle.wire.proofs.Laws.Loops.{seek_stop, seek_hit, seek-turn}
use Rattle.ait_descriptors.proofs.Laws.Proper.{seek-left}
use Rattle.ait_descriptors.proofs.lists.item_place.Goals as goal

pub loop-passed-init : goal.loop-passed-init
unfolding item_at
loop-passed-init c = seek-left (size_of _) c.args.s.now _ _ _ _ (omega arith) (omega arith, refl)

pub returns-in_err-i : goal.returns-in_err-i
returns-in_err-i c =
    let z = sym (sized-none _ (sym c.in_err-i.was ∙ c.size_at.ensures.0)) in
    c.from_residual.ensures ∙ seek_stop (size_of _) (kind_of_lem _) _ _ _ z _ _ c.loop-passed.invariant refl

pub loop-passed-preserved : goal.loop-passed-preserved
loop-passed-preserved c =
    let h = sized-has _ _ (sym c.in_ok-i.was ∙ c.size_at.ensures.0) in
    seek-left (size_of _) _ _ _ _ _ (omega arith) (seek-turn (size_of _) (kind_of_lem _) _ _ _ h.0 _ _ c.loop-passed.invariant h.1 (omega arith))

pub returns-in_err-size : goal.returns-in_err-size
returns-in_err-size c =
    let z = sym (sized-none _ (sym c.in_err-size.was ∙ c.size_at-2.ensures.0)) in
    c.from_residual-in_err-size.ensures ∙ seek_stop (size_of _) (kind_of_lem _) _ _ _ z _ _ c.loop-passed.invariant refl

pub returns : goal.returns
returns c =
    let h = sized-has _ _ (sym c.in_ok-size.was ∙ c.size_at-2.ensures.0) in
    seek_hit (size_of _) (kind_of_lem _) _ _ _ h.0 _ _ c.loop-passed.invariant h.1 (omega arith)
