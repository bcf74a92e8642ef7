-- `ait_read::places::application_place` meets its contract.
use mathlib.Core.Path.{◌∙◌}
use native.Mathlib.Omega.{arith}
use Rattle.ait_descriptors.specs.declared.Kind.TheVariants.{Application}
use Rattle.ait_descriptors.specs.Kinds.{size_of}
use Rattle.ait_descriptors.proofs.Laws.Kinds.{kind_of_lem}
use Rattle.wire.specs.Places.{item_at}
use Rattle.wire.proofs.Laws.Finders.{sound_item}
use Rattle.ait_read.specs.Places.{loop_at, application_at}
use Rattle.ait_read.proofs.Laws.Places.{step-none, step-fits, step-is, sound_loop}
use Rattle.ait_read.proofs.places.application_place.Goals as goal

pub returns-in_err-list : goal.returns-in_err-list
unfolding application_at
returns-in_err-list c = c.from_residual.ensures ∙ step-none (item_at (size_of Application) c.args.i) (sound_item (size_of Application) (kind_of_lem Application) c.args.i) _
    (loop_at c.args.s.now) c.args.s.now c.loop_place.ensures c.in_err-list.was

pub within-requires : goal.within-requires
within-requires c = λ u e. omega (
  arith,
  step-fits (item_at (size_of Application) c.args.i) (sound_item (size_of Application) (kind_of_lem Application) c.args.i) _ (loop_at c.args.s.now) c.args.s.now c.loop_place.ensures
      (sound_loop c.args.s.now) _ c.in_ok-list.was _ c.part.ensures _ c.item_place.ensures u e,
)

pub returns : goal.returns
unfolding application_at
returns c = c.within.ensures ∙ step-is (item_at (size_of Application) c.args.i) (sound_item (size_of Application) (kind_of_lem Application) c.args.i) _ (loop_at c.args.s.now) c.args.s.now
    c.loop_place.ensures (sound_loop c.args.s.now) _ c.in_ok-list.was _ c.part.ensures _ c.item_place.ensures
