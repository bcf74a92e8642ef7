-- `ait_read::places::descriptor_place` meets its contract.
use mathlib.Core.Path.{◌∙◌}
use native.Mathlib.Omega.{arith}
use Rattle.ait_descriptors.specs.declared.Kind.TheVariants.{Descriptor}
use Rattle.ait_descriptors.specs.Kinds.{size_of}
use Rattle.ait_descriptors.proofs.Laws.Kinds.{kind_of_lem}
use Rattle.wire.specs.Places.{item_at}
use Rattle.wire.proofs.Laws.Finders.{sound_item}
use Rattle.ait_read.specs.Places.{scope_at, descriptor_at}
use Rattle.ait_read.proofs.Laws.Places.{step-none, step-fits, step-is, sound_scope}
use Rattle.ait_read.proofs.places.descriptor_place.Goals as goal

pub returns-in_err-list : goal.returns-in_err-list
unfolding descriptor_at
returns-in_err-list c = c.from_residual.ensures ∙ step-none (item_at (size_of Descriptor) c.args.j) (sound_item (size_of Descriptor) (kind_of_lem Descriptor) c.args.j) _
    (scope_at c.args.scope c.args.s.now) c.args.s.now c.scope_place.ensures c.in_err-list.was

pub within-requires : goal.within-requires
within-requires c = λ u e. omega (
  arith,
  step-fits (item_at (size_of Descriptor) c.args.j) (sound_item (size_of Descriptor) (kind_of_lem Descriptor) c.args.j) _ (scope_at c.args.scope c.args.s.now) c.args.s.now
      c.scope_place.ensures (sound_scope c.args.scope c.args.s.now) _ c.in_ok-list.was _ c.part.ensures _ c.item_place.ensures u e,
)

pub returns : goal.returns
unfolding descriptor_at
returns c = c.within.ensures ∙ step-is (item_at (size_of Descriptor) c.args.j) (sound_item (size_of Descriptor) (kind_of_lem Descriptor) c.args.j) _ (scope_at c.args.scope c.args.s.now)
    c.args.s.now c.scope_place.ensures (sound_scope c.args.scope c.args.s.now) _ c.in_ok-list.was _ c.part.ensures _ c.item_place.ensures
