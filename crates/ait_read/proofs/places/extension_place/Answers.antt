-- `ait_read::places::extension_place` meets its contract.
use mathlib.Core.Path.{◌∙◌}
use native.Mathlib.Omega.{arith}
use Rattle.ait_descriptors.specs.declared.Kind.TheVariants.{Extension}
use Rattle.ait_descriptors.specs.Kinds.{size_of}
use Rattle.ait_descriptors.proofs.Laws.Kinds.{kind_of_lem}
use Rattle.wire.specs.Places.{item_at}
use Rattle.wire.proofs.Laws.Finders.{sound_item}
use Rattle.ait_read.specs.Places.{extensions_at, extension_at}
use Rattle.ait_read.proofs.Laws.Places.{step-none, step-fits, step-is, sound-extensions}
use Rattle.ait_read.proofs.places.extension_place.Goals as goal

pub returns-in_err-list : goal.returns-in_err-list
unfolding extension_at
returns-in_err-list c = c.from_residual.ensures ∙ step-none (item_at (size_of Extension) c.args.m) (sound_item (size_of Extension) (kind_of_lem Extension) c.args.m) _
    (extensions_at c.args.scope c.args.j c.args.k c.args.s.now) c.args.s.now c.extensions_place.ensures c.in_err-list.was

pub within-requires : goal.within-requires
within-requires c = λ u e. omega (
  arith,
  step-fits (item_at (size_of Extension) c.args.m) (sound_item (size_of Extension) (kind_of_lem Extension) c.args.m) _ (extensions_at c.args.scope c.args.j c.args.k c.args.s.now)
      c.args.s.now c.extensions_place.ensures (sound-extensions c.args.scope c.args.j c.args.k c.args.s.now) _ c.in_ok-list.was _ c.part.ensures _ c.item_place.ensures u e,
)

pub returns : goal.returns
unfolding extension_at
returns c = c.within.ensures ∙ step-is (item_at (size_of Extension) c.args.m) (sound_item (size_of Extension) (kind_of_lem Extension) c.args.m) _
    (extensions_at c.args.scope c.args.j c.args.k c.args.s.now) c.args.s.now c.extensions_place.ensures (sound-extensions c.args.scope c.args.j c.args.k c.args.s.now) _ c.in_ok-list.was _
    c.part.ensures _ c.item_place.ensures
