-- `ait_read::places::repeated_place` meets its contract.
use mathlib.Core.Path.{ap, ◌∙◌}
use native.Mathlib.Omega.{arith}
use Rattle.ait_descriptors.specs.declared.Kind.{Kind}
use Rattle.ait_descriptors.specs.Contents.{kind_of}
use Rattle.ait_descriptors.specs.Kinds.{size_of}
use Rattle.ait_descriptors.proofs.Laws.Kinds.{kind_of_lem}
use Rattle.wire.specs.Places.{item_at}
use Rattle.wire.proofs.Laws.Finders.{sound_item}
use Rattle.ait_read.specs.Places.{list_at, repeated_at}
use Rattle.ait_read.proofs.Laws.Places.{step-none, step-fits, step-is, sound-list_at}
use Rattle.ait_read.proofs.places.repeated_place.Goals as goal

pub returns-in_err-list : goal.returns-in_err-list
unfolding repeated_at
returns-in_err-list c = c.from_residual.ensures ∙ step-none (item_at (size_of (kind_of c.args.what)) c.args.k)
    (sound_item (size_of (kind_of c.args.what)) (kind_of_lem (kind_of c.args.what)) c.args.k) _ (list_at c.args.scope c.args.j c.args.what c.args.s.now) c.args.s.now c.list_place.ensures
    c.in_err-list.was

pub within-requires : goal.within-requires
within-requires c = λ u e. omega (
  arith,
  step-fits (item_at (size_of (kind_of c.args.what)) c.args.k) (sound_item (size_of (kind_of c.args.what)) (kind_of_lem (kind_of c.args.what)) c.args.k) _
      (list_at c.args.scope c.args.j c.args.what c.args.s.now) c.args.s.now c.list_place.ensures (sound-list_at c.args.scope c.args.j c.args.what c.args.s.now) _ c.in_ok-list.was _
      c.part.ensures _ (c.item_place.ensures ∙ ap (λ (n : Kind). item_at (size_of n) c.args.k c.part.result.now) c.kind_of.ensures) u e,
)

pub returns : goal.returns
unfolding repeated_at
returns c = c.within.ensures ∙ step-is (item_at (size_of (kind_of c.args.what)) c.args.k) (sound_item (size_of (kind_of c.args.what)) (kind_of_lem (kind_of c.args.what)) c.args.k) _
    (list_at c.args.scope c.args.j c.args.what c.args.s.now) c.args.s.now c.list_place.ensures (sound-list_at c.args.scope c.args.j c.args.what c.args.s.now) _ c.in_ok-list.was _
    c.part.ensures _ (c.item_place.ensures ∙ ap (λ (n : Kind). item_at (size_of n) c.args.k c.part.result.now) c.kind_of.ensures)
