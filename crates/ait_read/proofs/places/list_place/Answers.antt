-- `ait_read::places::list_place` meets its contract.
use mathlib.Core.Path.{◌∙◌}
use native.Mathlib.Omega.{arith}
use Rattle.ait_descriptors.specs.Contents.{list_in}
use Rattle.ait_descriptors.proofs.Laws.Lists.{sound-list}
use Rattle.ait_read.specs.Places.{descriptor_at, list_at}
use Rattle.ait_read.proofs.Laws.Places.{step-none, step-fits, step-is, sound-descriptor}
use Rattle.ait_read.proofs.places.list_place.Goals as goal

pub returns-in_err-descriptor : goal.returns-in_err-descriptor
unfolding list_at
returns-in_err-descriptor c = c.from_residual.ensures ∙ step-none (list_in c.args.what) (sound-list c.args.what) _ (descriptor_at c.args.scope c.args.j c.args.s.now) c.args.s.now
    c.descriptor_place.ensures c.in_err-descriptor.was

pub within-requires : goal.within-requires
within-requires c = λ u e. omega (
  arith,
  step-fits (list_in c.args.what) (sound-list c.args.what) _ (descriptor_at c.args.scope c.args.j c.args.s.now) c.args.s.now c.descriptor_place.ensures
      (sound-descriptor c.args.scope c.args.j c.args.s.now) _ c.in_ok-descriptor.was _ c.part.ensures _ c.list_in.ensures u e,
)

pub returns : goal.returns
unfolding list_at
returns c = c.within.ensures ∙ step-is (list_in c.args.what) (sound-list c.args.what) _ (descriptor_at c.args.scope c.args.j c.args.s.now) c.args.s.now c.descriptor_place.ensures
    (sound-descriptor c.args.scope c.args.j c.args.s.now) _ c.in_ok-descriptor.was _ c.part.ensures _ c.list_in.ensures
