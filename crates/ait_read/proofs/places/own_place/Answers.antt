-- `ait_read::places::own_place` meets its contract.
use mathlib.Core.Path.{◌∙◌}
use native.Mathlib.Omega.{arith}
use Rattle.wire.specs.Places.{after}
use Rattle.wire.proofs.Laws.Finders.{sound-after}
use Rattle.ait_read.specs.Places.{application_at, own_at}
use Rattle.ait_read.proofs.Laws.Places.{step-none, step-fits, step-is, sound-application}
use Rattle.ait_read.proofs.places.own_place.Goals as goal

pub returns-in_err-application : goal.returns-in_err-application
unfolding own_at
returns-in_err-application c = c.from_residual.ensures ∙ step-none (after 9) (sound-after 9) _ (application_at c.args.i c.args.s.now) c.args.s.now c.application_place.ensures c.in_err-application.was

pub within-requires : goal.within-requires
within-requires c = λ u e. omega (
  arith,
  step-fits (after 9) (sound-after 9) _ (application_at c.args.i c.args.s.now) c.args.s.now c.application_place.ensures (sound-application c.args.i c.args.s.now) _ c.in_ok-application.was _
      c.part.ensures _ c.rest.ensures u e,
)

pub returns : goal.returns
unfolding own_at
returns c = c.within.ensures ∙ step-is (after 9) (sound-after 9) _ (application_at c.args.i c.args.s.now) c.args.s.now c.application_place.ensures (sound-application c.args.i c.args.s.now)
    _ c.in_ok-application.was _ c.part.ensures _ c.rest.ensures
