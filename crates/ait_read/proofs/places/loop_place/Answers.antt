-- `ait_read::places::loop_place` meets its contract.
use mathlib.Core.Path.{◌∙◌}
use native.Mathlib.Omega.{arith}
use Rattle.ait_read.specs.Places.{body_at, loop_in, loop_at}
use Rattle.ait_read.proofs.Laws.Places.{step-none, step-fits, step-is, sound-body, sound-loop_in}
use Rattle.ait_read.proofs.places.loop_place.Goals as goal

pub returns-in_err-body : goal.returns-in_err-body
unfolding loop_at
returns-in_err-body c = c.from_residual.ensures ∙ step-none loop_in sound-loop_in _ (body_at c.args.s.now) c.args.s.now c.body_place.ensures c.in_err-body.was

pub within-requires : goal.within-requires
within-requires c = λ u e. omega (
  arith,
  step-fits loop_in sound-loop_in _ (body_at c.args.s.now) c.args.s.now c.body_place.ensures (sound-body c.args.s.now) _ c.in_ok-body.was _ c.part.ensures _ c.loop_in.ensures u e,
)

pub returns : goal.returns
unfolding loop_at
returns c = c.within.ensures ∙ step-is loop_in sound-loop_in _ (body_at c.args.s.now) c.args.s.now c.body_place.ensures (sound-body c.args.s.now) _ c.in_ok-body.was _ c.part.ensures _
    c.loop_in.ensures
