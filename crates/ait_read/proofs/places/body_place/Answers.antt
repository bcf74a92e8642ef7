-- `ait_read::places::body_place` meets its contract.
use mathlib.Core.Path.{sym, ap, ◌∙◌}
use native.Mathlib.Omega.{arith}
use Rattle.wire.specs.Places.{At}
use Rattle.ait_read.specs.Places.{body_at}
use Rattle.wire.proofs.Laws.Finders.{inner-at, inner-none}
use Rattle.ait_read.proofs.places.body_place.Goals as goal

pub returns-in_err-size : goal.returns-in_err-size
unfolding body_at
returns-in_err-size c = c.from_residual.ensures ∙ sym (inner-none 8 4 c.args.s.now (omega (arith, c.in_err-size.ensures)))

pub returns : goal.returns
unfolding body_at
returns c = ap (At 8) c.in_ok-size.ensures.1 ∙ sym (inner-at 8 4 c.args.s.now c.in_ok-size.ensures.0)
