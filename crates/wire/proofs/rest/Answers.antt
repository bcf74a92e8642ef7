-- `wire::rest` meets its contract.
use mathlib.Core.Path.{sym, ap, ◌∙◌}
use native.Mathlib.Omega.{arith}
use Rattle.wire.specs.Places.{At}
use Rattle.wire.proofs.Laws.Finders.{after-at, after_none}
use Rattle.wire.proofs.rest.Goals as goal

pub returns-in_err-size : goal.returns-in_err-size
returns-in_err-size c = c.from_residual.ensures ∙ sym (after_none _ c.args.x.now (omega (arith, c.in_err-size.ensures)))

pub returns : goal.returns
returns c = ap (At c.args.at) c.in_ok-size.ensures.1 ∙ sym (after-at _ c.args.x.now c.in_ok-size.ensures.0)
