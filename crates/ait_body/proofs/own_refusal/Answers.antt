-- `ait_body::own_refusal` meets its contract.
use mathlib.Core.Path.{sym, ap, ◌∙◌}
use native.Mathlib.Omega.{arith}
use Rattle.wire.specs.Outcomes.{passed}
use Rattle.ait_body.proofs.Laws.Body.{own_bad, own-one, own-other}
use Rattle.ait_body.proofs.own_refusal.Goals as goal

pub returns-in_default : goal.returns-in_default
returns-in_default c = ap passed (own_bad _ (sym c.walk_loop.ensures ∙ c.in_default.is))

pub returns-then-m-ne1 : goal.returns-then-m-ne1
returns-then-m-ne1 c = ap passed (own-other _ _ (sym c.walk_loop.ensures ∙ c.in-Some.is) (λ e. omega (arith, e, c.if-m-ne1.true)))

pub returns : goal.returns
returns c = ap passed (own-one _ _ (sym c.walk_loop.ensures ∙ c.in-Some.is) (omega (arith, c.if-m-ne1.false)))
