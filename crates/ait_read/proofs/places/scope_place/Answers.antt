-- `ait_read::places::scope_place` meets its contract.
use mathlib.Core.Path.{sym, ap, ◌∙◌}
use Rattle.ait_read.specs.declared.Scope.{Scope}
use Rattle.ait_read.specs.Places.{scope_at}
use Rattle.ait_read.proofs.places.scope_place.Goals as goal

pub returns-in-Common : goal.returns-in-Common
unfolding scope_at
returns-in-Common c = c.common_place.ensures ∙ ap (λ (o : Scope). scope_at o c.args.s.now) (sym c.in-Common.is)

pub returns-in-Own : goal.returns-in-Own
unfolding scope_at
returns-in-Own c = c.own_place.ensures ∙ ap (λ (o : Scope). scope_at o c.args.s.now) (sym c.in-Own.is)
