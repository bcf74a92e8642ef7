-- `section::header_spot` meets its contract.
use mathlib.Core.Path.{sym, ap, ◌∙◌}
use mathlib.Core.Bool.{Bool, not, cond}
use Rattle.section.proofs.header_spot.Goals as goal

pub returns-then-is_framed : goal.returns-then-is_framed
returns-then-is_framed c = sym (ap (λ (b : Bool). cond b 1 6) (sym c.is_framed.ensures ∙ ap not c.if-is_framed.true))

pub returns : goal.returns
returns c = sym (ap (λ (b : Bool). cond b 1 6) (sym c.is_framed.ensures ∙ ap not c.if-is_framed.false))
