-- `carousel_messages::body::is_message` meets its contract.
use mathlib.Core.Path.{ap, ap₂, ◌∙◌}
use native.Mathlib.Omega.{arith}
use mathlib.Core.Bool.{Bool, not}
use lib.Dec.{eqb}
use Rattle.carousel_messages.proofs.Laws.Refusals.{first-other, second-other, number_is}
use Rattle.carousel_messages.proofs.body.is_message.Goals as goal

pub returns-then-byte_at-ne17 : goal.returns-then-byte_at-ne17
returns-then-byte_at-ne17 c = first-other _ c.args.b.now (λ e. omega (arith, c.if-byte_at-ne17.true))

pub returns-then-byte_at-ne3 : goal.returns-then-byte_at-ne3
returns-then-byte_at-ne3 c = second-other _ c.args.b.now (omega arith) (λ e. omega (arith, c.if-byte_at-ne3.true))

pub returns : goal.returns
returns c = ap (λ (t : Bool). not t) (ap₂ eqb c.sixteen_at.ensures.0 c.wanted_of.ensures)
    ∙ number_is _ c.args.b.now (omega arith) (omega arith)
