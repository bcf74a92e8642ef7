-- `carousel_messages::body::is_framed` meets its contract.
use mathlib.Core.Path.{ap₂, ◌∙◌}
use native.Mathlib.Omega.{arith}
use lib.Dec.{leb}
use Rattle.carousel_messages.proofs.Laws.Refusals.{uneven, even}
use Rattle.carousel_messages.proofs.body.is_framed.Goals as goal

pub returns-then-n-b : goal.returns-then-n-b
returns-then-n-b c = uneven c.args.b.now (λ e. omega (arith, c.if-n-b.true))

pub returns : goal.returns
returns c = ap₂ leb c.eight_at.ensures.0 c.sixteen_at-n.ensures.0 ∙ even c.args.b.now (omega arith)
