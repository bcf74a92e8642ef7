-- `carousel_messages::body::payload` meets its contract.
use mathlib.Core.Path.{ap, ◌∙◌}
use native.Mathlib.Omega.{arith}
use Prim.Native.Nat.{ℕ, ◌+◌}
use lib.ListN.{drop}
use Rattle.wire.proofs.Laws.Loops.{tail}
use Rattle.carousel_messages.proofs.Laws.Refusals.{no_payload}
use Rattle.carousel_messages.proofs.body.payload.Goals as goal

pub returns-then-b-at : goal.returns-then-b-at
returns-then-b-at c = no_payload c.before.args.b.now (omega arith)

pub returns : goal.returns
returns c =
    let b = c.args.b.now in
    tail b _ ∙ ap (λ (n : ℕ). drop (12 + n) b) c.eight_at-at.ensures.0
