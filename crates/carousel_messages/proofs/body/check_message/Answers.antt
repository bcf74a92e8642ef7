-- `carousel_messages::body::check_message` meets its contract: the order of 7, 8, and 7 again.
use mathlib.Core.Bool.{not}
use mathlib.Core.List.{List}
use mathlib.Core.Path.{sym, ap, ◌∙◌}
use Prim.Native.Nat.{ℕ}
use native.Mathlib.Omega.{arith}
use Rattle.wire.specs.Outcomes.{passed}
use Rattle.carousel_messages.specs.Refusals.{payload_refusal}
use Rattle.carousel_messages.proofs.Laws.Refusals.{is-short, is-8, is_open, is-payload}
use Rattle.carousel_messages.proofs.body.check_message.Goals as goal

pub returns-then-b-lt12 : goal.returns-then-b-lt12
returns-then-b-lt12 c = ap passed (is-short _ _ c.args.b.now (omega arith))

pub returns-then-not-is_message : goal.returns-then-not-is_message
returns-then-not-is_message c = ap passed (is-8 _ _ c.args.b.now (omega arith) (sym c.is_message.ensures ∙ (ap not c.if-not-is_message.true)))

pub returns-then-not-is_framed : goal.returns-then-not-is_framed
returns-then-not-is_framed c = ap passed (is_open _ _ c.args.b.now (omega arith) (sym c.is_message.ensures
    ∙ (ap not c.if-not-is_message.false)) (sym c.is_framed.ensures ∙ c.if-not-is_framed.true))

pub returns : goal.returns
returns c =
    c.check_payload.ensures
    ∙ ap (λ (p : List ℕ). passed (payload_refusal c.args.table c.args.h p)) c.payload.ensures
    ∙ ap passed (is-payload _ _ c.args.b.now (omega arith)
    (sym c.is_message.ensures ∙ (ap not c.if-not-is_message.false))
    (sym c.is_framed.ensures ∙ c.if-not-is_framed.false))
