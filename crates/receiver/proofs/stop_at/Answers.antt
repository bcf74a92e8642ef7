-- `receiver::stop_at` meets its contract: the stops in the paper's order.
use mathlib.Core.Path.{sym, ◌∙◌}
use Rattle.wire.proofs.Laws.Sizes.{sized-none, sized-has}
use Rattle.receiver.proofs.Laws.Places.{stop_end, stop_stuffing, stop-short, stop-budget}
use Rattle.receiver.proofs.stop_at.Goals as goal

pub returns-then-s-eq0 : goal.returns-then-s-eq0
returns-then-s-eq0 c = sym (stop_end c.args.s.now c.if-s-eq0.true)

pub returns-then-byte_at-eq-STUFFING : goal.returns-then-byte_at-eq-STUFFING
returns-then-byte_at-eq-STUFFING c =
    let s = c.args.s.now in
    sym (stop_stuffing s c.if-s-eq0.false (sym c.byte_at.ensures.0 ∙ c.if-byte_at-eq-STUFFING.true))

pub returns-in-None : goal.returns-in-None
returns-in-None c =
    sym (stop-short c.args.s.now c.if-s-eq0.false
    (λ f. c.if-byte_at-eq-STUFFING.false (c.byte_at.ensures.0 ∙ f)) (sized-none _ c.in-None.ensures.0))

pub returns-in-Some : goal.returns-in-Some
returns-in-Some c =
    let n = sized-has _ _ c.in-Some.ensures.0 in
    sym (stop-budget c.args.s.now c.if-s-eq0.false
    (λ f. c.if-byte_at-eq-STUFFING.false (c.byte_at.ensures.0 ∙ f))
    (λ f. n.1 (n.0 ∙ f)))
