-- `section::whole_at` meets its contract: three reasons for none, and else what is said.
use mathlib.Core.Path.{sym, ap, ◌∙◌}
use native.Mathlib.Omega.{arith}
use Prim.Native.Nat.{◌+◌}
use Rattle.wire.specs.Items.{sized}
use Rattle.wire.proofs.Laws.Sizes.{sized-some}
use Rattle.section.proofs.Laws.Whole.{whole-few, whole_stuffing, whole-short, whole_is}
use Rattle.section.proofs.whole_at.Goals as goal

pub returns-then-s-lt-UP_TO_LENGTH : goal.returns-then-s-lt-UP_TO_LENGTH
returns-then-s-lt-UP_TO_LENGTH c = (ap sized (sym (whole-few c.args.s.now c.if-s-lt-UP_TO_LENGTH.true)), tt)

pub returns-then-byte_at-eq-STUFFING : goal.returns-then-byte_at-eq-STUFFING
returns-then-byte_at-eq-STUFFING c =
    (ap sized (sym (whole_stuffing c.args.s.now (sym c.byte_at.ensures.0 ∙ c.if-byte_at-eq-STUFFING.true))), tt)

pub returns-then-s-n : goal.returns-then-s-n
returns-then-s-n c =
    let e = c.twelve_at-n.ensures.0 in
    (ap sized (sym (whole-short c.args.s.now c.if-s-lt-UP_TO_LENGTH.false (omega arith))), tt)

pub returns : goal.returns
returns c =
    let e = c.twelve_at-n.ensures.0 in
    let n = whole_is c.args.s.now c.if-s-lt-UP_TO_LENGTH.false (λ f. c.if-byte_at-eq-STUFFING.false (c.byte_at.ensures.0 ∙ f)) (omega arith) in
    (sized-some (3 + c.twelve_at-n.result) (omega arith) ∙ ap sized (omega arith), omega arith)
