-- `carousel_record::marks::is_zero` meets its contract. The invariant: nothing is set in the words so far, taken together, nor in those left, just where all are clear.
use mathlib.Core.Path.{refl, sym, ◌∙◌}
use native.Mathlib.Omega.{arith}
use Rattle.carousel_record.proofs.Laws.Words.{zero-next, zero-done}
use Rattle.carousel_record.proofs.marks.is_zero.Goals as goal

pub loop-w-init : goal.loop-w-init
loop-w-init c = refl

pub loop-w-preserved : goal.loop-w-preserved
loop-w-preserved c =
    let l = c.loop-w in
    zero-next c.args.words.now l.all l.w-index (omega arith) ∙ l.invariant

pub returns : goal.returns
returns c =
    let l = c.loop-w in
    sym (zero-done c.args.words.now l.all l.w-index (omega arith)) ∙ l.invariant
