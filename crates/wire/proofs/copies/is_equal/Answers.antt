-- `wire::copies::is_equal` meets its contract. The invariant: no bit differs so far, and what is left is the same, just where all is.
use mathlib.Core.Path.{refl, sym, ◌∙◌}
use native.Mathlib.Omega.{arith}
use Rattle.wire.proofs.Laws.Copies.{bytes_lengths, mixed-next, mixed-done}
use Rattle.wire.proofs.copies.is_equal.Goals as goal

pub returns-then-a-b : goal.returns-then-a-b
returns-then-a-b c = sym (bytes_lengths _ _ c.if-a-b.true)

pub loop-i-init : goal.loop-i-init
loop-i-init c = (omega arith, c.if-a-b.false, refl)

pub loop-i-preserved : goal.loop-i-preserved
loop-i-preserved c =
    let a = c.args in
    let l = c.loop-i in
    (omega arith, l.invariant.1, mixed-next a.a.now a.b.now l.i l.all (omega arith) (omega arith) ∙ l.invariant.2)

pub returns : goal.returns
returns c =
    let a = c.args in
    let l = c.loop-i in
    sym (mixed-done a.a.now a.b.now l.i l.all (omega arith) (omega arith)) ∙ l.invariant.2
