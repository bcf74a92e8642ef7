-- `read_decimal` meets its contract. The invariant: what is left is digits where all are, and says after n what all say.
use Prim.Native.Nat.{◌+◌, ◌-◌, ◌*◌, ◌<◌}
use mathlib.Core.Path.{sym, ◌∙◌}
use Rattle.std.proofs.lemmas.Bool.Decides.{nat_tests}
use native.Mathlib.Omega.{arith}
use lib.ListN.{length, drop, get_or}
use Rattle.text.proofs.Laws.Said.{value-from, left-none, other-ends, digit-on, value_on, says-empty, says_other, says-beyond, says-number}
use Rattle.text.proofs.read_decimal.Goals as goal

pub returns-then-is_empty : goal.returns-then-is_empty
returns-then-is_empty c = says-empty _ _ (grind (arith, nat_tests))

pub returns-then-not-is_ascii_digit : goal.returns-then-not-is_ascii_digit
returns-then-not-is_ascii_digit c =
    let l = c.loop-d in
    let s = c.args.digits.now in
    says_other _ s (sym l.invariant.1 ∙ other-ends s l.d-index (omega arith) (c.if-not-is_ascii_digit.ensures.cases))

pub returns-then-most-n : goal.returns-then-most-n
returns-then-most-n c =
    let l = c.loop-d in
    let s = c.args.digits.now in
    let v = value_on s l.d-index (omega arith) l.n in
    let m = value-from (l.n * 10 + (get_or s l.d-index 0 - 48)) (drop (l.d-index + 1) s) in
    says-beyond _ s (omega (arith, m, v, l.invariant.2, c.if-most-n.true))

pub loop-d-preserved : goal.loop-d-preserved
loop-d-preserved c =
    let l = c.loop-d in
    let s = c.args.digits.now in
    let h : l.d-index < length s = omega arith in
    let d = c.if-not-is_ascii_digit.ensures.cases in (
      c.if-most-n.false,
      sym (digit-on s l.d-index h (omega arith) (omega arith)) ∙ l.invariant.1,
      sym (value_on s l.d-index h l.n) ∙ l.invariant.2,
    )

pub returns : goal.returns
returns c =
    let l = c.loop-d in
    let s = c.args.digits.now in
    let e = left-none l.n s l.d-index (omega arith) in
    says-number _ s l.n (grind (arith, nat_tests)) (sym l.invariant.1 ∙ e.0) (sym l.invariant.2 ∙ e.1) l.invariant.0
