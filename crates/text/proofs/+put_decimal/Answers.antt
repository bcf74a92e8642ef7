-- `put_decimal` meets its contract: the digits of a tenth, and then the last.
use native.Mathlib.Omega.{arith}
use mathlib.Core.Path.{sym}
use Prim.Native.Nat.{◌/◌, ◌%◌}
use mathlib.Core.List.{[], ◌∷◌}
use Rattle.text.specs.Text.{digit, decimal}
use Rattle.text.proofs.Laws.Puts.{puts_then, puts-same}
use Rattle.text.proofs.Laws.Digits.{decimal-one, decimal-more}
use Rattle.text.proofs.+put_decimal.Goals as goal

pub returns-then-n-lt10 : goal.returns-then-n-lt10
returns-then-n-lt10 t c =
    let a = c.args in
    puts-same a.out.now a.at _ _ _ _ (sym (decimal-one a.n (omega arith))) c.put_byte.ensures

pub returns : goal.returns
returns t c =
    let a = c.args in
    let p = puts_then a.out.now a.at (decimal (a.n / 10)) (digit (a.n % 10) ∷ []) _ _ _ _ c.put_decimal-next.ensures c.put_byte-2.ensures in
    puts-same a.out.now a.at _ _ _ _ (sym (decimal-more a.n c.ranges.n.fits (omega arith))) p
