-- `carousel_record::marks::is_word_clear` meets its contract: a word has no marks above its 32.
use Prim.Native.Nat.{◌^◌, ◌<◌, ◌≤◌}
use mathlib.Core.Path.{sym}
use native.Mathlib.Nat.{div-eq_of_lt}
use native.Mathlib.Omega.{arith}
use lib.Pow.{pow_mono}
use borrow.Author.Tests.{eq-eqb}
use Rattle.carousel_record.proofs.marks.is_word_clear.Goals as goal

pub returns-then-n-ge32 : goal.returns-then-n-ge32
returns-then-n-ge32 c =
    let p = c.args in
    let l : 2 ^ 32 ≤ 2 ^ p.n = pow_mono c.if-n-ge32.true in
    let f : p.word < 2 ^ p.n = omega arith in
    sym (eq-eqb _ 0 (div-eq_of_lt f))
