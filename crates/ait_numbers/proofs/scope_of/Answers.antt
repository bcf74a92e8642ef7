-- `ait_numbers::scope_of` meets its contract, case by case.
use mathlib.Core.Path.{refl}
use borrow.Author.Tests.{eq-eqb, ne_eqb}
use Rattle.ait_numbers.proofs.scope_of.Goals as goal

pub returns-then-i-eq-COMMON : goal.returns-then-i-eq-COMMON
returns-then-i-eq-COMMON c = rw (eq-eqb c.args.i 0xFFFFFFFFFFFFFFFF c.if-i-eq-COMMON.true) refl

pub returns : goal.returns
returns c = rw (ne_eqb c.args.i 0xFFFFFFFFFFFFFFFF c.if-i-eq-COMMON.false) refl
