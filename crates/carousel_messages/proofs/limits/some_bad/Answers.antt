-- `carousel_messages::limits::some_bad` meets its contract. The invariant: of the sizes left one is bad just where one of all is.
use mathlib.Core.Path.{refl, sym, ◌∙◌}
use native.Mathlib.Omega.{arith}
use Rattle.carousel_messages.proofs.Laws.Limits.{bad_zero, bad-large, bad-next, bad-done}
use Rattle.carousel_messages.proofs.limits.some_bad.Goals as goal

pub loop-m-init : goal.loop-m-init
loop-m-init c = refl

pub returns-then-m-eq0 : goal.returns-then-m-eq0
returns-then-m-eq0 c = sym (bad_zero _ c.loop-m.m-index c.loop-m-test.true c.args.block_size c.if-m-eq0.true) ∙ c.loop-m.invariant

pub returns-then-most-m : goal.returns-then-most-m
returns-then-most-m c = sym (bad-large _ c.loop-m.m-index c.loop-m-test.true c.args.block_size c.if-m-eq0.false (omega (arith, c.if-most-m.true))) ∙ c.loop-m.invariant

pub loop-m-preserved : goal.loop-m-preserved
loop-m-preserved c = bad-next _ c.loop-m.m-index c.loop-m-test.true c.args.block_size c.if-m-eq0.false (omega (arith, c.if-most-m.false)) ∙ c.loop-m.invariant

pub returns : goal.returns
returns c = sym (bad-done _ c.loop-m.m-index (omega arith) c.args.block_size) ∙ c.loop-m.invariant
