-- `carousel_record::rule::is_running` meets its contract. The invariant: the starts left are the running sums from this sum on just where all are those from 0 on.
use mathlib.Core.Path.{refl, sym, ◌∙◌}
use native.Mathlib.Omega.{arith}
use Rattle.carousel_record.proofs.Laws.Entries.{running-off, running-next, running-done}
use Rattle.carousel_record.proofs.rule.is_running.Goals as goal

pub loop-m-init : goal.loop-m-init
loop-m-init c = (omega arith, refl)

pub returns-then-m-sum : goal.returns-then-m-sum
returns-then-m-sum c = sym (running-off _ c.loop-m.m-index c.loop-m-test.true c.loop-m.sum c.if-m-sum.true) ∙ c.loop-m.invariant.1

pub loop-m-preserved : goal.loop-m-preserved
loop-m-preserved c = (omega arith, running-next _ c.loop-m.m-index c.loop-m-test.true c.loop-m.sum c.if-m-sum.false ∙ c.loop-m.invariant.1)

pub returns : goal.returns
returns c = sym (running-done _ c.loop-m.m-index (omega arith) c.loop-m.sum) ∙ c.loop-m.invariant.1
