-- `drift_list::judge::state_fault` meets its contract.
use native.Mathlib.Omega.{arith}
use Rattle.std.proofs.lemmas.Bool.Decides.{nat_tests}
use Rattle.drift_list.specs.Values.{state_fault}
use Rattle.drift_list.proofs.judge.state_fault.Goals as goal

pub returns-then-state-ge3 : goal.returns-then-state-ge3
unfolding state_fault
returns-then-state-ge3 c = grind (arith, nat_tests)

pub returns-else-state-ge3 : goal.returns-else-state-ge3
unfolding state_fault
returns-else-state-ge3 c = grind (arith, nat_tests)
