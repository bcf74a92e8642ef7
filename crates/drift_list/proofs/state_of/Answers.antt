-- `drift_list::state_of` meets its contract.
use native.Mathlib.Omega.{arith}
use Rattle.std.proofs.lemmas.Bool.Decides.{nat_tests}
use Rattle.drift_list.specs.Values.{state_of}
use Rattle.drift_list.proofs.state_of.Goals as goal

pub returns-in-0 : goal.returns-in-0
unfolding state_of
returns-in-0 c = grind (arith, nat_tests)

pub returns-in-1 : goal.returns-in-1
unfolding state_of
returns-in-1 c = grind (arith, nat_tests)

pub returns-in_default : goal.returns-in_default
unfolding state_of
returns-in_default c = let w = c.in_default in grind (arith, nat_tests)
