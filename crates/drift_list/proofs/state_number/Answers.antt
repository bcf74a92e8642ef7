-- `drift_list::state_number` meets its contract, case by case.
use mathlib.Core.Path.{refl}
use Rattle.drift_list.specs.Values.{state_number}
use Rattle.drift_list.proofs.state_number.Goals as goal

pub returns-in-None : goal.returns-in-None
unfolding state_number
returns-in-None c = rw c.in-None.is refl

pub returns-in-Fix : goal.returns-in-Fix
unfolding state_number
returns-in-Fix c = rw c.in-Fix.is refl

pub returns-in-LastKnown : goal.returns-in-LastKnown
unfolding state_number
returns-in-LastKnown c = rw c.in-LastKnown.is refl
