-- `stop_number` meets its contract, case by case.
use Rattle.receiver.specs.Kinds.{stop_number}
use Rattle.receiver.proofs.stop_number.Goals as goal

pub returns-in-End : goal.returns-in-End
unfolding stop_number
returns-in-End c = rw c.in-End.is

pub returns-in-Stuffing : goal.returns-in-Stuffing
unfolding stop_number
returns-in-Stuffing c = rw c.in-Stuffing.is

pub returns-in-Short : goal.returns-in-Short
unfolding stop_number
returns-in-Short c = rw c.in-Short.is

pub returns-in-Budget : goal.returns-in-Budget
unfolding stop_number
returns-in-Budget c = rw c.in-Budget.is

pub returns-in-State : goal.returns-in-State
unfolding stop_number
returns-in-State c = rw c.in-State.is
