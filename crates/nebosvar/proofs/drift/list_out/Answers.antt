-- `nebosvar::drift::list_out` meets its contract, case by case.
use mathlib.Core.Path.{sym, ap}
use Rattle.nebosvar.specs.Drift.{list_out}
use Rattle.nebosvar.proofs.drift.list_out.Goals as goal

pub returns-in-Err : goal.returns-in-Err
returns-in-Err c = sym (ap list_out c.in-Err.is)

pub returns-in-Ok : goal.returns-in-Ok
returns-in-Ok c = sym (ap list_out c.in-Ok.is)
