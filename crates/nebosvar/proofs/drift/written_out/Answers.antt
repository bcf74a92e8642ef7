-- `nebosvar::drift::written_out` meets its contract, case by case.
use mathlib.Core.Path.{sym, ap}
use Rattle.nebosvar.specs.Drift.{written_out}
use Rattle.nebosvar.proofs.drift.written_out.Goals as goal

pub returns-in-Err : goal.returns-in-Err
returns-in-Err c = sym (ap written_out c.in-Err.is)

pub returns-in-Ok : goal.returns-in-Ok
returns-in-Ok c = sym (ap written_out c.in-Ok.is)
