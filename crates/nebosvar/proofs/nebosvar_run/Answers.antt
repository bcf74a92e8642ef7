-- `nebosvar::nebosvar_run` meets its contract, the receiver's answer laid out.
use Rattle.nebosvar.specs.Box.{run_out}
use Rattle.nebosvar.proofs.nebosvar_run.Goals as goal

pub returns : goal.returns
unfolding run_out
returns c =
    let e = c.run_in-passage.ensures in
    (rw (c.stop_number.ensures, e.0), e.1, e.2)
