-- `nebosvar::nebosvar_take` meets its contract, the receiver's answer laid out.
use Rattle.nebosvar.specs.Box.{take_out}
use Rattle.nebosvar.proofs.nebosvar_take.Goals as goal

pub returns : goal.returns
unfolding take_out
returns c =
    let e = c.take-took.ensures in
    (rw (c.what_out.ensures, e.0), rw e.0, e.1)
