-- `nebosvar::nebosvar_step` meets its contract, the carousel's answer laid out.
use Rattle.nebosvar.specs.Box.{step_out}
use Rattle.nebosvar.proofs.nebosvar_step.Goals as goal

pub returns : goal.returns
unfolding step_out
returns c =
    let e = c.step_in.ensures in
    (rw (c.fate_out.ensures, c.carousel_fate.ensures, e.0), e.1, e.2)
