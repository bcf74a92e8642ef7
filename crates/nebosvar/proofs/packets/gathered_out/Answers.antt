-- `nebosvar::packets::gathered_out` meets its contract: number by number.
use mathlib.Core.Path.{sym, ap}
use Rattle.nebosvar.specs.Packets.{gathered_out}
use Rattle.nebosvar.proofs.packets.gathered_out.Goals as goal

pub returns-in-Ok : goal.returns-in-Ok
unfolding gathered_out
returns-in-Ok c = sym (ap gathered_out c.in-Ok.is)

pub returns-in-Err : goal.returns-in-Err
unfolding gathered_out
returns-in-Err c = sym (ap gathered_out c.in-Err.is)
