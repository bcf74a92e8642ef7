-- `nebosvar::nebosvar_write_packets` meets its contract.
use mathlib.Core.Path.{ap, ◌∙◌}
use Rattle.nebosvar.specs.Packets.{packed_out}
use Rattle.nebosvar.proofs.nebosvar_write_packets.Goals as goal

pub returns : goal.returns
returns c = let e = c.write_packets-packed.ensures in (c.packed_out.ensures ∙ ap packed_out e.0, e.1)
