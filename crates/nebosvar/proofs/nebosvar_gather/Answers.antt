-- `nebosvar::nebosvar_gather` meets its contract.
use mathlib.Core.Path.{ap, ◌∙◌}
use Rattle.nebosvar.specs.Packets.{gathered_out}
use Rattle.nebosvar.proofs.nebosvar_gather.Goals as goal

pub returns : goal.returns
returns c = let e = c.gather-gathered.ensures in (c.gathered_out.ensures ∙ ap gathered_out e.0, e.1, e.2)
