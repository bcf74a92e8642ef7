-- `nebosvar::nebosvar_list_write` meets its contract.
use mathlib.Core.Path.{ap, ◌∙◌}
use Rattle.nebosvar.specs.Drift.{written_out}
use Rattle.nebosvar.proofs.nebosvar_list_write.Goals as goal

pub returns : goal.returns
returns c = let e = c.write-answer.ensures in (c.written_out.ensures ∙ ap written_out e.0, e.1)
