-- `nebosvar::nebosvar_list_read` meets its contract.
use mathlib.Core.Path.{ap, ◌∙◌}
use Rattle.nebosvar.specs.Drift.{list_out}
use Rattle.nebosvar.proofs.nebosvar_list_read.Goals as goal

pub returns : goal.returns
returns c = c.list_out.ensures ∙ ap list_out c.read.ensures
