-- `nebosvar::nebosvar_list_record` meets its contract.
use mathlib.Core.Path.{ap, ◌∙◌}
use Rattle.nebosvar.specs.Drift.{fix_out}
use Rattle.nebosvar.proofs.nebosvar_list_record.Goals as goal

pub returns : goal.returns
returns c = c.fix_out.ensures ∙ ap fix_out c.record_at.ensures
