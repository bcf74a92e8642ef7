-- `ait_read::acceptance::judge` meets its contract: the register that is handed on is the section's own.
use mathlib.Core.Path.{ap, ◌∙◌}
use Rattle.ait_read.specs.Acceptance.{table_judged_by}
use Rattle.ait_read.proofs.acceptance.judge.Goals as goal

pub returns : goal.returns
returns c = c.judge_by.ensures ∙ ap (λ g. table_judged_by g c.args.s.now) c.crc_of.ensures
