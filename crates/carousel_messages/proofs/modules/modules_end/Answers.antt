-- `carousel_messages::modules::modules_end` meets its contract.
use mathlib.Core.Path.{◌∙◌}
use native.Mathlib.Omega.{arith}
use Rattle.carousel_messages.proofs.Laws.Listed.{ends-sized}
use Rattle.carousel_messages.proofs.modules.modules_end.Goals as goal

pub returns : goal.returns
returns c = c.measured_end.ensures ∙ rw (c.module_count.ensures.0, c.modules_start.ensures.0) (ends-sized _ _ _ (omega arith))
