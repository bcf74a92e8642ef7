-- `wire::twelve_at` meets its contract: a mask of twelve ones leaves the twelve low bits.
use mathlib.Core.Path.{ap, ◌∙◌}
use lib.Bits.{mask_lt}
use Rattle.wire.specs.Fields.{bits}
use Rattle.wire.proofs.Laws.Fields.{masked_low}
use Rattle.wire.proofs.twelve_at.Goals as goal

pub returns : goal.returns
returns c = (masked_low 12 _ ∙ ap (bits 0 12) c.sixteen_at.ensures.0, mask_lt c.sixteen_at.result 12)
