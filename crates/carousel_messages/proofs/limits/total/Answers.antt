-- `carousel_messages::limits::total` meets its contract: an array has no more than its length.
use mathlib.Core.Path.{ap, ◌∙◌}
use mathlib.Core.List.{List}
use native.Mathlib.Omega.{arith}
use lib.ListN.{length-take}
use Rattle.carousel_messages.specs.declared.Listed.{Listed}
use Rattle.carousel_messages.specs.Limits.{total}
use Rattle.carousel_messages.specs.Heard.{sizes_of}
use Rattle.carousel_messages.proofs.Laws.Limits.{first-used}
use Rattle.carousel_messages.proofs.limits.total.Goals as goal

pub returns : goal.returns
returns c = c.sum.ensures ∙ ap (λ (xs : List Listed). total (sizes_of xs)) (rw c.min.ensures (first-used c.args.ms c.args.n c.well_formed.0.1.0.1))
