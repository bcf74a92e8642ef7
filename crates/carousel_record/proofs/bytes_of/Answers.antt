-- `carousel_record::bytes_of` meets its contract: the entries in use are those that the record says.
use mathlib.Core.Path.{ap, ◌∙◌}
use mathlib.Core.List.{List}
use Rattle.carousel_messages.specs.declared.Listed.{Listed}
use Rattle.carousel_messages.specs.Limits as limits
use Rattle.carousel_messages.specs.Heard.{sizes_of}
use Rattle.carousel_record.proofs.Laws.Entries.{said-by}
use Rattle.carousel_record.proofs.bytes_of.Goals as goal

pub returns : goal.returns
returns c =
    c.total.ensures ∙ ap (λ (ms : List Listed). limits.total (sizes_of ms)) (said-by c.args.c _ c.listed.ensures)
