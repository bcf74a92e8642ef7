-- `transport::judge::is_repeat` meets its contract: other counters, or byte for byte.
use mathlib.Core.Path.{sym, ◌∙◌}
use borrow.Author.Tests.{ne_eqb}
use Rattle.transport.proofs.Laws.Judged.{differ-at}
use Rattle.transport.proofs.judge.is_repeat.Goals as goal

pub returns-else-byte_at : goal.returns-else-byte_at
returns-else-byte_at c =
    ne_eqb _ _ c.if-byte_at.false ∙ sym (differ-at 3 _ _ (λ e. c.if-byte_at.false (c.byte_at.ensures.0 ∙ e ∙ sym c.byte_at-2.ensures.0)))
