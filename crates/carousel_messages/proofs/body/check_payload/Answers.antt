-- `carousel_messages::body::check_payload` meets its contract.
use mathlib.Core.Path.{sym, ap, ◌∙◌}
use Rattle.wire.specs.Outcomes.{passed}
use Rattle.carousel_messages.specs.declared.CarouselTable.{CarouselTable}
use Rattle.carousel_messages.specs.Refusals.{payload_refusal}
use Rattle.carousel_messages.proofs.body.check_payload.Goals as goal

pub returns-in-Announcements : goal.returns-in-Announcements
returns-in-Announcements c =
    c.check_announcement.ensures ∙ ap (λ (t : CarouselTable). passed (payload_refusal t c.args.h c.args.p.now)) (sym c.in-Announcements.is)

pub returns-in-Blocks : goal.returns-in-Blocks
returns-in-Blocks c = c.check_block.ensures ∙ ap (λ (t : CarouselTable). passed (payload_refusal t c.args.h c.args.p.now)) (sym c.in-Blocks.is)
