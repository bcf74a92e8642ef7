-- `carousel_messages::body::judge_message` meets its contract.
use mathlib.Core.Path.{◌≡◌, sym, ap, ◌∙◌}
use Rattle.std.proofs.Common.{Ok, Err, Result}
use Prim.Native.Nat.{ℕ}
use Rattle.section.specs.Answer.{refused}
use Rattle.wire.specs.Outcomes.{passed}
use Rattle.wire.proofs.Laws.Outcomes.{refused_by_lem, not_refused}
use Rattle.carousel_messages.specs.declared.CarouselTable.{CarouselTable}
use Rattle.carousel_messages.specs.declared.Announcement.{Announcement}
use Rattle.carousel_messages.specs.declared.Block.{Block}
use Rattle.carousel_messages.specs.declared.Message.TheVariants.{Announced, Carried}
use Rattle.carousel_messages.specs.Refusals.{message_refusal}
use Rattle.carousel_messages.specs.Judged.{carousel_table_of}
use Rattle.carousel_messages.proofs.Laws.Refusals.{judged_bad, judged-good, read-announced, read-carried}
use Rattle.carousel_messages.proofs.body.judge_message.Goals as goal
use Rattle.carousel_messages.proofs.body.judge_message.Goals.{After-check_message, In_default}

-- what the calls answered
checked : (c : After-check_message) → c.check_message.result ≡ passed (message_refusal (carousel_table_of c.args.h.table) c.args.h c.args.b.now)
checked c = c.check_message.ensures ∙ ap (λ (t : CarouselTable). passed (message_refusal t c.args.h c.args.b.now)) c.table_of-table.ensures

good : (c : In_default) → message_refusal (carousel_table_of c.args.h.table) c.args.h c.args.b.now ≡ 0
good c = not_refused _ tt tt (sym c.in_default.is ∙ checked (goal.at.In_default c).After-check_message)

pub returns-in-Err : goal.returns-in-Err
returns-in-Err c =
    let n = refused_by_lem _ _ tt (sym c.in-Err.is ∙ checked (goal.at.returns-in-Err c).After-check_message) in
    ap (λ (n : ℕ). Err (refused n)) n.0 ∙ judged_bad _ _ _ n.1

pub returns-in-Announcements : goal.returns-in-Announcements
returns-in-Announcements c =
    ap (λ (a : Announcement). Ok (Announced a)) c.announcement_of.ensures ∙ read-announced _ _ (sym c.table_of-table.ensures ∙ c.in-Announcements.is)
    ∙ judged-good _ _ _ (good (goal.at.returns-in-Announcements c).In_default)

pub returns-in-Blocks : goal.returns-in-Blocks
returns-in-Blocks c =
    ap (λ (b : Block). Ok (Carried b)) c.block_of.ensures ∙ read-carried _ _ (sym c.table_of-table.ensures ∙ c.in-Blocks.is)
    ∙ judged-good _ _ _ (good (goal.at.returns-in-Blocks c).In_default)
