-- `carousel_play::section_count` meets its contract.
use mathlib.Core.Path.{◌≡◌, sym, ap, ◌∙◌}
use Rattle.std.proofs.Common.{Ok, Err, rules}
use Rattle.wire.proofs.Laws.Outcomes.{not_refused}
use Rattle.carousel_play.specs.Calls.{limit_refusal}
use Rattle.carousel_play.proofs.Laws.Refusals.{kept, count-refused, count-told}
use Rattle.carousel_play.proofs.section_count.Goals as goal
use Rattle.carousel_play.proofs.section_count.Goals.{In_ok-judge_limits}

-- nothing refuses it
none : (c : In_ok-judge_limits) → limit_refusal c.args.p ≡ 0
none c = not_refused _ tt _ (sym c.in_ok-judge_limits.was ∙ c.judge_limits.ensures)

pub returns-in_err-judge_limits : goal.returns-in_err-judge_limits
returns-in_err-judge_limits c =
    let r : c.from_residual.result ≡ Err c.in_err-judge_limits.field-0.0 = search rules in
    r ∙ count-refused _ _ (sym c.in_err-judge_limits.was ∙ c.judge_limits.ensures)

pub sections_in-requires : goal.sections_in-requires
sections_in-requires c = (kept _ (none (goal.at.sections_in-requires c).In_ok-judge_limits)).0

pub returns : goal.returns
returns c = ap Ok c.sections_in.ensures ∙ count-told _ (none (goal.at.returns c).In_ok-judge_limits)
