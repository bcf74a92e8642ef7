-- `carousel_play::refusals::judge_before` meets its contract.
use mathlib.Core.Path.{◌≡◌, sym, ap, ◌∙◌}
use native.Mathlib.Omega.{arith}
use Rattle.std.proofs.Common.{Err, rules}
use Rattle.wire.specs.Outcomes.{passed}
use Rattle.wire.proofs.Laws.Outcomes.{not_refused}
use Rattle.carousel_record.specs.Record.{bytes_of}
use Rattle.carousel_play.specs.Calls.{to_play, limit_refusal}
use Rattle.carousel_play.proofs.Laws.Refusals.{limits-first, short-image, whole-image}
use Rattle.carousel_play.proofs.refusals.judge_before.Goals as goal
use Rattle.carousel_play.proofs.refusals.judge_before.Goals.{After-total, In_ok-judge_limits}

pub returns-in_err-judge_limits : goal.returns-in_err-judge_limits
returns-in_err-judge_limits c =
    let r : c.from_residual.result ≡ Err c.in_err-judge_limits.field-0.0 = search rules in
    r ∙ limits-first _ _ _ (sym c.in_err-judge_limits.was ∙ c.judge_limits.ensures)

no-limit : (c : In_ok-judge_limits) → limit_refusal c.args.p ≡ 0
no-limit c = not_refused _ tt _ (sym c.in_ok-judge_limits.was ∙ c.judge_limits.ensures)

sizes : (c : After-total) → c.total.result ≡ bytes_of (to_play c.args.p)
unfolding to_play
sizes c = c.total.ensures

pub returns-then-length-total : goal.returns-then-length-total
returns-then-length-total c = let e = sizes (goal.at.returns-then-length-total c).After-total in ap passed (short-image _ _ (no-limit (goal.at.returns-then-length-total c).In_ok-judge_limits) (omega
    (arith, c.if-length-total.true)))

pub returns : goal.returns
returns c =
    let e = sizes (goal.at.returns c).After-total in
    ap passed (whole-image _ _ (no-limit (goal.at.returns c).In_ok-judge_limits) (omega (arith, c.if-length-total.false)))
