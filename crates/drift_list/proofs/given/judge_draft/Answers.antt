-- `drift_list::given::judge_draft` meets its contract: one law of Writer for each way.
use Rattle.std.proofs.lemmas.Result.{err_from_is_err_and}
use mathlib.Core.Path.{refl, sym, ap, ◌∙◌}
use Rattle.wire.specs.Outcomes.{passed}
use Rattle.wire.proofs.Laws.Outcomes.{refused_by_lem, not_refused}
use Rattle.drift_list.proofs.Answers.{refused-with}
use native.Mathlib.Omega.{arith}
use Rattle.drift_list.specs.Writing.{draft}
use Rattle.drift_list.proofs.Writer.{is36-issue, is36-count, is36-number, is-width, is_fault, is37, is0}
use Rattle.drift_list.proofs.given.judge_draft.Goals as goal
use Rattle.drift_list.proofs.given.judge_draft.Goals.{then-issue-ge65536-via-then-issue-ge65536, then-issue-ge65536-via-else-issue-ge65536+then-count-ge65536}
use Rattle.drift_list.proofs.given.judge_draft.Goals.{then-issue-ge65536-via-else-issue-ge65536+else-count-ge65536+then-numbers-c}

pub returns-then-issue-ge65536 : goal.returns-then-issue-ge65536
returns-then-issue-ge65536 c =
    let a = c.args in
    let d = draft a.issue a.count a.numbers.now in
    ap passed (elim c.then-issue-ge65536.branch [
      | then-issue-ge65536-via-then-issue-ge65536 w ↦ is36-issue d a.room w.if-issue-ge65536.true
      | then-issue-ge65536-via-else-issue-ge65536+then-count-ge65536 w ↦ is36-count d a.room w.if-count-ge65536.true
      | then-issue-ge65536-via-else-issue-ge65536+else-count-ge65536+then-numbers-c w ↦ is36-number d a.room w.if-numbers-c.true
    ])

pub returns-in_err-judge_widths : goal.returns-in_err-judge_widths
returns-in_err-judge_widths c =
    let p = err_from_is_err_and c.from_residual.result c.from_residual.ensures.1 in
    let w = refused_by_lem _ _ tt c.in_err-judge_widths.ensures in
    rw (p.1, p.2) (refused-with _ _ tt (is-width (draft c.args.issue c.args.count c.args.numbers.now) c.args.room c.if-issue-ge65536.false c.if-count-ge65536.false
    c.if-numbers-c.false _ w.0 (λ z. w.1 (sym w.0 ∙ z))) (λ z. w.1 (sym w.0 ∙ z)))

pub returns-in_err-judge_records : goal.returns-in_err-judge_records
returns-in_err-judge_records c =
    let r = c.from_residual-in_err-judge_records in
    let p = err_from_is_err_and r.result r.ensures.1 in
    let w = refused_by_lem _ _ tt c.in_err-judge_records.ensures in
    rw (p.1, p.2) (refused-with _ _ tt (is_fault (draft c.args.issue c.args.count c.args.numbers.now) c.args.room c.if-issue-ge65536.false c.if-count-ge65536.false
    c.if-numbers-c.false _ _ refl (not_refused _ tt _ c.in_ok-judge_widths.ensures) w.0 (λ z. w.1 (sym w.0 ∙ z))) (λ z. w.1 (sym w.0 ∙ z)))

pub returns-then-room-size : goal.returns-then-room-size
returns-then-room-size c =
    ap passed (is37 (draft c.args.issue c.args.count c.args.numbers.now) c.args.room c.if-issue-ge65536.false c.if-count-ge65536.false
    c.if-numbers-c.false _ _ refl (not_refused _ tt _ c.in_ok-judge_widths.ensures) refl (not_refused _ tt _ c.in_ok-judge_records.ensures) c.if-room-size.true)

pub returns : goal.returns
returns c =
    ap passed (is0 (draft c.args.issue c.args.count c.args.numbers.now) c.args.room c.if-issue-ge65536.false c.if-count-ge65536.false
    c.if-numbers-c.false _ _ refl (not_refused _ tt _ c.in_ok-judge_widths.ensures) refl (not_refused _ tt _ c.in_ok-judge_records.ensures) (omega arith))
