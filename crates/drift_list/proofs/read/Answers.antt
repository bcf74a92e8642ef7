-- `drift_list::read` meets its contract.
use mathlib.Core.Path.{◌≡◌, ap, sym, ◌∙◌}
use Rattle.std.proofs.lemmas.Result.{err_from_is_err_and}
use Rattle.std.proofs.Common.{Ok}
use Rattle.drift_list.proofs.Answers.{passed-on, let-on}
use Rattle.drift_list.proofs.Exact.{issue-sixteen, count-sixteen}
use Rattle.wire.specs.Bits.{AllBytes}
use Rattle.drift_list.specs.Reading.{read_refusal}
use Rattle.drift_list.specs.Answers.{heading_of, list_answer}
use Rattle.drift_list.proofs.read.Goals as goal

pub returns-in_err-judge_list : goal.returns-in_err-judge_list
unfolding list_answer
returns-in_err-judge_list c =
    let p = err_from_is_err_and c.from_residual.result c.from_residual.ensures.1 in
    rw (p.1, p.2) (passed-on _ _ tt (heading_of c.args.list.now) c.in_err-judge_list.ensures)

pub returns : goal.returns
unfolding list_answer
returns c =
    let s = c.args.list.now in
    let b : AllBytes s = λ k. (c.shared_slice_known-1.given k).fits in
    let h : heading_of s ≡ record { issue = c.sixteen_at-issue.result; count = c.sixteen_at-count.result } =
    λ i. record { issue = (issue-sixteen s b ∙ sym c.sixteen_at-issue.ensures.0) i; count = (count-sixteen s b ∙ sym c.sixteen_at-count.ensures.0) i } in
    sym (ap Ok h) ∙ let-on (read_refusal s) tt _ (heading_of s) c.in_ok-judge_list.ensures
