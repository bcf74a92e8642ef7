-- `receiver::table_fate` meets its contract.
use Rattle.std.proofs.Common.{rules, Err}
use mathlib.Core.Path.{◌≡◌, sym, ap, ◌∙◌}
use Rattle.receiver.specs.Run.{judged_fate}
use Rattle.receiver.proofs.table_fate.Goals as goal

pub returns-in_err-judge_by : goal.returns-in_err-judge_by
unfolding judged_fate
returns-in_err-judge_by c =
    let r : c.from_residual.result ≡ Err c.in_err-judge_by.field-0.0 = search rules in
    r ∙ sym (ap judged_fate (sym c.judge_by.ensures ∙ c.in_err-judge_by.was))

pub returns : goal.returns
unfolding judged_fate
returns c = sym (ap judged_fate (sym c.judge_by.ensures ∙ c.in_ok-judge_by.was))
