-- `carousel_messages::judge` meets its contract: the register that is handed on is the section's own.
use mathlib.Core.Path.{ap, ◌∙◌}
use Rattle.carousel_messages.specs.Judged.{judged_by, number_of_judged}
use Rattle.carousel_messages.proofs.Exact.{all_tests}
use Rattle.carousel_messages.proofs.judge.Goals as goal

pub returns : goal.returns
returns c =
    let s = c.args.s.now in
    let e = c.judge_by.ensures ∙ ap (λ g. judged_by g s) c.crc.ensures in
    (e, ap number_of_judged e ∙ all_tests s)
