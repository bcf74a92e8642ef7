-- `receiver::carousel_fate` meets its contract.
use Rattle.std.proofs.Common.{rules, Err}
use mathlib.Core.Path.{◌≡◌, sym, ap, ◌∙◌}
use Rattle.receiver.specs.Run.{carousel_fate}
use Rattle.receiver.proofs.carousel_fate.Goals as goal

pub returns-in_err-a : goal.returns-in_err-a
unfolding carousel_fate
returns-in_err-a c =
    let r : c.from_residual.result ≡ Err c.in_err-a.field-0.0 = search rules in
    r ∙ sym (ap carousel_fate c.in_err-a.was)

pub returns : goal.returns
unfolding carousel_fate
returns c = sym (ap carousel_fate c.in_ok-a.was)
