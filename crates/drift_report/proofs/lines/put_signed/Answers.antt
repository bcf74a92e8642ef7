-- `drift_report::lines::put_signed` meets its contract.
use mathlib.Core.Path.{◌∙◌, ap}
use lib.IntN.{nat_abs}
use Rattle.text.specs.Text.{codes, decimal}
use Rattle.wire.proofs.Laws.Signed.{below-told, above-told}
use Rattle.text.proofs.Laws.Written.{first, then_as, said}
use Rattle.drift_report.proofs.Laws.Numbers.{kept_abs, below-decimal, above-decimal}
use Rattle.drift_report.proofs.lines.put_signed.Goals as goal

pub returns-then-z-lt0 : goal.returns-then-z-lt0
returns-then-z-lt0 c =
    let z = c.args.z in
    let w = then_as (first (codes "-") c.put-end.ensures) _ (decimal (nat_abs z)) (ap decimal (kept_abs z c.ranges.z _ c.unsigned_abs.ensures.value)) c.put_decimal.ensures in
    said w (below-decimal z (below-told z c.ranges.z c.if-z-lt0.true))

pub returns : goal.returns
returns c =
    let z = c.args.z in
    said (first _ c.put_decimal-2.ensures) (ap decimal (kept_abs z c.ranges.z _ c.unsigned_abs-2.ensures.value) ∙ above-decimal z (above-told z c.ranges.z c.if-z-lt0.false))
