-- `drift_report::lines::put_side` meets its contract.
use Rattle.wire.proofs.Laws.Signed.{below-told, above-told}
use Rattle.text.proofs.Laws.Written.{first, said}
use Rattle.drift_report.proofs.Laws.Numbers.{below_side, above_side}
use Rattle.drift_report.proofs.lines.put_side.Goals as goal

pub returns-then-z-lt0 : goal.returns-then-z-lt0
returns-then-z-lt0 c =
    let z = c.args.z in
    said (first _ c.put.ensures) (below_side z c.args.from.now c.args.below.now (below-told z c.ranges.z c.if-z-lt0.true))

pub returns : goal.returns
returns c =
    let z = c.args.z in
    said (first _ c.put-2.ensures) (above_side z c.args.from.now c.args.below.now (above-told z c.ranges.z c.if-z-lt0.false))
