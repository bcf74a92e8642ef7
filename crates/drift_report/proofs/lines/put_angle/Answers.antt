-- `drift_report::lines::put_angle` meets its contract: five pieces, one after another.
use Prim.Native.Nat.{◌/◌, ◌%◌}
use Rattle.text.specs.Text.{codes}
use Rattle.drift_report.specs.Lines.{padded}
use Rattle.text.proofs.Laws.Written.{first, then}
use Rattle.drift_report.proofs.lines.put_angle.Goals as goal

pub returns : goal.returns
returns c =
    let a = c.args in
    let p = first (padded a.width (a.a / 600000)) c.put_padded-end.ensures in
    let q = then p (codes " ") c.put-end.ensures in
    let r = then q (padded 2 (a.a % 600000 / 10000)) c.put_padded-end-2.ensures in
    let s = then r (codes ".") c.put-end-2.ensures in
    (then s (padded 4 (a.a % 10000)) c.put_padded.ensures).puts
