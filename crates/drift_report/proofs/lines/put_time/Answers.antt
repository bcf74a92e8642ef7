-- `drift_report::lines::put_time` meets its contract: five pieces, one after another.
use Prim.Native.Nat.{◌/◌, ◌%◌}
use Rattle.text.specs.Text.{codes, decimal}
use Rattle.drift_report.specs.Lines.{padded}
use Rattle.text.proofs.Laws.Written.{first, then}
use Rattle.drift_report.proofs.lines.put_time.Goals as goal

pub returns : goal.returns
returns c =
    let m = c.args.minute in
    let p = first (decimal (m / 1440)) c.put_decimal-end.ensures in
    let q = then p (codes " ") c.put-end.ensures in
    let r = then q (padded 2 (m % 1440 / 60)) c.put_padded-end.ensures in
    let s = then r (codes ":") c.put-end-2.ensures in
    let told = c.put_padded.ensures in
    (then s (padded 2 (m % 60)) (told.0, told.1)).puts
