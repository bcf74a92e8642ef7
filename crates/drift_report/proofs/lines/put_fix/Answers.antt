-- `drift_report::lines::put_fix` meets its contract: five pieces, one after another.
use mathlib.Core.List.{◌++◌}
use Rattle.text.specs.Text.{codes, decimal}
use Rattle.drift_report.specs.Lines.{state_name, signed_decimal, position, week_time, fix_line}
use Rattle.text.proofs.Laws.Written.{first, then, then-four}
use Rattle.drift_report.proofs.lines.put_fix.Goals as goal

pub returns : goal.returns
unfolding fix_line
returns c =
    let f = c.args.f in
    let p = first (decimal f.buoy ++ codes "," ++ state_name f.state ++ codes ",") c.put_named-end.ensures in
    let q = then-four p (signed_decimal f.longitude) (codes ",") (signed_decimal f.latitude) (codes ",") c.put_coordinates-end.ensures in
    let r = then (then q (decimal f.minute) c.put_decimal-end.ensures) (codes ",") c.put-end.ensures in
    (then-four r (position f.state f.longitude f.latitude) (codes ",") (week_time f.minute) (codes "\n") c.put_meant.ensures).puts
