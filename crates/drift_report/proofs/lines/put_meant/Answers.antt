-- `drift_report::lines::put_meant` meets its contract: four pieces, one after another. The coordinates are read back from their bits.
use mathlib.Core.Path.{ap₂}
use mir.Syntax.{w32}
use mir.ValLaws.{to_z-of_z}
use Rattle.text.specs.Text.{codes}
use Rattle.drift_report.specs.Lines.{position, week_time}
use Rattle.text.proofs.Laws.Written.{first_as, then}
use Rattle.drift_report.proofs.lines.put_meant.Goals as goal

pub returns : goal.returns
returns c =
    let f = c.args.f in
    let told = c.struct_told-2-1.given in
    let x = to_z-of_z w32 f.longitude (record { sfits = told.1.1.0.1 }) in
    let y = to_z-of_z w32 f.latitude (record { sfits = told.1.1.1.0.1 }) in
    let p = first_as _ (position f.state f.longitude f.latitude) (ap₂ (position f.state) x y) c.put_position-end.ensures in
    let q = then p (codes ",") c.put-end.ensures in
    (then (then q (week_time f.minute) c.put_time-end.ensures) (codes "\n") c.put.ensures).puts
