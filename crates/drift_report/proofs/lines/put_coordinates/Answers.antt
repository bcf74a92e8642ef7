-- `drift_report::lines::put_coordinates` meets its contract: four pieces, one after another. The coordinates are read back from their bits.
use mathlib.Core.Path.{ap}
use mir.Syntax.{w32}
use mir.ValLaws.{to_z-of_z}
use Rattle.text.specs.Text.{codes}
use Rattle.drift_report.specs.Lines.{signed_decimal}
use Rattle.text.proofs.Laws.Written.{first_as, then, then_as}
use Rattle.drift_report.proofs.lines.put_coordinates.Goals as goal

pub returns : goal.returns
returns c =
    let f = c.args.f in
    let told = c.struct_told-1.given in
    let x = to_z-of_z w32 f.longitude (record { sfits = told.1.1.0.1 }) in
    let y = to_z-of_z w32 f.latitude (record { sfits = told.1.1.1.0.1 }) in
    let p = then (first_as _ (signed_decimal f.longitude) (ap signed_decimal x) c.put_signed-end.ensures) (codes ",") c.put-end.ensures in
    (then (then_as p _ (signed_decimal f.latitude) (ap signed_decimal y) c.put_signed-end-2.ensures) (codes ",") c.put.ensures).puts
