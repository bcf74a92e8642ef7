-- `nebosvar::drift::fix_out` meets its contract, case by case; the coordinates are read back from their bits.
use mathlib.Core.Path.{sym, ap, ◌∙◌}
use mir.Syntax.{w32}
use mir.ValLaws.{to_z-of_z}
use Rattle.nebosvar.specs.Drift.{fix_out}
use Rattle.nebosvar.proofs.drift.fix_out.Goals as goal

pub returns-in-Err : goal.returns-in-Err
returns-in-Err c = sym (ap fix_out c.in-Err.is)

pub returns-in-Ok : goal.returns-in-Ok
returns-in-Ok c =
    let f = c.in-Ok.fix in
    let x = to_z-of_z w32 f.longitude (record { sfits = c.struct_told-1.given.1.1.0.1 }) in
    let y = to_z-of_z w32 f.latitude (record { sfits = c.struct_told-1.given.1.1.1.0.1 }) in
    (λ i. record { buoy = f.buoy; longitude = x i; latitude = y i; minute = f.minute; state = c.state_number.ensures i; refusal = 0 })
    ∙ sym (ap fix_out c.in-Ok.is)
