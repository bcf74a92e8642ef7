-- A record as it is handed out: the coordinates are read back from their bits.
use mir.Syntax.{w32}
use mir.ValLaws.{to_z-of_z}
use Rattle.drift_list.specs.Values.{fix_of}
use Rattle.drift_list.proofs.FixFromFields.from.Goals as goal

pub returns : goal.returns
unfolding fix_of
returns c =
    let f = c.args.f in
    let x = to_z-of_z w32 f.longitude (record { sfits = c.struct_told-1.given.1.1.0.1 }) in
    let y = to_z-of_z w32 f.latitude (record { sfits = c.struct_told-1.given.1.1.1.0.1 }) in
    λ i. record { buoy = f.buoy; state = c.state_of.ensures i; longitude = x i; latitude = y i; minute = f.minute }
