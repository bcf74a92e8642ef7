-- `drift_list::given::fields_in` meets its contract.
use Prim.Native.Nat.{◌%◌, ◌^◌}
use mathlib.Core.Path.{ap, ◌∙◌}
use lib.Signed.{mag}
use Rattle.drift_list.specs.Writing.{fix_in}
use Rattle.drift_list.proofs.Laws.Cells.{kept}
use Rattle.drift_list.proofs.given.fields_in.Goals as goal

pub returns : goal.returns
unfolding fix_in
returns c =
    let b = c.magnitude.ensures ∙ ap mag (kept _ _ c.cell_at.ensures) in
    let s = c.magnitude-2.ensures ∙ ap mag (kept _ _ c.cell_at-2.ensures) in
    let x = kept _ _ c.cell_at-3.ensures in
    let y = kept _ _ c.cell_at-4.ensures in
    let m = c.magnitude-3.ensures ∙ ap mag (kept _ _ c.cell_at-5.ensures) in
    λ i. record { buoy = b i; state = s i % 2 ^ 8; longitude = x i; latitude = y i; minute = m i % 2 ^ 16 }
