-- `drift_report::put_module` meets its contract, by whether the module is handed out.
use Prim.Native.Nat.{ℕ, ◌+◌, ◌-◌}
use mathlib.Core.Path.{◌≡◌, refl, ap, ◌∙◌}
use native.Mathlib.Omega.{arith}
use lib.ListN.{take, drop}
use Rattle.std.proofs.Common.{Ok, Err}
use Rattle.drift_report.specs.Lines.{list_text}
use Rattle.text.proofs.Laws.Written.{first, said}
use Rattle.drift_report.proofs.Laws.Pages.{place-number, place-refused, module-refused, module-listed}
use Rattle.drift_report.proofs.put_module.Goals as goal

pub returns-in-Ok : goal.returns-in-Ok
returns-in-Ok c =
    let a = c.args in
    let image = a.image.now in
    let p = c.in-Ok.part in
    let n = place-number a.c image a.number (Ok p) c.in-Ok.ensures.0 in
    let size : p.start + p.size - p.start ≡ p.size = omega arith in
    let part = ap (λ (m : ℕ). take m (drop p.start image)) size ∙ c.in-Ok.ensures.2 in
    said (first _ c.put_list.ensures) (ap list_text part ∙ module-listed a.c image a.number 0 n refl)

pub returns-in-Err : goal.returns-in-Err
returns-in-Err c =
    let a = c.args in
    let image = a.image.now in
    let r = c.in-Err.refusal in
    said (first _ c.put_refused.ensures)
    (module-refused a.c image a.number r.number (place-number a.c image a.number (Err r) c.in-Err.ensures.0) (place-refused a.c image a.number r c.in-Err.ensures.0))
