-- `drift_report::lines::put_position` meets its contract: five pieces, one after another; nothing where the state is "none".
use mathlib.Core.Path.{ap, sym, ◌∙◌}
use lib.IntN.{nat_abs}
use mir.Syntax.{w32}
use mir.ValLaws.{to_z-of_z}
use Rattle.text.specs.Text.{codes}
use Rattle.drift_report.specs.Lines.{angle, side_of, position}
use Rattle.text.proofs.Laws.Written.{first_as, then, then_as, said, nothing}
use Rattle.drift_report.proofs.Laws.Numbers.{kept_abs}
use Rattle.drift_report.proofs.Laws.Lines.{position-none, position_some}
use Rattle.drift_report.proofs.lines.put_position.Goals as goal

pub returns-then-state_number-eq0 : goal.returns-then-state_number-eq0
returns-then-state_number-eq0 c =
    let a = c.args in
    nothing a.out.now a.at (position a.s a.longitude a.latitude) (position-none a.s a.longitude a.latitude (sym c.state_number.ensures ∙ c.if-state_number-eq0.true))

pub returns : goal.returns
returns c =
    let a = c.args in
    let x = a.longitude in
    let y = a.latitude in
    let f = c.ranges in
    let p = first_as _ (angle 2 (nat_abs y)) (ap (angle 2) (kept_abs y f.latitude _ c.unsigned_abs.ensures.value)) c.put_angle-end.ensures in
    let told = c.put_side-end.ensures in
    let q = then_as p _ (side_of (codes " N") (codes " S") y) (ap (side_of (codes " N") (codes " S")) (to_z-of_z w32 y f.latitude)) (told.0, told.1) in
    let r = then q (codes " ") c.put-end.ensures in
    let t = then_as r _ (angle 3 (nat_abs x)) (ap (angle 3) (kept_abs x f.longitude _ c.unsigned_abs-2.ensures.value)) c.put_angle-end-2.ensures in
    let u = then_as t _ (side_of (codes " E") (codes " W") x) (ap (side_of (codes " E") (codes " W")) (to_z-of_z w32 x f.longitude)) c.put_side.ensures in
    said u (position_some a.s x y (λ z. c.if-state_number-eq0.false (c.state_number.ensures ∙ z)))
