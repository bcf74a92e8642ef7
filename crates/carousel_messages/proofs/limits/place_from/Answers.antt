-- `carousel_messages::limits::place_from` meets its contract. The invariant: the place of the number among those left, from here on, is the same as at the start.
use Prim.Native.Nat.{ℕ, ◌+◌}
use mathlib.Core.Path.{◌≡◌, refl, ap, ◌∙◌}
use native.Mathlib.Omega.{arith}
use lib.ListN.{length, drop}
use Rattle.std.proofs.Common.{Some}
use Rattle.carousel_messages.specs.Heard.{place_in, found}
use Rattle.carousel_messages.proofs.Laws.Limits.{place_hit, place-next, place-done, found-at, found-none}
use Rattle.carousel_messages.proofs.limits.place_from.Goals as goal

pub loop-i-init : goal.loop-i-init
loop-i-init c = refl

pub returns-then-modules-i : goal.returns-then-modules-i
returns-then-modules-i c =
    let a = c.args in
    let e = place_hit a.modules.now c.loop-i.i c.loop-i-test.true a.number c.if-modules-i.true in
    let p : c.loop-i.i ≡ a.from + place_in a.number (drop a.from a.modules.now) = omega arith in
    ap Some p ∙ found-at _ _ (omega arith)

pub loop-i-preserved : goal.loop-i-preserved
loop-i-preserved c =
    let a = c.args in
    let e = place-next a.modules.now c.loop-i.i c.loop-i-test.true a.number c.if-modules-i.false in
    omega arith

pub returns : goal.returns
returns c =
    let a = c.args in
    let e = place-done a.modules.now c.loop-i.i (omega arith) a.number in
    found-none _ _ (omega arith)
