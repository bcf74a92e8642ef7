-- `carousel_handout::handout` meets its contract: the part that `handout_place` names, an empty one of a refusal.
use Prim.Native.Nat.{◌+◌, ◌-◌}
use mathlib.Core.Path.{◌≡◌, sym, ap, ◌∙◌}
use native.Mathlib.Omega.{arith}
use Rattle.carousel_handout.specs.Calls.{lent}
use Rattle.carousel_handout.proofs.handout.Goals as goal

pub returns-in_default : goal.returns-in_default
returns-in_default c = sym (ap (λ h. lent h c.args.image.now) c.in_default.is) ∙ c.handout_place.ensures.2

pub returns : goal.returns
returns c =
    let p = c.in-Ok.p in
    let n : p.start + p.size - p.start ≡ p.size = omega arith in
    rw n (sym (ap (λ h. lent h c.args.image.now) c.in-Ok.is) ∙ c.handout_place.ensures.2)
