-- `carousel_messages::modules::module_count` meets its contract.
use mathlib.Core.Path.{◌≡◌, ap, ◌∙◌}
use native.Mathlib.Omega.{arith}
use Prim.Native.Nat.{◌+◌, ◌-◌}
use Rattle.wire.specs.Fields.{sixteen_at}
use Rattle.carousel_messages.specs.Contents.{compatibility_of}
use Rattle.carousel_messages.proofs.modules.module_count.Goals as goal

pub returns : goal.returns
returns c =
    let p = c.args.p.now in
    let i : c.modules_start.result - 2 ≡ 18 + compatibility_of p = omega (arith, c.modules_start.ensures.0) in
    (c.sixteen_at.ensures.0 ∙ ap (sixteen_at p) i, c.sixteen_at.ensures.1)
