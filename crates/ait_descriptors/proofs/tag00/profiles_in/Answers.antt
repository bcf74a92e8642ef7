-- `ait_descriptors::tag00::profiles_in` meets its contract.
use Prim.Native.Nat.{ℕ}
use mathlib.Core.Path.{ap, ◌∙◌}
use native.Mathlib.Omega.{arith}
use Rattle.wire.specs.Places.{bytes}
use Rattle.ait_descriptors.proofs.Laws.Lists.{profiles-other, profiles-is}
use Rattle.ait_descriptors.proofs.tag00.profiles_in.Goals as goal

pub returns-then-byte_at-ne0 : goal.returns-then-byte_at-ne0
returns-then-byte_at-ne0 c = profiles-other _ (λ e. omega (arith, c.if-byte_at-ne0.true))

pub returns : goal.returns
returns c =
    let d = c.args.d.now in
    c.bytes_at.ensures ∙ ap (λ (n : ℕ). bytes 3 n d) c.eight_at.ensures.0 ∙ profiles-is d (omega arith)
