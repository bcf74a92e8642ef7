-- `ait_descriptors::tag02_size::base_size` meets its contract.
use Prim.Native.Nat.{ℕ, ◌+◌}
use mathlib.Core.Path.{◌≡◌, sym, ap, ◌∙◌}
use native.Mathlib.Omega.{arith}
use Rattle.wire.specs.Fields.{byte_at}
use Rattle.wire.specs.Items.{sized}
use Rattle.ait_descriptors.specs.Tag02.{extension_count}
use Rattle.ait_descriptors.proofs.Laws.Kinds.{base-at, base-none}
use Rattle.ait_descriptors.proofs.tag02_size.base_size.Goals as goal

pub returns-then-s-start : goal.returns-then-s-start
returns-then-s-start c = ap sized (sym (base-none _ (omega arith)))

pub returns : goal.returns
returns c =
    let s = c.args.s.now in
    let b : c.eight_at-n.result ≡ byte_at s 0 = c.eight_at-n.ensures.0 in
    let n : c.eight_at.result ≡ extension_count s = c.eight_at.ensures.0 ∙ ap (λ (x : ℕ). byte_at s (1 + x)) b in
    c.measured_end.ensures ∙ rw (n, b) (base-at s (omega arith))
