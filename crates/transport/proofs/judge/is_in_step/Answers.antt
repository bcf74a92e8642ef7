-- `transport::judge::is_in_step` meets its contract: one more than the last where there is a payload.
use Prim.Native.Nat.{ℕ, ◌+◌, ◌%◌}
use mathlib.Core.Path.{◌≡◌, refl, sym, ap₂, ◌∙◌}
use mathlib.Core.Bool.{Bool, true, false, cond}
use lib.Dec.{eqb}
use mir.Val.{bool_byte}
use Rattle.transport.proofs.Laws.Taking.{weight-by}
use Rattle.transport.proofs.judge.is_in_step.Goals as goal

as_number : (t : Bool) → bool_byte t ≡ cond t 1 0
as_number true = refl
as_number false = refl

pub returns : goal.returns
returns c =
    let w = c.from.ensures ∙ as_number c.has_payload.result ∙ weight-by c.args.p.now c.has_payload.result (sym c.has_payload.ensures) in
    ap₂ (λ (x y : ℕ). eqb x y) c.counter.ensures.0 (ap₂ (λ (x y : ℕ). (x + y) % 16) c.counter-2.ensures.0 w)
