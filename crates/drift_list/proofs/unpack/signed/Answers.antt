-- `drift_list::unpack::signed` meets its contract, at every width up to 28 bits.
use Prim.Native.Nat.{ℕ, suc, ◌-◌, ◌*◌, ◌^◌, ◌<◌, ◌≤◌}
use mathlib.Core.Path.{◌≡◌, sym, ap, subst, ◌∙◌}
use native.Mathlib.Nat.{pow-suc}
use native.Mathlib.Omega.{arith}
use mir.Syntax.{w32}
use mir.Val.{to_z}
use Rattle.wire.specs.Signed.{signed}
use Rattle.wire.proofs.Laws.Signed.{machine_pos, machine_neg}
use Rattle.drift_list.proofs.unpack.signed.Goals as goal

-- below the half, and from it on
low : (v half h : ℕ) → half ≡ 2 ^ h → half ≤ 134217728 → v < half → to_z w32 v ≡ signed h v
low v half h e w l = machine_pos h v (omega (arith, e, w)) (subst (λ (n : ℕ). v < n) e l)

high : (v half h : ℕ) → half ≡ 2 ^ h → half ≤ 134217728 → half ≤ v → v < half * 2 → to_z w32 (4294967295 - (half * 2 - 1 - v)) ≡ signed h v
high v half h e w l b =
    let p : half * 2 ≡ 2 ^ suc h = ap (λ (n : ℕ). n * 2) e ∙ sym (pow-suc 2 h) in
    ap (λ (n : ℕ). to_z w32 (4294967295 - (n - 1 - v))) p
    ∙ machine_neg h v (omega (arith, e, w)) (subst (λ (n : ℕ). n ≤ v) e l) (subst (λ (n : ℕ). v < n) p b)

pub returns-then-v-half : goal.returns-then-v-half
returns-then-v-half c = λ h e. low _ _ h e c.requires.1 c.if-v-half.true

pub returns : goal.returns
returns c = λ h e. high _ _ h e c.requires.1 c.if-v-half.false c.requires.0
