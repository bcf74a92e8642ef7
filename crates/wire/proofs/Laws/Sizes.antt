-- A size as a call answers it: none where it is 0.
use Prim.Native.Nat.{ℕ, zero, suc, ◌<◌}
use mathlib.Core.Path.{◌≡◌, refl, ap}
use Rattle.std.proofs.Common.{Some, None, unwrap_or}
use native.Mathlib.Omega.{arith}
use Rattle.wire.specs.Items.{sized}

pub sized-some : (n : ℕ) → 0 < n → Some n ≡ sized n
sized-some zero h = absurd (omega arith)
sized-some (suc n) h = refl

pub sized-none : (n : ℕ) → None ≡ sized n → n ≡ 0
sized-none zero e = refl
sized-none (suc n) e = let z : ◌≡◌ {A = ℕ} 0 1 = cc in absurd (omega arith)

pub sized-has : (m n : ℕ) → Some m ≡ sized n → (m ≡ n) × (m ≡ 0 → ⊥)
sized-has m zero e = let z : ◌≡◌ {A = ℕ} 0 1 = cc in absurd (omega arith)
sized-has m (suc n) e =
    let p : m ≡ suc n = ap (λ o. unwrap_or o 0) e in
    (p, λ z. omega (arith, z, p))
