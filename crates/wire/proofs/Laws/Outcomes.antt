-- Answers that a number decides.
use Prim.Native.Nat.{ℕ, zero, suc}
use mathlib.Core.Path.{◌≡◌, refl, ap}
use Rattle.std.proofs.Common.{Result, Ok, Err}
use native.Mathlib.Omega.{arith}
use Rattle.wire.specs.Outcomes.{answered, number_of}

module _ {A : Type 0} where
  pub number-answered : (n : ℕ) (a : A) → number_of (answered n a) ≡ n
  number-answered zero a = refl
  number-answered (suc n) a = refl

  -- told by its number
  pub is_refused : (n : ℕ) (a : A) → (n ≡ 0 → ⊥) → answered n a ≡ Err n
  is_refused zero a z = absurd (z refl)
  is_refused (suc n) a z = refl

  -- and the number by it
  pub refused_by_lem : (m n : ℕ) (a : A) → Err m ≡ answered n a → (m ≡ n) × (n ≡ 0 → ⊥)
  refused_by_lem m zero a e = let z : ◌≡◌ {A = ℕ} 1 0 = ap (λ r. one_of r) e in absurd (omega arith)
    where
      one_of : Result A ℕ → ℕ
      one_of (Ok a) = 0
      one_of (Err n) = 1
  refused_by_lem m (suc n) a e = (ap number_of e, λ z. omega (arith, z))

  pub not_refused : (n : ℕ) (a b : A) → Ok b ≡ answered n a → n ≡ 0
  not_refused zero a b e = refl
  not_refused (suc n) a b e = let z : ◌≡◌ {A = ℕ} 0 (suc n) = ap number_of e in absurd (omega arith)
