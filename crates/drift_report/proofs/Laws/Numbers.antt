-- Numbers with a sign, and digits.
use Prim.Native.Nat.{ℕ, zero, suc, ◌-◌, ◌/◌, ◌%◌}
use mathlib.Core.Path.{◌≡◌, refl, sym, ap, ap₂, ◌∙◌}
use mathlib.Core.List.{List, [], ◌++◌}
use native.Mathlib.Omega.{arith}
use lib.IntN.{ℤ, pos, negsuc, nat_abs}
use lib.Signed.{mag}
use mir.Syntax.{w32}
use mir.Val.{to_z, of_z, SFits}
use mir.ValLaws.{to_z-of_z}
use Rattle.text.specs.Text.{codes, decimal}
use Rattle.text.proofs.Laws.Digits.{decimal-one}
use Rattle.drift_report.specs.Lines.{signed_decimal, side_of, padded}

-- an i32 is read back from its bits
pub kept_abs : (z : ℤ) → SFits w32 z → (r : ℕ) → r ≡ nat_abs (to_z w32 (of_z w32 z)) → r ≡ nat_abs z
kept_abs z f r e = e ∙ ap nat_abs (to_z-of_z w32 z f)

-- by the sign: `mag` is n for n, and n for -(n + 1)
module _ (z : ℤ) where
  pub below-decimal : z ≡ negsuc (mag z) → codes "-" ++ decimal (nat_abs z) ≡ signed_decimal z
  unfolding signed_decimal
  below-decimal e = ap (λ (y : ℤ). codes "-" ++ decimal (nat_abs y)) e ∙ sym (ap signed_decimal e)

  pub above-decimal : z ≡ pos (mag z) → decimal (nat_abs z) ≡ signed_decimal z
  unfolding signed_decimal
  above-decimal e = ap (λ (y : ℤ). decimal (nat_abs y)) e ∙ sym (ap signed_decimal e)

  pub below_side : (from below : List ℕ) → z ≡ negsuc (mag z) → below ≡ side_of from below z
  unfolding side_of
  below_side from below e = sym (ap (side_of from below) e)

  pub above_side : (from below : List ℕ) → z ≡ pos (mag z) → from ≡ side_of from below z
  unfolding side_of
  above_side from below e = sym (ap (side_of from below) e)

-- the lowest digits
pub padded-none : (w n : ℕ) → w ≡ 0 → padded w n ≡ []
unfolding padded
padded-none w n e = ap (λ (v : ℕ). padded v n) e

pub padded-more : (w n : ℕ) → (w ≡ 0 → ⊥) → padded w n ≡ padded (w - 1) (n / 10) ++ decimal (n % 10)
unfolding padded
padded-more zero n h = absurd (h refl)
padded-more (suc w) n h =
    let e : suc w - 1 ≡ w = omega arith in
    ap₂ (λ (v : ℕ) (d : List ℕ). padded v (n / 10) ++ d) (sym e) (sym (decimal-one (n % 10) (omega arith)))
