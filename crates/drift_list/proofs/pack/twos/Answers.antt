-- `drift_list::pack::twos` meets its contract, at every width up to 28 bits.
use Prim.Native.Nat.{ℕ, suc, ◌-◌, ◌*◌, ◌^◌}
use mathlib.Core.Path.{◌≡◌, sym, ap, ap₂, ◌∙◌}
use native.Mathlib.Nat.{pow-suc}
use native.Mathlib.Omega.{arith}
use lib.IntN.{nat_abs}
use lib.Signed.{mag}
use mir.Syntax.{w32}
use mir.Val.{to_z, of_z}
use Rattle.wire.proofs.Laws.Signed.{not_cast, plain_cast, cast_fine, below-bits, above-bits}
use Rattle.drift_list.proofs.pack.twos.Goals as goal
use Rattle.drift_list.proofs.pack.twos.Goals.{Then-z-lt0}

-- what is cast below 0
cast-below : (c : Then-z-lt0) → nat_abs (to_z w32 (4294967295 - of_z w32 c.args.z)) ≡ mag c.args.z
cast-below c = ap nat_abs (not_cast c.args.z c.ranges.z c.if-z-lt0.true)

twice : (half h : ℕ) → half ≡ 2 ^ h → half * 2 ≡ 2 ^ suc h
twice half h e = ap (λ (n : ℕ). n * 2) e ∙ sym (pow-suc 2 h)

pub overflow_sub-result : goal.overflow_sub-result
overflow_sub-result c = let l = c.requires.0 in omega (arith, l)

pub overflow_cast-result : goal.overflow_cast-result
overflow_cast-result c = cast_fine c.args.z c.ranges.z _ (not_cast c.args.z c.ranges.z c.if-z-lt0.true)

pub overflow_sub-result-then-z-lt0 : goal.overflow_sub-result-then-z-lt0
overflow_sub-result-then-z-lt0 c = let e = cast-below (goal.at.overflow_sub-result-then-z-lt0 c).Then-z-lt0 in let l = c.requires.0 in omega (arith, e, l)

pub returns-then-z-lt0 : goal.returns-then-z-lt0
returns-then-z-lt0 c = λ h e. ap₂ (λ (m n : ℕ). m - 1 - n) (twice _ h e) (cast-below (goal.at.returns-then-z-lt0 c).Then-z-lt0) ∙ below-bits c.args.z c.ranges.z h c.if-z-lt0.true

pub overflow_cast-result-2 : goal.overflow_cast-result-2
overflow_cast-result-2 c = cast_fine c.args.z c.ranges.z _ (plain_cast c.args.z c.ranges.z c.if-z-lt0.false)

pub returns : goal.returns
returns c = λ h e. ap nat_abs (plain_cast c.args.z c.ranges.z c.if-z-lt0.false) ∙ above-bits c.args.z c.ranges.z h c.if-z-lt0.false
