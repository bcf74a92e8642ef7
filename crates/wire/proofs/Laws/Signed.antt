-- Two's complement and its inverse, over the width; and tests of signed numbers as facts.
use Prim.Native.Nat.{ℕ, suc, ◌-◌, ◌*◌, ◌^◌, ◌<◌, ◌≤◌}
use mathlib.Core.Path.{◌≡◌, refl, sym, ap, ap₂, subst, ◌∙◌}
use mathlib.Core.Bool.{Bool, true, false, not, ◌&&◌}
use native.Mathlib.Nat.{pow-suc}
use native.Mathlib.Omega.{arith}
use lib.Dec.{ltb, eqb, T}
use lib.IntN.{ℤ, pos, negsuc, nat_abs}
use lib.Signed.{mag, non_neg, le_z, lt_z, ◌≤ℤ◌, ◌<ℤ◌, lt_z_yes, lt_z_no, clash_ℤ}
use mir.Syntax.{w32}
use mir.Val.{to_z, of_z, Fits, SFits}
use mir.ValLaws.{to_z-of_z, to_z_pos, to_z-neg}
use borrow.Author.Tests.{lt-ltb, le-ltb, ltb-true, ltb-false, eqb-true, ne_eqb}
use Rattle.wire.proofs.Laws.Tests.{both}
use Rattle.wire.specs.Signed.{signed, twos, InBits, Between, between, is_zero}

pub signed_pos : (h x : ℕ) → x < 2 ^ h → signed h x ≡ pos x
unfolding signed
signed_pos h x l = rw (lt-ltb x (2 ^ h) l)

pub signed_neg : (h x : ℕ) → 2 ^ h ≤ x → signed h x ≡ negsuc (2 ^ suc h - suc x)
unfolding signed
signed_neg h x l = rw (le-ltb x (2 ^ h) l)

-- bits are the bits of what they say
pub twos-signed : (h x : ℕ) → x < 2 ^ suc h → twos h (signed h x) ≡ x
unfolding twos
twos-signed h x l = go (ltb x (2 ^ h)) refl
  where
    go : (t : Bool) → ltb x (2 ^ h) ≡ t → twos h (signed h x) ≡ x
    go true e = ap (twos h) (signed_pos h x (ltb-true _ _ e))
    go false e = ap (twos h) (signed_neg h x (ltb-false _ _ e)) ∙ omega arith

-- a number is what its bits say
pub signed-twos : (h : ℕ) (z : ℤ) → InBits h z → signed h (twos h z) ≡ z
unfolding twos
signed-twos h (pos n) l = signed_pos h n l
signed-twos h (negsuc n) l =
    let p : 2 ^ suc h ≡ 2 ^ h * 2 = pow-suc 2 h in
    signed_neg h (2 ^ suc h - suc n) (omega arith) ∙ ap negsuc (omega arith)

pub twos_lt : (h : ℕ) (z : ℤ) → InBits h z → twos h z < 2 ^ suc h
unfolding twos
twos_lt h (pos n) l = let p : 2 ^ suc h ≡ 2 ^ h * 2 = pow-suc 2 h in omega arith
twos_lt h (negsuc n) l = let p : 2 ^ suc h ≡ 2 ^ h * 2 = pow-suc 2 h in omega arith

pub signed_in : (h x : ℕ) → x < 2 ^ suc h → InBits h (signed h x)
signed_in h x l = go (ltb x (2 ^ h)) refl
  where
    p : 2 ^ suc h ≡ 2 ^ h * 2
    p = pow-suc 2 h

    go : (t : Bool) → ltb x (2 ^ h) ≡ t → InBits h (signed h x)
    go true e = rw (signed_pos h x (ltb-true _ _ e)) (ltb-true _ _ e)
    go false e = let l' = ltb-false _ _ e in rw (signed_neg h x l') (omega (arith, p))

-- tests as facts
pub le-told : (a b : ℤ) → le_z a b ≡ true → a ≤ℤ b
le-told a b e = record { le = subst T (sym e) tt }

T_true : (t : Bool) → T t → t ≡ true
T_true true x = refl
T_true false x = absurd x

pub le_tells : (a b : ℤ) → a ≤ℤ b → le_z a b ≡ true
le_tells a b l = T_true (le_z a b) l.le

pub between-told : (lo hi z : ℤ) → between lo hi z ≡ true → Between lo hi z
unfolding between
between-told lo hi z e = let b = both (le_z lo z) (le_z z hi) e in (le-told lo z b.0, le-told z hi b.1)

pub between_tells : (lo hi z : ℤ) → Between lo hi z → between lo hi z ≡ true
unfolding between
between_tells lo hi z b = rw (le_tells lo z b.0, le_tells z hi b.1)

pub zero-told : (z : ℤ) → is_zero z ≡ true → z ≡ pos 0
zero-told (pos n) e = ap pos (eqb-true n 0 e)
zero-told (negsuc n) e = let z : ◌≡◌ {A = ℕ} 0 1 = cc in absurd (omega arith)

pub zero_tells : (z : ℤ) → z ≡ pos 0 → is_zero z ≡ true
zero_tells z e = ap is_zero e

-- HOW CODE SAYS IT in an i32: bits v below the half are cast, the others are `!((2^(h + 1) - 1 - v) as i32)`. An i32's value is `to_z w32` of its bits.
module _ (h v : ℕ) (w : 2 ^ h ≤ 2 ^ 31) where
  pub machine_pos : v < 2 ^ h → to_z w32 v ≡ signed h v
  machine_pos l = to_z_pos w32 v (omega arith) ∙ sym (signed_pos h v l)

  pub machine_neg : 2 ^ h ≤ v → v < 2 ^ suc h → to_z w32 (4294967295 - (2 ^ suc h - 1 - v)) ≡ signed h v
  machine_neg l b =
      let p : 2 ^ suc h ≡ 2 ^ h * 2 = pow-suc 2 h in
      let k : 2 ^ suc h - suc v < 2 ^ 31 = omega arith in
      let e : 4294967295 - (2 ^ suc h - 1 - v) ≡ 2 ^ 32 - suc (2 ^ suc h - suc v) = omega arith in
      ap (to_z w32) e ∙ to_z-neg w32 (2 ^ suc h - suc v) k ∙ sym (signed_neg h v l)

  -- and what is copied is the same
  pub machine-keeps : (z : ℤ) → z ≡ signed h v → v < 2 ^ suc h → to_z w32 (of_z w32 z) ≡ signed h v
  machine-keeps z e l =
      let i : InBits h z = subst (InBits h) (sym e) (signed_in h v l) in
      to_z-of_z w32 z (record { sfits = omega arith }) ∙ e

-- TESTS ON i32: the machine compares what it reads back from the bits
module _ (z lo hi : ℤ) (fz : SFits w32 z) (fl : SFits w32 lo) (fh : SFits w32 hi) where
  pub below-range : lt_z (to_z w32 (of_z w32 z)) (to_z w32 (of_z w32 lo)) ≡ true → false ≡ between lo hi z
  unfolding between
  below-range e =
      let l : z <ℤ lo = lt_z_yes (subst T (sym (ap₂ lt_z (sym (to_z-of_z w32 z fz)) (sym (to_z-of_z w32 lo fl)) ∙ e)) tt) in
      go l (le_z lo z) refl
    where
      go : z <ℤ lo → (t : Bool) → le_z lo z ≡ t → false ≡ (t && le_z z hi)
      go l true e = clash_ℤ l (le-told lo z e)
      go l false e = refl

  pub from-range : lt_z (to_z w32 (of_z w32 z)) (to_z w32 (of_z w32 lo)) ≡ false → le_z (to_z w32 (of_z w32 z)) (to_z w32 (of_z w32 hi)) ≡ between lo hi z
  unfolding between
  from-range e =
      let n : lt_z z lo ≡ false = ap₂ lt_z (sym (to_z-of_z w32 z fz)) (sym (to_z-of_z w32 lo fl)) ∙ e in
      let l : le_z lo z ≡ true = le_tells lo z (lt_z_no (subst (λ (t : Bool). T (not t)) (sym n) tt)) in
      ap₂ le_z (to_z-of_z w32 z fz) (to_z-of_z w32 hi fh) ∙ sym (ap (λ (t : Bool). t && le_z z hi) l)

-- zero is told by the bits
pub zero_bits : (z : ℤ) → SFits w32 z → eqb (of_z w32 z) 0 ≡ is_zero z
zero_bits (pos n) f = refl
zero_bits (negsuc n) f = let l = f.sfits in ne_eqb (2 ^ 32 - suc n) 0 (λ e. omega arith)

-- CASTS OF AN i32 by its sign: below 0 it is `!z` that is cast, and both casts give `mag z`
module _ (z : ℤ) (f : SFits w32 z) where
  pub below-told : lt_z (to_z w32 (of_z w32 z)) (pos 0) ≡ true → z ≡ negsuc (mag z)
  below-told e = go z (ap (λ (y : ℤ). lt_z y (pos 0)) (sym (to_z-of_z w32 z f)) ∙ e)
    where
      go : (z : ℤ) → lt_z z (pos 0) ≡ true → z ≡ negsuc (mag z)
      go (pos n) e = let l = ltb-true n 0 e in absurd (omega arith)
      go (negsuc n) e = refl

  pub above-told : lt_z (to_z w32 (of_z w32 z)) (pos 0) ≡ false → z ≡ pos (mag z)
  above-told e = go z (ap (λ (y : ℤ). lt_z y (pos 0)) (sym (to_z-of_z w32 z f)) ∙ e)
    where
      go : (z : ℤ) → lt_z z (pos 0) ≡ false → z ≡ pos (mag z)
      go (pos n) e = refl
      go (negsuc n) e = let z : ◌≡◌ {A = ℕ} 0 1 = cc in absurd (omega arith)

  pub not_cast : lt_z (to_z w32 (of_z w32 z)) (pos 0) ≡ true → to_z w32 (4294967295 - of_z w32 z) ≡ pos (mag z)
  not_cast e =
      let l = f.sfits in
      let n : of_z w32 z ≡ 2 ^ 32 - suc (mag z) = ap (of_z w32) (below-told e) in
      let m : 4294967295 - of_z w32 z ≡ mag z = omega arith in
      ap (to_z w32) m ∙ to_z_pos w32 (mag z) l

  pub plain_cast : lt_z (to_z w32 (of_z w32 z)) (pos 0) ≡ false → to_z w32 (of_z w32 z) ≡ pos (mag z)
  plain_cast e = to_z-of_z w32 z f ∙ above-told e

  pub cast_fine : (y : ℤ) → y ≡ pos (mag z) → T (non_neg y) × Fits w32 (nat_abs y)
  cast_fine y e = let l = f.sfits in subst (λ (y : ℤ). T (non_neg y) × Fits w32 (nat_abs y)) (sym e) (tt, record { fits = omega arith })

  pub below-bits : (h : ℕ) → lt_z (to_z w32 (of_z w32 z)) (pos 0) ≡ true → 2 ^ suc h - 1 - mag z ≡ twos h z
  unfolding twos
  below-bits h e = let m : 2 ^ suc h - 1 - mag z ≡ 2 ^ suc h - suc (mag z) = omega arith in m ∙ sym (ap (twos h) (below-told e))

  pub above-bits : (h : ℕ) → lt_z (to_z w32 (of_z w32 z)) (pos 0) ≡ false → mag z ≡ twos h z
  unfolding twos
  above-bits h e = sym (ap (twos h) (above-told e))
