-- Words of marks one at a time, as the loops over them take them.
use Prim.Native.Nat.{ℕ, zero, suc, ◌+◌, ◌-◌, ◌*◌, ◌/◌, ◌%◌, ◌^◌, ◌≤◌, ◌<◌}
use mathlib.Core.Path.{◌≡◌, refl}
use mathlib.Core.Bool.{Bool, true, false, ◌&&◌}
use mathlib.Core.List.{List}
use native.Mathlib.Numerals.{add-one}
use native.Mathlib.Nat.{one-mul, mod-eq_of_lt, div-zero, div-one, div-le_self}
use native.Mathlib.Omega.{arith}
use lib.Dec.{eqb}
use lib.Pow.{pow-lt}
use lib.Bits.{bit_or}
use lib.ListN.{length, get_or, drop, drop_of_length-le}
use lib.Seq.{drop-cons}
use Rattle.wire.proofs.Laws.Copies.{or-none}
use Rattle.carousel_record.specs.Blocks.{blocks_of}
use Rattle.carousel_record.specs.Marks.{clear_from}

-- one bit, as code shifts it
pub one_shl : (b : ℕ) → b < 32 → 1 * 2 ^ b % 2 ^ 32 ≡ 2 ^ b
one_shl b h = rw (one-mul, mod-eq_of_lt (pow-lt h))

-- where there is a block, blocks are not of 0 bytes
pub block-sized : (bs z b : ℕ) → b < blocks_of bs z → 0 < bs
unfolding blocks_of
block-sized zero z b h = let e = div-zero (z + (0 - 1)) in absurd (omega arith)
block-sized (suc bs) z b h = omega arith

-- and there are no more of them than bytes
pub blocks-most : (bs z : ℕ) → blocks_of bs z ≤ z + (bs - 1)
unfolding blocks_of
blocks-most bs z = div-le_self (z + (bs - 1)) bs

module _ (ws : List ℕ) (i n : ℕ) where
  pub word-off : i < length ws → eqb (get_or ws i 0 / 2 ^ n) 0 ≡ false → clear_from n (drop i ws) ≡ false
  unfolding clear_from
  word-off l e = rw (drop-cons ws i 0 l, e)

  pub word_next : i < length ws → eqb (get_or ws i 0 / 2 ^ n) 0 ≡ true → clear_from (n - 32) (drop (i + 1) ws) ≡ clear_from n (drop i ws)
  unfolding clear_from
  word_next l e = rw (add-one i, drop-cons ws i 0 l, e)

  pub word-done : length ws ≤ i → clear_from n (drop i ws) ≡ true
  unfolding clear_from
  word-done l = rw (drop_of_length-le ws l)

-- all those before word k in one, and the rest
module _ (ws : List ℕ) (all k : ℕ) where
  pub zero-next : k < length ws → (eqb (bit_or all (get_or ws k 0)) 0 && clear_from 0 (drop (k + 1) ws)) ≡ (eqb all 0 && clear_from 0 (drop k ws))
  unfolding clear_from
  zero-next l = rw (add-one k, drop-cons ws k 0 l, or-none all (get_or ws k 0), div-one (get_or ws k 0)) (grouped (eqb all 0))
    where
      grouped : (t : Bool) → (t && eqb (get_or ws k 0) 0 && clear_from 0 (drop (suc k) ws)) ≡ (t && (eqb (get_or ws k 0) 0 && clear_from 0 (drop (suc k) ws)))
      grouped true = refl
      grouped false = refl

  pub zero-done : length ws ≤ k → (eqb all 0 && clear_from 0 (drop k ws)) ≡ eqb all 0
  unfolding clear_from
  zero-done l = rw (drop_of_length-le ws l) (alone (eqb all 0))
    where
      alone : (t : Bool) → (t && true) ≡ t
      alone true = refl
      alone false = refl
