-- Laws of the blocks of one module: how many, how long, and that none reaches into the next.
use Prim.Native.Nat.{ℕ, zero, suc, ◌+◌, ◌-◌, ◌*◌, ◌≤◌, ◌<◌}
use mathlib.Core.Path.{◌≡◌}
use native.Mathlib.Omega.{arith}
use native.Mathlib.Nat.{mul-le-mul_right, mul-div-le, lt-div-mul-add, div-lt_iff_lt-mul}
use native.Mathlib.Decide.{dec_lt}
use borrow.Author.Tests.{lt-ltb, le-ltb}
use Rattle.carousel_record.specs.Blocks.{blocks_of, block_length_of}

module _ (bs z : ℕ) (some_size : 0 < bs) where
  -- the blocks cover the module, and the last is not empty
  pub covers : z ≤ blocks_of bs z * bs
  unfolding blocks_of
  covers = let h = lt-div-mul-add {a = z + (bs - 1)} {b = bs} some_size in omega arith

  pub tight : blocks_of bs z * bs ≤ z + (bs - 1)
  unfolding blocks_of
  tight = let h = mul-div-le (z + (bs - 1)) bs in omega arith

  pub few : (m : ℕ) → z ≤ m * bs → blocks_of bs z ≤ m
  unfolding blocks_of
  few m h = let k = (div-lt_iff_lt-mul {k = bs} {x = z + (bs - 1)} {y = suc m} some_size).1 (omega arith) in omega arith

  pub some_block : 0 < z → 0 < blocks_of bs z
  some_block h = go (blocks_of bs z) covers
    where
      go : (n : ℕ) → z ≤ n * bs → 0 < n
      go zero l = omega arith
      go (suc n) l = omega arith

  -- every block but the last has the block size
  pub inner_length : (b : ℕ) → suc b < blocks_of bs z → block_length_of bs z b ≡ bs
  unfolding block_length_of
  inner_length b h = rw (lt-ltb (suc b) (blocks_of bs z) h)

  -- the last has what is left
  pub last_length : (b : ℕ) → blocks_of bs z ≤ suc b → block_length_of bs z b ≡ z - b * bs
  unfolding block_length_of
  last_length b h = rw (le-ltb (suc b) (blocks_of bs z) h)

  -- a block begins before the module ends
  pub begins : (b : ℕ) → b < blocks_of bs z → b * bs < z
  begins b h = let t = tight in let m = mul-le-mul_right {m = suc b} {n = blocks_of bs z} bs h in omega arith

  pub length_le : (b : ℕ) → b < blocks_of bs z → block_length_of bs z b ≤ bs
  length_le b h = elim (dec_lt (suc b) (blocks_of bs z)) [
    | yes p ↦ let e = inner_length b p in omega arith
    | no p ↦ let e = last_length b (omega arith) in let c = covers in let m = mul-le-mul_right {m = blocks_of bs z} {n = suc b} bs (omega arith) in omega arith
  ]

  -- never empty
  pub length_pos : (b : ℕ) → b < blocks_of bs z → 0 < block_length_of bs z b
  length_pos b h = elim (dec_lt (suc b) (blocks_of bs z)) [
    | yes p ↦ let e = inner_length b p in omega arith
    | no p ↦ let e = last_length b (omega arith) in let c = begins b h in omega arith
  ]

  -- a block ends within the module
  pub ends : (b : ℕ) → b < blocks_of bs z → b * bs + block_length_of bs z b ≤ z
  ends b h = elim (dec_lt (suc b) (blocks_of bs z)) [
    | yes p ↦ let e = inner_length b p in let c = begins (suc b) p in omega arith
    | no p ↦ let e = last_length b (omega arith) in let c = begins b h in omega arith
  ]

  -- and before the next ones begin
  pub apart : (b q : ℕ) → b < q → q < blocks_of bs z → b * bs + block_length_of bs z b ≤ q * bs
  apart b q l h = let e = length_le b (omega arith) in let m = mul-le-mul_right {m = suc b} {n = q} bs l in omega arith
