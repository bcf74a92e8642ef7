-- Two's complement in h + 1 bits: the top one is the sign. A signed number is the language's own ℤ, as a contract reads an i32: `pos n` is n, `negsuc n` is -(n + 1).
use Rattle.std.specs.Prelude.{ℕ, suc, ◌-◌, ◌^◌, ◌<◌, Bool, false, cond, ◌&&◌, ltb, eqb, ℤ, pos, negsuc, ◌≤ℤ◌}
use Rattle.std.specs.Int.Signed.{mag, le_z}

-- what h + 1 bits say
unfoldable pub signed : (h : ℕ) → ℕ → ℤ
signed h x = cond (ltb x (2 ^ h)) (pos x) (negsuc (2 ^ suc h - suc x))

-- the h + 1 bits that say it
unfoldable pub twos : (h : ℕ) → ℤ → ℕ
twos h (pos n) = n
twos h (negsuc n) = 2 ^ suc h - suc n

-- it can be said in h + 1 bits: from -2^h to 2^h - 1 (`mag` of -(n + 1) is n)
abbrev pub InBits : (h : ℕ) → ℤ → Type 0
InBits h z = mag z < 2 ^ h

-- from one number to another, both included
abbrev pub Between : (lo hi z : ℤ) → Type 0
Between lo hi z = (lo ≤ℤ z) × (z ≤ℤ hi)

unfoldable pub between : (lo hi z : ℤ) → Bool
between lo hi z = le_z lo z && le_z z hi

abbrev pub is_zero : ℤ → Bool
is_zero (pos n) = eqb n 0
is_zero (negsuc n) = false
