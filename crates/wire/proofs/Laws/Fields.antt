-- Fields of any width: what they are below, where they are 0, where else in the bytes they stand, and how code puts them together.
use Prim.Native.Nat.{ℕ, zero, suc, ◌+◌, ◌-◌, ◌*◌, ◌/◌, ◌%◌, ◌^◌, ◌<◌, ◌≤◌}
use mathlib.Core.Path.{◌≡◌, refl, sym, ap, ap₂, ◌∙◌}
use mathlib.Core.List.{List, ◌∷◌, ◌++◌}
use native.Mathlib.Nat.{mod-lt, pow-suc, pow-succ', mul_assoc, mod-eq_of_lt}
use native.Mathlib.Omega.{arith}
use lib.ListN.{length, take, drop, get_or-eq_default}
use lib.Seq.{get_or-take, get_or-drop}
use lib.Bits.{bit_and, bit_or, and_mask, or_shifted, or_lt}
use lib.Pow.{pow_pos}
use lib.Arith.{mod-mul}
use Rattle.wire.specs.Fields.{byte_at, field_at, bits, spelled}

-- a byte past the end
pub byte_past : (s : List ℕ) (i : ℕ) → length s ≤ i → byte_at s i ≡ 0
byte_past s i h = get_or-eq_default s 0 h

-- THE BOUND: n bytes spell a number below 256 ^ n
pub field_lt : (n : ℕ) (s : List ℕ) (i : ℕ) → ((k : ℕ) → byte_at s k < 256) → field_at n s i < 256 ^ n
unfolding field_at
field_lt zero s i b = omega arith
field_lt (suc n) s i b =
    let p : 256 ^ suc n ≡ 256 ^ n * 256 = pow-suc 256 n in
    let f = field_lt n s i b in
    let l = b (i + n) in
    omega arith

-- a field past the end
pub field_past_lem : (n : ℕ) (s : List ℕ) (i : ℕ) → length s ≤ i → field_at n s i ≡ 0
unfolding field_at
field_past_lem zero s i h = refl
field_past_lem (suc n) s i h =
    let f = field_past_lem n s i h in
    let b = byte_past s (i + n) (omega arith) in
    omega arith

-- a field of what is left after a bytes
pub field_drop : (n : ℕ) (s : List ℕ) (a i : ℕ) → field_at n (drop a s) i ≡ field_at n s (a + i)
unfolding field_at
field_drop zero s a i = refl
field_drop (suc n) s a i = rw (field_drop n s a i, get_or-drop) (ap (λ (k : ℕ). field_at n s (a + i) * 256 + byte_at s k) (omega arith))

-- a field that lies in the first m bytes
pub field_take : (n : ℕ) (s : List ℕ) (m i : ℕ) → i + n ≤ m → field_at n (take m s) i ≡ field_at n s i
unfolding field_at
field_take zero s m i h = refl
field_take (suc n) s m i h = rw (field_take n s m i (omega arith), get_or-take m s (i + n) 0 (omega arith))

-- a field of the part of m bytes at a
pub field_part : (n : ℕ) (s : List ℕ) (a m i : ℕ) → i + n ≤ m → field_at n (take m (drop a s)) i ≡ field_at n s (a + i)
field_part n s a m i h = field_take n (drop a s) m i h ∙ field_drop n s a i

-- a field of n + m bytes is one of n over one of m
pub field-join : (n m : ℕ) (s : List ℕ) (i : ℕ) → field_at (n + m) s i ≡ field_at n s i * 256 ^ m + field_at m s (i + n)
unfolding field_at
field-join n zero s i =
    let z : n + zero ≡ n = omega arith in
    let e : field_at (n + zero) s i ≡ field_at n s i = ap (λ (k : ℕ). field_at k s i) z in
    omega arith
field-join n (suc m) s i =
    let e : n + suc m ≡ suc (n + m) = omega arith in
    let f = field-join n m s i in
    let p : 256 ^ suc m ≡ 256 ^ m * 256 = pow-suc 256 m in
    let q : field_at n s i * 256 ^ m * 256 ≡ field_at n s i * 256 ^ suc m = mul_assoc (field_at n s i) (256 ^ m) 256 ∙ ap (λ (k : ℕ). field_at n s i * k) (sym p) in
    let b : byte_at s (i + (n + m)) ≡ byte_at s (i + n + m) = ap (byte_at s) (omega arith) in
    ap (λ (k : ℕ). field_at k s i) e ∙ omega arith

pub field-one : (s : List ℕ) (i : ℕ) → field_at 1 s i ≡ byte_at s i
unfolding field_at
field-one s i = let e : byte_at s (i + 0) ≡ byte_at s i = ap (byte_at s) (omega arith) in omega arith

-- what code joins by `(a << j) | b` at a width w that holds both is the field of both
pub halves : (w j n : ℕ) (s : List ℕ) (i a b : ℕ) → 2 ^ j ≡ 256 ^ n → a * 2 ^ j < 2 ^ w → b < 2 ^ j → b < 2 ^ w
    → a ≡ field_at n s i → b ≡ field_at n s (i + n)
    → (bit_or (a * 2 ^ j % 2 ^ w) b ≡ field_at (n + n) s i) × (bit_or (a * 2 ^ j % 2 ^ w) b < 2 ^ w)
halves w j n s i a b p h k l e f =
    let m : a * 2 ^ j % 2 ^ w ≡ a * 2 ^ j = mod-eq_of_lt h in
    let g : a * 2 ^ j + b ≡ field_at n s i * 256 ^ n + field_at n s (i + n) = ap₂ (λ (x y : ℕ). x * y + b) e p ∙ ap (λ (x : ℕ). field_at n s i * 256 ^ n + x) f in (
      ap (λ (x : ℕ). bit_or x b) m ∙ or_shifted a j b k ∙ g ∙ sym (field-join n n s i),
      or_lt w (a * 2 ^ j % 2 ^ w) b (mod-lt (a * 2 ^ j) (pow_pos w)) l,
    )

-- bits that a shift and a mask leave
pub bits_lt : (k w x : ℕ) → bits k w x < 2 ^ w
bits_lt k w x = mod-lt (x / 2 ^ k) (pow_pos w)

pub masked : (k w x : ℕ) → bit_and (x / 2 ^ k) (2 ^ w - 1) ≡ bits k w x
masked k w x = and_mask (x / 2 ^ k) w

pub masked_low : (w x : ℕ) → bit_and x (2 ^ w - 1) ≡ bits 0 w x
masked_low w x = and_mask x w ∙ ap (λ (y : ℕ). y % 2 ^ w) (omega arith)

-- what was spelled is read back
pub pow256 : (n : ℕ) → 0 < 256 ^ n
pow256 zero = omega arith
pow256 (suc n) = let p : 256 ^ suc n ≡ 256 ^ n * 256 = pow-suc 256 n in let q = pow256 n in omega arith

pub spelled_length : (n x : ℕ) → length (spelled n x) ≡ n
unfolding spelled
spelled_length zero x = refl
spelled_length (suc n) x = ap suc (spelled_length n x)

field-none : (s : List ℕ) (i : ℕ) → field_at 0 s i ≡ 0
unfolding field_at
field-none s i = refl

pub spelled-reads : (n x : ℕ) (r : List ℕ) → field_at n (spelled n x ++ r) 0 ≡ x % 256 ^ n
unfolding spelled
spelled-reads zero x r = field-none r 0 ∙ omega arith
spelled-reads (suc n) x r =
    let b : ℕ = x / 256 ^ n % 256 in
    let s : List ℕ = b ∷ (spelled n x ++ r) in
    let e : suc n ≡ 1 + n = omega arith in
    let h : field_at n s 1 ≡ x % 256 ^ n = sym (field_drop n s 1 0) ∙ spelled-reads n x r in
    ap (λ (k : ℕ). field_at k s 0) e ∙ field-join 1 n s 0 ∙ ap₂ (λ (y z : ℕ). y * 256 ^ n + z) (field-one s 0) h
    ∙ sym (ap (λ (m : ℕ). x % m) (pow-succ' 256 n) ∙ mod-mul x (omega arith) (pow256 n))
