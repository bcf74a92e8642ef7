-- Fields of bits, once over place and width: what was put is read, what was read and put again changes nothing, fields apart leave each other alone; and the fields that lie in whole bytes.
use Prim.Native.Nat.{ℕ, zero, suc, ◌+◌, ◌-◌, ◌*◌, ◌/◌, ◌%◌, ◌^◌, ◌<◌, ◌≤◌}
use mathlib.Core.Path.{◌≡◌, refl, sym, ap, ap₂, subst, ◌∙◌}
use mathlib.Core.Bool.{Bool, true, false}
use mathlib.Core.List.{List, [], ◌∷◌}
use native.Mathlib.Nat.{mod-lt, pow-suc}
use native.Mathlib.Omega.{arith}
use lib.Dec.{ltb, eqb}
use lib.ListN.{length, set, drop, length-set}
use lib.Arith.{digits_lt}
use lib.Pow.{pow-add, pow_pos, shr-shr, shr_lt, mod-pow-add, high, low, mod-mod-pow, field, split}
use lib.Seq.{get_or-set_same, get_or-set_other, set-get_or, get_or-drop}
use borrow.Author.Tests.{ltb-true, ltb-false, eqb-true, eqb-false}
use Rattle.wire.specs.Fields.{byte_at, field_at, bits}
use Rattle.wire.specs.Bits.{AllBytes, above, bit_at, bits_at, with_bit_of, put_bit, put_bits, width, values_at, put_all, Fit}
use Rattle.wire.proofs.Laws.Fields.{bits_lt}

-- NUMBERS: a field that lies in the high part, past the j low bits
pub bits-high : (j k w hi lo : ℕ) → lo < 2 ^ j → bits (j + k) w (hi * 2 ^ j + lo) ≡ bits k w hi
bits-high j k w hi lo h = ap (λ (y : ℕ). y % 2 ^ w) (sym (shr-shr (hi * 2 ^ j + lo) j k) ∙ ap (λ (y : ℕ). y / 2 ^ k) (high hi j h))

-- a field that lies in the j low bits
bits_mod : (j k w x : ℕ) → k + w ≤ j → bits k w (x % 2 ^ j) ≡ bits k w x
bits_mod j k w x h =
    let d : j ≡ (j - (k + w)) + w + k = omega arith in
    let e : x % 2 ^ j / 2 ^ k ≡ x / 2 ^ k % 2 ^ ((j - (k + w)) + w) = ap (λ (i : ℕ). x % 2 ^ i / 2 ^ k) d ∙ field x ((j - (k + w)) + w) k in
    ap (λ (y : ℕ). y % 2 ^ w) e ∙ mod-mod-pow (x / 2 ^ k) (j - (k + w)) w

pub bits-low : (j k w hi lo : ℕ) → lo < 2 ^ j → k + w ≤ j → bits k w (hi * 2 ^ j + lo) ≡ bits k w lo
bits-low j k w hi lo h l = sym (bits_mod j k w (hi * 2 ^ j + lo) l) ∙ ap (bits k w) (low hi j h)

-- one bit more at the low end
bits-more : (j n x : ℕ) → bits j (suc n) x ≡ bits (suc j) n x * 2 + bits j 1 x
bits-more j n x =
    let o : suc n ≡ n + 1 = omega arith in
    let q : j + 1 ≡ suc j = omega arith in
    ap (λ (m : ℕ). x / 2 ^ j % 2 ^ m) o ∙ mod-pow-add (x / 2 ^ j) n 1
    ∙ ap (λ (y : ℕ). y % 2 ^ n * 2 + x / 2 ^ j % 2) (shr-shr x j 1 ∙ ap (λ (m : ℕ). x / 2 ^ m) q)

-- the bit that was made, and the others
made : (j v x : ℕ) → v < 2 → bits j 1 (with_bit_of j v x) ≡ v
made j v x h =
    let l = mod-lt x (pow_pos j) in
    ap (λ (y : ℕ). y % 2) (high (x / 2 ^ suc j * 2 + v) j l) ∙ omega arith

kept-below : (j k v x : ℕ) → k < j → bits k 1 (with_bit_of j v x) ≡ bits k 1 x
kept-below j k v x h =
    bits-low j k 1 (x / 2 ^ suc j * 2 + v) (x % 2 ^ j) (mod-lt x (pow_pos j)) (omega arith) ∙ bits_mod j k 1 x (omega arith)

kept_above : (j m v x : ℕ) → v < 2 → bits (j + suc m) 1 (with_bit_of j v x) ≡ bits (j + suc m) 1 x
kept_above j m v x h =
    let a = bits-high j (suc m) 1 (x / 2 ^ suc j * 2 + v) (x % 2 ^ j) (mod-lt x (pow_pos j)) in
    let q : suc m ≡ 1 + m = omega arith in
    let o : suc j + m ≡ j + suc m = omega arith in
    a ∙ ap (λ (i : ℕ). bits i 1 (x / 2 ^ suc j * 2 + v)) q ∙ bits-high 1 m 1 (x / 2 ^ suc j) v h ∙ ap (λ (y : ℕ). y % 2) (shr-shr x (suc j) m ∙ ap (λ (i : ℕ). x / 2 ^ i) o)

kept : (j k v x : ℕ) → v < 2 → (k ≡ j → ⊥) → bits k 1 (with_bit_of j v x) ≡ bits k 1 x
kept j k v x h n = go (ltb k j) refl
  where
    go : (t : Bool) → ltb k j ≡ t → bits k 1 (with_bit_of j v x) ≡ bits k 1 x
    go true e = kept-below j k v x (ltb-true k j e)
    go false e =
        let l : j ≤ k = ltb-false k j e in
        let p : j < k = omega (arith, l, n) in
        let o : j + suc (k - suc j) ≡ k = omega arith in
        ap (λ (i : ℕ). bits i 1 (with_bit_of j v x)) (sym o) ∙ kept_above j (k - suc j) v x h ∙ ap (λ (i : ℕ). bits i 1 x) o

-- a bit made what it is
as_it-is : (j x : ℕ) → with_bit_of j (bits j 1 x) x ≡ x
as_it-is j x =
    let o : j + 1 ≡ suc j = omega arith in
    let e : x / 2 ^ suc j ≡ x / 2 ^ j / 2 = ap (λ (i : ℕ). x / 2 ^ i) (sym o) ∙ sym (shr-shr x j 1) in
    let q : x / 2 ^ suc j * 2 + bits j 1 x ≡ x / 2 ^ j = ap (λ (y : ℕ). y * 2 + bits j 1 x) e ∙ omega arith in
    ap (λ (y : ℕ). y * 2 ^ j + x % 2 ^ j) q ∙ split x j

-- BYTES: one bit
low_bit : (v : ℕ) → v % 2 < 2
low_bit v = omega arith

pub bit_put : (v : ℕ) (s : List ℕ) (i : ℕ) → i < 8 * length s → bit_at (put_bit v s i) i ≡ v % 2
unfolding put_bit
bit_put v s i h =
    let l : i / 8 < length s = omega arith in
    ap (bits (above i) 1) (get_or-set_same s (i / 8) (with_bit_of (above i) (v % 2) (byte_at s (i / 8))) 0 l) ∙ made (above i) (v % 2) (byte_at s (i / 8)) (low_bit v)

pub bit-apart : (v : ℕ) (s : List ℕ) (i j : ℕ) → i < 8 * length s → (j ≡ i → ⊥) → bit_at (put_bit v s i) j ≡ bit_at s j
unfolding put_bit
bit-apart v s i j h n = go (eqb (j / 8) (i / 8)) refl
  where
    go : (t : Bool) → eqb (j / 8) (i / 8) ≡ t → bit_at (set s (i / 8) (with_bit_of (above i) (v % 2) (byte_at s (i / 8)))) j ≡ bit_at s j
    go true e =
        let q : j / 8 ≡ i / 8 = eqb-true (j / 8) (i / 8) e in
        let l : i / 8 < length s = omega (arith, h) in
        let m : above j ≡ above i → ⊥ = λ a. n (omega (arith, q, a)) in
        ap (λ (k : ℕ). bits (above j) 1 (byte_at (set s (i / 8) (with_bit_of (above i) (v % 2) (byte_at s (i / 8)))) k)) q
        ∙ ap (bits (above j) 1) (get_or-set_same s (i / 8) (with_bit_of (above i) (v % 2) (byte_at s (i / 8))) 0 l)
        ∙ kept (above i) (above j) (v % 2) (byte_at s (i / 8)) (low_bit v) m
        ∙ ap (λ (k : ℕ). bits (above j) 1 (byte_at s k)) (sym q)
    go false e = ap (bits (above j) 1) (get_or-set_other s (i / 8) (j / 8) (with_bit_of (above i) (v % 2) (byte_at s (i / 8))) 0 (eqb-false (j / 8) (i / 8) e))

-- a bit that was read, put again
bit-again : (v : ℕ) (s : List ℕ) (i : ℕ) → v % 2 ≡ bit_at s i → put_bit v s i ≡ s
unfolding put_bit
bit-again v s i e = ap (set s (i / 8)) (ap (λ (b : ℕ). with_bit_of (above i) b (byte_at s (i / 8))) e ∙ as_it-is (above i) (byte_at s (i / 8))) ∙ set-get_or s (i / 8) 0

bit_length : (v : ℕ) (s : List ℕ) (i : ℕ) → length (put_bit v s i) ≡ length s
unfolding put_bit
bit_length v s i = length-set s (i / 8) (with_bit_of (above i) (v % 2) (byte_at s (i / 8)))

-- FIELDS
pub put_length : (n v : ℕ) (s : List ℕ) (i : ℕ) → length (put_bits n v s i) ≡ length s
unfolding put_bits
put_length zero v s i = refl
put_length (suc n) v s i = bit_length v (put_bits n (v / 2) s i) (i + n) ∙ put_length n (v / 2) s i

pub bits_at_lt : (n : ℕ) (s : List ℕ) (i : ℕ) → bits_at n s i < 2 ^ n
unfolding bits_at
bits_at_lt zero s i = omega arith
bits_at_lt (suc n) s i =
    let p : 2 ^ suc n ≡ 2 ^ n * 2 = pow-suc 2 n in
    let f = bits_at_lt n s i in
    let l : bit_at s (i + n) < 2 = bits_lt (above (i + n)) 1 (byte_at s ((i + n) / 8)) in
    omega arith

-- fields of the same bits
alike : (n : ℕ) (s t : List ℕ) (i : ℕ) → ((k : ℕ) → i ≤ k → k < i + n → bit_at s k ≡ bit_at t k) → bits_at n s i ≡ bits_at n t i
unfolding bits_at
alike zero s t i f = refl
alike (suc n) s t i f = ap₂ (λ (x y : ℕ). x * 2 + y) (alike n s t i (λ k a b. f k a (omega arith))) (f (i + n) (omega arith) (omega arith))

-- a bit outside a field that is put
bit-outside : (n v : ℕ) (s : List ℕ) (i k : ℕ) → i + n ≤ 8 * length s → ((i ≤ k) × (k < i + n) → ⊥) → bit_at (put_bits n v s i) k ≡ bit_at s k
unfolding put_bits
bit-outside zero v s i k h o = refl
bit-outside (suc n) v s i k h o =
    let l = put_length n (v / 2) s i in
    bit-apart v (put_bits n (v / 2) s i) (i + n) k (omega arith) (λ e. o (omega (arith, e), omega (arith, e)))
    ∙ bit-outside n (v / 2) s i k (omega arith) (λ w. o (w.0, let a = w.1 in omega (arith, a)))

-- A FIELD THAT WAS PUT IS READ
pub bits_put : (n v : ℕ) (s : List ℕ) (i : ℕ) → i + n ≤ 8 * length s → v < 2 ^ n → bits_at n (put_bits n v s i) i ≡ v
unfolding bits_at put_bits
bits_put zero v s i h l = omega arith
bits_put (suc n) v s i h l =
    let p : 2 ^ suc n ≡ 2 ^ n * 2 = pow-suc 2 n in
    let m = put_length n (v / 2) s i in
    let a : bits_at n (put_bit v (put_bits n (v / 2) s i) (i + n)) i ≡ v / 2 =
    alike n _ (put_bits n (v / 2) s i) i (λ k x y. bit-apart v (put_bits n (v / 2) s i) (i + n) k (omega arith) (λ e. omega (arith, y, e)))
    ∙ bits_put n (v / 2) s i (omega arith) (omega arith) in
    let b = bit_put v (put_bits n (v / 2) s i) (i + n) (omega arith) in
    ap₂ (λ (x y : ℕ). x * 2 + y) a b ∙ omega arith

-- A FIELD THAT WAS READ, PUT AGAIN, CHANGES NOTHING
pub put-bits : (n : ℕ) (s : List ℕ) (i : ℕ) → put_bits n (bits_at n s i) s i ≡ s
unfolding bits_at put_bits
put-bits zero s i = refl
put-bits (suc n) s i =
    let l : bit_at s (i + n) < 2 = bits_lt (above (i + n)) 1 (byte_at s ((i + n) / 8)) in
    let v : ℕ = bits_at n s i * 2 + bit_at s (i + n) in
    let h : v / 2 ≡ bits_at n s i = omega arith in
    let b : v % 2 ≡ bit_at s (i + n) = omega arith in
    ap (λ (u : ℕ). put_bit v (put_bits n u s i) (i + n)) h
    ∙ ap (λ (t : List ℕ). put_bit v t (i + n)) (put-bits n s i)
    ∙ bit-again v s (i + n) b

-- FIELDS APART leave each other alone
pub bits-apart : (n v : ℕ) (s : List ℕ) (i m k : ℕ) → i + n ≤ 8 * length s → ((j : ℕ) → k ≤ j → j < k + m → (i ≤ j) × (j < i + n) → ⊥)
    → bits_at m (put_bits n v s i) k ≡ bits_at m s k
bits-apart n v s i m k h o = alike m (put_bits n v s i) s k (λ j a b. bit-outside n v s i j h (o j a b))

-- FIELDS IN WHOLE BYTES: of the w bytes from a on as one number, bit b is that far below the top
bit-field : (w : ℕ) (s : List ℕ) (a b : ℕ) → AllBytes s → b < 8 * w → bit_at s (8 * a + b) ≡ bits (8 * w - suc b) 1 (field_at w s a)
unfolding field_at
bit-field zero s a b y h = absurd (omega arith)
bit-field (suc w) s a b y h = go (bit-field w s a b y) (ltb b (8 * w)) refl
  where
    go : (b < 8 * w → bit_at s (8 * a + b) ≡ bits (8 * w - suc b) 1 (field_at w s a)) → (t : Bool) → ltb b (8 * w) ≡ t
        → bit_at s (8 * a + b) ≡ bits (8 * suc w - suc b) 1 (field_at w s a * 256 + byte_at s (a + w))
    go f true e =
        let l : b < 8 * w = ltb-true b (8 * w) e in
        let o : 8 * suc w - suc b ≡ 8 + (8 * w - suc b) = omega (arith, l) in
        f l
        ∙ sym (ap (λ (j : ℕ). bits j 1 (field_at w s a * 256 + byte_at s (a + w))) o ∙ bits-high 8 (8 * w - suc b) 1 (field_at w s a) (byte_at s (a + w)) (y (a + w)))
    go f false e =
        let l : 8 * w ≤ b = ltb-false b (8 * w) e in
        let p : (8 * a + b) / 8 ≡ a + w = omega (arith, l, h) in
        let q : above (8 * a + b) ≡ 8 * suc w - suc b = omega (arith, l, h) in
        let r : 8 * suc w - suc b + 1 ≤ 8 = omega (arith, l, h) in
        ap₂ (λ (j k : ℕ). bits j 1 (byte_at s k)) q p ∙ sym (bits-low 8 (8 * suc w - suc b) 1 (field_at w s a) (byte_at s (a + w)) (y (a + w)) r)

pub bits-field : (n w : ℕ) (s : List ℕ) (a b : ℕ) → AllBytes s → b + n ≤ 8 * w → bits_at n s (8 * a + b) ≡ bits (8 * w - (b + n)) n (field_at w s a)
unfolding bits_at
bits-field zero w s a b y h = omega arith
bits-field (suc n) w s a b y h =
    let j : ℕ = 8 * w - (b + suc n) in
    let o : 8 * w - (b + n) ≡ suc j = omega arith in
    let p : 8 * w - suc (b + n) ≡ j = omega arith in
    let q : 8 * a + b + n ≡ 8 * a + (b + n) = omega arith in
    let e : bit_at s (8 * a + b + n) ≡ bits j 1 (field_at w s a) =
    ap (bit_at s) q ∙ bit-field w s a (b + n) y (omega arith) ∙ ap (λ (k : ℕ). bits k 1 (field_at w s a)) p in
    ap₂ (λ (x z : ℕ). x * 2 + z) (bits-field n w s a b y (omega arith) ∙ ap (λ (k : ℕ). bits k n (field_at w s a)) o) e
    ∙ sym (bits-more j n (field_at w s a))

-- FIELDS SIDE BY SIDE: what comes before them is left alone
pub all_length : (ws vs s : List ℕ) (i : ℕ) → length (put_all ws vs s i) ≡ length s
all_length [] vs s i = refl
all_length (w ∷ ws) [] s i = refl
all_length (w ∷ ws) (v ∷ vs) s i = all_length ws vs (put_bits w v s i) (i + w) ∙ put_length w v s i

all_apart : (ws vs s : List ℕ) (i m k : ℕ) → i + width ws ≤ 8 * length s → k + m ≤ i → bits_at m (put_all ws vs s i) k ≡ bits_at m s k
all_apart [] vs s i m k h l = refl
all_apart (w ∷ ws) [] s i m k h l = refl
all_apart (w ∷ ws) (v ∷ vs) s i m k h l =
    let e = put_length w v s i in
    all_apart ws vs (put_bits w v s i) (i + w) m k (omega arith) (omega arith)
    ∙ bits-apart w v s i m k (omega arith) (λ j a b c. let d = c.0 in omega (arith, b, d, l))

-- what was put is read
pub all_put : (ws vs s : List ℕ) (i : ℕ) → Fit ws vs → i + width ws ≤ 8 * length s → values_at ws (put_all ws vs s i) i ≡ vs
all_put [] [] s i f h = refl
all_put [] (v ∷ vs) s i f h = absurd f
all_put (w ∷ ws) [] s i f h = absurd f
all_put (w ∷ ws) (v ∷ vs) s i f h =
    let e = put_length w v s i in
    ap₂ (λ (x : ℕ) (xs : List ℕ). x ∷ xs)
    (all_apart ws vs (put_bits w v s i) (i + w) w i (omega arith) (omega arith) ∙ bits_put w v s i (omega arith) f.0)
    (all_put ws vs (put_bits w v s i) (i + w) f.1 (omega arith))

-- bytes stay bytes
made_lt : (m j v x : ℕ) → x < 2 ^ (m + suc j) → v < 2 → with_bit_of j v x < 2 ^ (m + suc j)
made_lt m j v x h l =
    let q : x / 2 ^ suc j < 2 ^ m = shr_lt m (suc j) h in
    let p : 2 ^ suc m ≡ 2 ^ m * 2 = pow-suc 2 m in
    let o : m + suc j ≡ suc m + j = omega arith in
    let b : x / 2 ^ suc j * 2 + v < 2 ^ suc m = omega (arith, q, p, l) in
    rw (ap (λ (k : ℕ). 2 ^ k) o ∙ pow-add 2 (suc m) j) (digits_lt b (mod-lt x (pow_pos j)))

bit-bytes : (v : ℕ) (s : List ℕ) (i : ℕ) → i < 8 * length s → AllBytes s → AllBytes (put_bit v s i)
unfolding put_bit
bit-bytes v s i h b k = go (eqb k (i / 8)) refl
  where
    fits : with_bit_of (above i) (v % 2) (byte_at s (i / 8)) < 256
    fits =
        let o : (7 - above i) + suc (above i) ≡ 8 = omega arith in
        let e : 2 ^ ((7 - above i) + suc (above i)) ≡ 256 = ap (λ (m : ℕ). 2 ^ m) o in
        let l = made_lt (7 - above i) (above i) (v % 2) (byte_at s (i / 8)) (rw e (b (i / 8))) (low_bit v) in
        subst (λ (m : ℕ). with_bit_of (above i) (v % 2) (byte_at s (i / 8)) < m) e l

    go : (t : Bool) → eqb k (i / 8) ≡ t → byte_at (set s (i / 8) (with_bit_of (above i) (v % 2) (byte_at s (i / 8)))) k < 256
    go true e =
        let l : i / 8 < length s = omega (arith, h) in
        let q : k ≡ i / 8 = eqb-true k (i / 8) e in
        rw (q, get_or-set_same s (i / 8) (with_bit_of (above i) (v % 2) (byte_at s (i / 8))) 0 l) fits
    go false e = rw (get_or-set_other s (i / 8) k (with_bit_of (above i) (v % 2) (byte_at s (i / 8))) 0 (eqb-false k (i / 8) e)) (b k)

put-bytes : (n v : ℕ) (s : List ℕ) (i : ℕ) → i + n ≤ 8 * length s → AllBytes s → AllBytes (put_bits n v s i)
unfolding put_bits
put-bytes zero v s i h b = b
put-bytes (suc n) v s i h b =
    let l = put_length n (v / 2) s i in
    bit-bytes v (put_bits n (v / 2) s i) (i + n) (omega arith) (put-bytes n (v / 2) s i (omega arith) b)

pub all-bytes : (ws vs s : List ℕ) (i : ℕ) → i + width ws ≤ 8 * length s → AllBytes s → AllBytes (put_all ws vs s i)
all-bytes [] vs s i h b = b
all-bytes (w ∷ ws) [] s i h b = b
all-bytes (w ∷ ws) (v ∷ vs) s i h b =
    let l = put_length w v s i in
    all-bytes ws vs (put_bits w v s i) (i + w) (omega arith) (put-bytes w v s i (omega arith) b)

-- a field of what is left after a bytes
pub bits_drop : (n : ℕ) (s : List ℕ) (a i : ℕ) → bits_at n (drop a s) i ≡ bits_at n s (8 * a + i)
unfolding bits_at
bits_drop zero s a i = refl
bits_drop (suc n) s a i =
    let p : a + (i + n) / 8 ≡ (8 * a + i + n) / 8 = omega arith in
    let q : above (i + n) ≡ above (8 * a + i + n) = omega arith in
    ap₂ (λ (x y : ℕ). x * 2 + y) (bits_drop n s a i)
    (ap (bits (above (i + n)) 1) (get_or-drop a s ((i + n) / 8) 0) ∙ ap₂ (λ (j k : ℕ). bits j 1 (byte_at s k)) q p)
