-- Laws of the CRC: what the code's loops need, the register's width, and that bytes followed by their own CRC leave zero.
use mathlib.Core.Path.{◌≡◌, refl, sym, ap, ◌∙◌}
use mathlib.Core.Bool.{Bool, true, false, cond}
use mathlib.Core.List.{List, [], ◌∷◌, ◌++◌}
use Prim.Native.Nat.{ℕ, zero, suc, ◌+◌, ◌-◌, ◌*◌, ◌/◌, ◌%◌, ◌^◌, ◌<◌, ◌≤◌}
use native.Mathlib.Numerals.{add-one}
use native.Mathlib.Omega.{arith}
use native.Mathlib.Nat.{pow-suc, mul_assoc}
use lib.Pow.{field, shl-shr, shr-shr}
use lib.Dec.{eqb, lit<}
use lib.ListN.{length, get_or, drop, drop_of_length-le}
use lib.Seq.{drop-cons}
use lib.Bits.{bit_xor, xor_lt}
use borrow.Author.Tests.{eq-eqb, ne_eqb}
use Rattle.wire.specs.Fields.{spelled}
use Rattle.section.specs.Crc.{generator, all_ones, crc_bit, crc_bits, crc_byte, crc_from, crc_of}

-- one bit, by what leaves the register
pub bit-same : (r d : ℕ) → r / 2 ^ 31 ≡ d → crc_bit r d ≡ r * 2 % 2 ^ 32
unfolding crc_bit
bit-same r d h = simp (eq-eqb _ _ h)

pub bit-other : (r d : ℕ) → (r / 2 ^ 31 ≡ d → ⊥) → crc_bit r d ≡ bit_xor (r * 2 % 2 ^ 32) generator
unfolding crc_bit
bit-other r d h = simp (ne_eqb _ _ h)

-- n bits: none, and one before the others
pub bits_none : (b r : ℕ) → crc_bits 0 b r ≡ r
unfolding crc_bits
bits_none b r = refl

pub bits-next : (n b r : ℕ) → 0 < n → crc_bits n b r ≡ crc_bits (n - 1) b (crc_bit r (b / 2 ^ (n - 1) % 2))
unfolding crc_bits
bits-next zero b r h = absurd (omega arith)
bits-next (suc n) b r h = let e : suc n - 1 ≡ n = omega arith in rw e

-- some bytes: one before the others, and the end
pub from_next : (r i : ℕ) (s : List ℕ) → i < length s → crc_from r (drop i s) ≡ crc_from (crc_byte r (get_or s i 0)) (drop (i + 1) s)
unfolding crc_from
from_next r i s h = rw (add-one, drop-cons s i 0)

pub from_end : (r i : ℕ) (s : List ℕ) → length s ≤ i → crc_from r (drop i s) ≡ r
unfolding crc_from
from_end r i s h = rw (drop_of_length-le s h)

pub from_append : (r : ℕ) (s t : List ℕ) → crc_from r (s ++ t) ≡ crc_from (crc_from r s) t
unfolding crc_from
from_append r [] t = refl
from_append r (b ∷ s) t = from_append (crc_byte r b) s t

-- the register has 32 bits
pub bit_lt : (r d : ℕ) → crc_bit r d < 2 ^ 32
unfolding crc_bit
bit_lt r d = go (eqb (r / 2 ^ 31) d)
  where
    go : (t : Bool) → cond t (r * 2 % 2 ^ 32) (bit_xor (r * 2 % 2 ^ 32) generator) < 2 ^ 32
    go true = omega arith
    go false = xor_lt 32 (r * 2 % 2 ^ 32) generator (omega arith) (lit< tt)

pub bits_lt : (n b r : ℕ) → r < 2 ^ 32 → crc_bits n b r < 2 ^ 32
unfolding crc_bits
bits_lt zero b r h = h
bits_lt (suc n) b r h = bits_lt n b (crc_bit r (b / 2 ^ n % 2)) (bit_lt r (b / 2 ^ n % 2))

pub from_lt : (s : List ℕ) (r : ℕ) → r < 2 ^ 32 → crc_from r s < 2 ^ 32
unfolding crc_from
from_lt [] r h = h
from_lt (b ∷ s) r h = from_lt s (crc_byte r b) (bits_lt 8 b r h)

pub crc_lt : (s : List ℕ) → crc_of s < 2 ^ 32
unfolding crc_of
crc_lt s = from_lt s all_ones (lit< tt)

-- THE REGISTER'S OWN BITS SHIFT IT OUT: fed its own top bit, it only moves up. Here k of its top eight bits have gone, and n are to come.
own-top : (n k r : ℕ) → n + k ≡ 7 → r * 2 ^ k % 2 ^ 32 / 2 ^ 31 ≡ r / 2 ^ 24 / 2 ^ n % 2
own-top n k r e =
    let q : 31 ≡ k + (24 + n) = omega arith in
    let p : 2 ^ 31 ≡ 2 ^ (k + (24 + n)) = ap (λ (m : ℕ). 2 ^ m) q in
    field (r * 2 ^ k) 1 31
    ∙ ap (λ (x : ℕ). x % 2) (ap (λ (m : ℕ). r * 2 ^ k / m) p ∙ sym (shr-shr (r * 2 ^ k) k (24 + n)) ∙ ap (λ (x : ℕ). x / 2 ^ (24 + n)) (shl-shr r k) ∙ sym (shr-shr r 24 n))

own_bits : (n k r : ℕ) → n + k ≡ 8 → crc_bits n (r / 2 ^ 24) (r * 2 ^ k % 2 ^ 32) ≡ r * 2 ^ 8 % 2 ^ 32
unfolding crc_bits
own_bits zero k r e = let f : k ≡ 8 = omega arith in ap (λ (m : ℕ). r * 2 ^ m % 2 ^ 32) f
own_bits (suc n) k r e =
    let b : ℕ = r / 2 ^ 24 in
    let d : r * 2 ^ k * 2 ≡ r * 2 ^ suc k = mul_assoc r (2 ^ k) 2 ∙ ap (λ (x : ℕ). r * x) (sym (pow-suc 2 k)) in
    let u : crc_bit (r * 2 ^ k % 2 ^ 32) (b / 2 ^ n % 2) ≡ r * 2 ^ suc k % 2 ^ 32 = bit-same (r * 2 ^ k % 2 ^ 32) (b / 2 ^ n % 2) (own-top n k r (omega arith)) ∙ omega arith in
    ap (crc_bits n b) u ∙ own_bits n (suc k) r (omega arith)

pub own-byte : (r b : ℕ) → r < 2 ^ 32 → b ≡ r / 2 ^ 24 → crc_byte r b ≡ r * 256 % 2 ^ 32
own-byte r b h e =
    let f : r ≡ r * 2 ^ 0 % 2 ^ 32 = omega arith in
    ap (λ (x : ℕ). crc_bits 8 x r) e ∙ ap (crc_bits 8 (r / 2 ^ 24)) f ∙ own_bits 8 0 r refl

pub own-bytes : (r : ℕ) → r < 2 ^ 32 → crc_from r (spelled 4 r) ≡ 0
unfolding crc_from spelled
own-bytes r h =
    let r₁ : ℕ = r * 256 % 2 ^ 32 in
    let r₂ : ℕ = r₁ * 256 % 2 ^ 32 in
    let r₃ : ℕ = r₂ * 256 % 2 ^ 32 in
    let e₀ : crc_byte r (r / 2 ^ 24 % 256) ≡ r₁ = own-byte r _ h (omega arith) in
    let e₁ : crc_byte r₁ (r / 2 ^ 16 % 256) ≡ r₂ = own-byte r₁ _ (omega arith) (omega arith) in
    let e₂ : crc_byte r₂ (r / 2 ^ 8 % 256) ≡ r₃ = own-byte r₂ _ (omega arith) (omega arith) in
    let e₃ : crc_byte r₃ (r / 1 % 256) ≡ r₃ * 256 % 2 ^ 32 = own-byte r₃ _ (omega arith) (omega arith) in
    let z : r₃ * 256 % 2 ^ 32 ≡ 0 = omega arith in
    cc

-- BYTES FOLLOWED BY THEIR OWN CRC LEAVE ZERO: what a writer of sections needs, and why no header or body is refused with 5 whatever its CRC.
pub own-crc : (s : List ℕ) → crc_of (s ++ spelled 4 (crc_of s)) ≡ 0
unfolding crc_of
own-crc s = from_append all_ones s (spelled 4 (crc_from all_ones s)) ∙ own-bytes (crc_from all_ones s) (crc_lt s)
