-- The CRC is linear: the register that a sum without carry of two registers leaves over the sum of two messages is the sum of what each leaves.
use mathlib.Core.Path.{◌≡◌, refl, sym, ap, ap₂, ◌∙◌}
use mathlib.Core.Bool.{cond}
use mathlib.Core.List.{List, [], ◌∷◌}
use Prim.Native.Nat.{ℕ, zero, suc, ◌*◌, ◌/◌, ◌%◌, ◌^◌, ◌<◌}
use native.Mathlib.Nat.{mod-lt, zero-lt-suc, add-zero}
use native.Mathlib.Omega.{arith}
use lib.Dec.{eqb}
use lib.ListN.{length, replicate}
use lib.Pow.{pow_pos}
use lib.Bits.{bit_xor, xor_block, xor_shr, xor_mod, xor_zero_r, xor_lt}
use Rattle.section.specs.Crc.{generator, crc_bit, crc_bits, crc_byte, crc_from}
use Rattle.section.proofs.Laws.Crc.{bit_lt, bits_lt}
use Rattle.crc_tables.specs.By.{◌⊕◌}
use Rattle.crc_tables.proofs.Laws.Xor.{crosswise}

-- what is added to the register for the bit that leaves it, sum of its top and the message's
abbrev fed : ℕ → ℕ
fed zero = 0
fed (suc x) = generator

-- a bit, without a test: the register moved up, and what is fed back
bit_is : (u x d : ℕ) → x < 2 → d < 2 → cond (eqb x d) u (u ⊕ generator) ≡ u ⊕ fed (x ⊕ d)
bit_is u zero zero hx hd = sym (xor_zero_r u)
bit_is u zero (suc zero) hx hd = refl
bit_is u (suc zero) zero hx hd = refl
bit_is u (suc zero) (suc zero) hx hd = sym (xor_zero_r u)
bit_is u zero (suc (suc d)) hx hd = absurd (omega arith)
bit_is u (suc zero) (suc (suc d)) hx hd = absurd (omega arith)
bit_is u (suc (suc x)) d hx hd = absurd (omega arith)

bit-fed : (r d : ℕ) → r < 2 ^ 32 → d < 2 → crc_bit r d ≡ r * 2 % 2 ^ 32 ⊕ fed (r / 2 ^ 31 ⊕ d)
unfolding crc_bit
bit-fed r d hr hd = bit_is (r * 2 % 2 ^ 32) (r / 2 ^ 31) d (omega arith) hd

fed_xor : (x y : ℕ) → x < 2 → y < 2 → fed (x ⊕ y) ≡ fed x ⊕ fed y
fed_xor zero y hx hy = refl
fed_xor (suc zero) zero hx hy = refl
fed_xor (suc zero) (suc zero) hx hy = refl
fed_xor (suc zero) (suc (suc y)) hx hy = absurd (omega arith)
fed_xor (suc (suc x)) y hx hy = absurd (omega arith)

double_xor : (a b : ℕ) → (a ⊕ b) * 2 ≡ a * 2 ⊕ b * 2
double_xor a b = sym (simp add-zero at (xor_block 1 a b 0 0 (pow_pos 1) (pow_pos 1)))

up_xor : (a b : ℕ) → (a ⊕ b) * 2 % 2 ^ 32 ≡ a * 2 % 2 ^ 32 ⊕ b * 2 % 2 ^ 32
up_xor a b = ap (λ (x : ℕ). x % 2 ^ 32) (double_xor a b) ∙ xor_mod (a * 2) (b * 2) 32

bit_xor_lem : (a b d e : ℕ) → a < 2 ^ 32 → b < 2 ^ 32 → d < 2 → e < 2 → crc_bit (a ⊕ b) (d ⊕ e) ≡ crc_bit a d ⊕ crc_bit b e
bit_xor_lem a b d e ha hb hd he =
    let x : ℕ = a / 2 ^ 31 in
    let y : ℕ = b / 2 ^ 31 in
    let hx : x < 2 = omega arith in
    let hy : y < 2 = omega arith in
    bit-fed (a ⊕ b) (d ⊕ e) (xor_lt 32 a b ha hb) (xor_lt 1 d e hd he)
    ∙ ap₂ (λ (u v : ℕ). u ⊕ fed v) (up_xor a b) (ap (λ (z : ℕ). z ⊕ (d ⊕ e)) (xor_shr a b 31) ∙ crosswise x y d e)
    ∙ ap (λ (z : ℕ). a * 2 % 2 ^ 32 ⊕ b * 2 % 2 ^ 32 ⊕ z) (fed_xor (x ⊕ d) (y ⊕ e) (xor_lt 1 x d hx hd) (xor_lt 1 y e hy he))
    ∙ crosswise (a * 2 % 2 ^ 32) (b * 2 % 2 ^ 32) (fed (x ⊕ d)) (fed (y ⊕ e))
    ∙ sym (ap₂ bit_xor (bit-fed a d ha hd) (bit-fed b e hb he))

-- bit n of a sum
bit_of : (b c n : ℕ) → (b ⊕ c) / 2 ^ n % 2 ≡ b / 2 ^ n % 2 ⊕ c / 2 ^ n % 2
bit_of b c n = ap (λ (x : ℕ). x % 2) (xor_shr b c n) ∙ xor_mod (b / 2 ^ n) (c / 2 ^ n) 1

bits_xor : (n b c r s : ℕ) → r < 2 ^ 32 → s < 2 ^ 32 → crc_bits n (b ⊕ c) (r ⊕ s) ≡ crc_bits n b r ⊕ crc_bits n c s
unfolding crc_bits
bits_xor zero b c r s hr hs = refl
bits_xor (suc n) b c r s hr hs =
    let d : ℕ = b / 2 ^ n % 2 in
    let e : ℕ = c / 2 ^ n % 2 in
    let hd : d < 2 = mod-lt (b / 2 ^ n) (zero-lt-suc 1) in
    let he : e < 2 = mod-lt (c / 2 ^ n) (zero-lt-suc 1) in
    ap (crc_bits n (b ⊕ c)) (ap (crc_bit (r ⊕ s)) (bit_of b c n) ∙ bit_xor_lem r s d e hr hs hd he)
    ∙ bits_xor n b c (crc_bit r d) (crc_bit s e) (bit_lt r d) (bit_lt s e)

pub byte_xor : (b c r s : ℕ) → r < 2 ^ 32 → s < 2 ^ 32 → crc_byte (r ⊕ s) (b ⊕ c) ≡ crc_byte r b ⊕ crc_byte s c
byte_xor b c r s hr hs = bits_xor 8 b c r s hr hs

-- two messages as long as each other, added byte by byte
unfoldable pub added : List ℕ → List ℕ → List ℕ
added [] t = t
added (b ∷ s) [] = b ∷ s
added (b ∷ s) (c ∷ t) = b ⊕ c ∷ added s t

pub from_xor : (a b : List ℕ) (r s : ℕ) → length a ≡ length b → r < 2 ^ 32 → s < 2 ^ 32 → crc_from (r ⊕ s) (added a b) ≡ crc_from r a ⊕ crc_from s b
unfolding crc_from added
from_xor [] [] r s e hr hs = refl
from_xor [] (y ∷ b) r s e hr hs = absurd (omega arith)
from_xor (x ∷ a) [] r s e hr hs = absurd (omega arith)
from_xor (x ∷ a) (y ∷ b) r s e hr hs =
    ap (λ (q : ℕ). crc_from q (added a b)) (byte_xor x y r s hr hs)
    ∙ from_xor a b (crc_byte r x) (crc_byte s y) (omega arith) (bits_lt 8 x r hr) (bits_lt 8 y s hs)

-- nothing is added by clear bytes
pub added-clear : (s : List ℕ) → added (replicate (length s) 0) s ≡ s
unfolding added
added-clear [] = refl
added-clear (b ∷ s) = ap (λ (t : List ℕ). b ∷ t) (added-clear s)
