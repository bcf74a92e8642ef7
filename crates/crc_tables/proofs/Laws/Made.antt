-- How the tables are made: an entry is the sum of those of its bits, and that of a bit is that of the bit below and one clear bit more.
use mathlib.Core.Path.{◌≡◌, refl, sym, ap, ap₂, subst, ◌∙◌}
use mathlib.Core.List.{List, [], ◌∷◌, ◌++◌}
use Prim.Native.Nat.{ℕ, zero, suc, ◌+◌, ◌*◌, ◌/◌, ◌%◌, ◌^◌, ◌<◌, ◌≤◌}
use native.Mathlib.Numerals.{add-one, one-add}
use native.Mathlib.Omega.{arith}
use lib.Dec.{lit<}
use lib.ListN.{length, get_or, take, set, replicate, length-replicate}
use lib.Seq.{get_or-take, take-suc-set, take_all}
use lib.Pow.{pow-add, shr-shr, shl-shr}
use lib.Bits.{bit_xor, xor_comm, xor_self, xor_shifted}
use Rattle.section.specs.Crc.{generator, crc_bit, crc_bits, crc_byte, crc_from}
use Rattle.crc_tables.specs.By.{◌⊕◌}
use Rattle.crc_tables.specs.Tables.{left, first_entries, crc_tables}
use Rattle.crc_tables.proofs.Laws.Linear.{added, from_xor, added-clear}
use Rattle.crc_tables.proofs.Laws.Entries.{entry-is}

-- ---- the bits of a byte

pub twice-is : (n w : ℕ) → w ≡ 2 ^ n → w * 2 ≡ 2 ^ (n + 1)
twice-is n w e = ap (λ (x : ℕ). x * 2) e ∙ sym (pow-add 2 n 1)

-- ---- the sum of two

left_xor : (k a b : ℕ) → left k (a ⊕ b) ≡ left k a ⊕ left k b
unfolding left added
left_xor k a b =
    let z : List ℕ = replicate k 0 in
    let clear : added z z ≡ z = subst (λ (n : ℕ). added (replicate n 0) z ≡ z) (length-replicate k 0) (added-clear z) in
    ap (λ (s : List ℕ). crc_from 0 (a ⊕ b ∷ s)) (sym clear) ∙ from_xor (a ∷ z) (b ∷ z) 0 0 refl (lit< tt) (lit< tt)

-- a byte under the bit n, and that bit
left-with : (k n w j : ℕ) → w ≡ 2 ^ n → j < w → left k j ⊕ left k w ≡ left k (w + j)
left-with k n w j e h =
    let f : w ≡ 1 * 2 ^ n = omega arith in
    let l : j < 2 ^ n = omega arith in
    xor_comm (left k j) (left k w) ∙ sym (left_xor k w j)
    ∙ ap (left k) (ap (λ (x : ℕ). x ⊕ j) f ∙ xor_shifted 1 n j l ∙ ap (λ (x : ℕ). x + j) (sym f))

-- ---- one clear bit more

-- it may come before clear bytes, or after
bit_byte : (r : ℕ) → crc_byte (crc_bit r 0) 0 ≡ crc_bit (crc_byte r 0) 0
unfolding crc_bits
bit_byte r = refl

bit-after : (k r : ℕ) → crc_from (crc_bit r 0) (replicate k 0) ≡ crc_bit (crc_from r (replicate k 0)) 0
unfolding crc_from
bit-after zero r = refl
bit-after (suc k) r = ap (λ (x : ℕ). crc_from x (replicate k 0)) (bit_byte r) ∙ bit-after k (crc_byte r 0)

-- twice a number is its bits and a clear one
bits-twice : (n b r : ℕ) → crc_bits (suc n) (b * 2) r ≡ crc_bit (crc_bits n b r) 0
unfolding crc_bits
bits-twice zero b r = let e : b * 2 / 1 % 2 ≡ 0 = omega arith in ap (crc_bit r) e
bits-twice (suc n) b r =
    let p : 2 ^ suc n ≡ 2 ^ (1 + n) = ap (λ (m : ℕ). 2 ^ m) (sym (one-add n)) in
    let e : b * 2 / 2 ^ suc n ≡ b / 2 ^ n = ap (λ (m : ℕ). b * 2 / m) p ∙ sym (shr-shr (b * 2) 1 n) ∙ ap (λ (x : ℕ). x / 2 ^ n) (shl-shr b 1) in
    ap (λ (x : ℕ). crc_bits (suc n) (b * 2) (crc_bit r (x % 2))) e ∙ bits-twice n b (crc_bit r (b / 2 ^ n % 2))

byte-twice : (w : ℕ) → w < 128 → crc_byte 0 (w * 2) ≡ crc_bit (crc_byte 0 w) 0
unfolding crc_bits crc_bit
byte-twice w h =
    let z : w / 128 % 2 ≡ 0 = omega arith in
    bits-twice 7 w 0 ∙ ap (λ (d : ℕ). crc_bit (crc_bits 7 w (crc_bit 0 d)) 0) (sym z)

left-twice : (k w : ℕ) → w < 128 → left k (w * 2) ≡ crc_bit (left k w) 0
unfolding left crc_from
left-twice k w h = ap (λ (x : ℕ). crc_from x (replicate k 0)) (byte-twice w h) ∙ bit-after k (crc_byte 0 w)

-- the bit above a byte's highest is the lowest of the byte before
byte_next : crc_byte (crc_byte 0 1) 0 ≡ crc_bit (crc_byte 0 128) 0
unfolding crc_bits crc_bit
byte_next = refl

left-next : (k : ℕ) → left (k + 1) 1 ≡ crc_bit (left k 128) 0
unfolding left crc_from
left-next k =
    ap (λ (n : ℕ). crc_from (crc_byte 0 1) (replicate n 0)) (add-one k)
    ∙ ap (λ (x : ℕ). crc_from x (replicate k 0)) byte_next ∙ bit-after k (crc_byte 0 128)

-- ---- entry by entry

-- the byte 0, and the byte 1 of the first table
left_zero : (k : ℕ) → left k 0 ≡ 0
left_zero k = left_xor k 0 0 ∙ xor_self (left k 0)

pub left_one : generator ≡ left 0 1
unfolding left crc_from crc_bits crc_bit
left_one = refl

-- what is added for the bit w of table k, and after its highest for the lowest of the next table
abbrev pub Next : (k w x : ℕ) → Type 0
Next k w x = (w < 256 → x ≡ left k w) × (w ≡ 256 → x ≡ left (k + 1) 1)

pub next-first : (k x : ℕ) → x ≡ left k 1 → Next k 1 x
next-first k x e = (λ h. e, λ h. absurd (omega arith))

pub next-twice : (k w x : ℕ) → x ≡ left k w → Next k (w * 2) (crc_bit x 0)
next-twice k w x e =
    let f : crc_bit x 0 ≡ crc_bit (left k w) 0 = ap (λ (y : ℕ). crc_bit y 0) e in (
      λ h. f ∙ sym (left-twice k w (omega arith)),
      λ h. let g : w ≡ 128 = omega arith in f ∙ ap (λ (y : ℕ). crc_bit (left k y) 0) g ∙ sym (left-next k),
    )

-- the first i entries stand
abbrev pub Made : List ℕ → ℕ → Type 0
Made t i = take i t ≡ first_entries i

made : (t : List ℕ) (i j : ℕ) → Made t i → j < i → get_or t j 0 ≡ left (j / 256) (j % 256)
made t i j e h = sym (get_or-take i t j 0 h) ∙ ap (λ (l : List ℕ). get_or l j 0) e ∙ entry-is i j h

-- an entry more
made_more : (t : List ℕ) (i x : ℕ) → Made t i → i < length t → x ≡ left (i / 256) (i % 256) → Made (set t i x) (i + 1)
unfolding first_entries
made_more t i x e h f = rw add-one (take-suc-set t i x h ∙ ap₂ (λ (l : List ℕ) (y : ℕ). l ++ (y ∷ [])) e f)

-- the first of a table
pub begun : (t : List ℕ) (at : ℕ) → at % 256 ≡ 0 → at < length t → Made t at → Made (set t at 0) (at + 1)
begun t at a h e = made_more t at 0 e h (sym (left_zero (at / 256)) ∙ ap (left (at / 256)) (sym a))

-- one of the half that doubles it
pub doubled : (t : List ℕ) (at n w x j : ℕ) → at % 256 ≡ 0 → at + 256 ≤ length t → w ≡ 2 ^ n → w ≤ 128 → x ≡ left (at / 256) w → j < w
    → Made t (at + w + j) → Made (set t (at + w + j) (get_or t (at + j) 0 ⊕ x)) (at + w + (j + 1))
doubled t at n w x j a l p h f k e =
    let o : at + w + (j + 1) ≡ at + w + j + 1 = omega arith in
    let q : (at + j) / 256 ≡ at / 256 = omega arith in
    let r : (at + j) % 256 ≡ j = omega arith in
    let u : at / 256 ≡ (at + w + j) / 256 = omega arith in
    let v : w + j ≡ (at + w + j) % 256 = omega arith in
    let y : ℕ = get_or t (at + j) 0 ⊕ x in
    let g : y ≡ left ((at + w + j) / 256) ((at + w + j) % 256) =
    ap₂ bit_xor (made t (at + w + j) (at + j) e (omega arith) ∙ ap₂ left q r) f ∙ left-with (at / 256) n w j p k ∙ ap₂ left u v in
    ap (λ (i : ℕ). take i (set t (at + w + j) y)) o ∙ made_more t (at + w + j) y e (omega arith) g ∙ ap first_entries (sym o)

pub all_made : (t : List ℕ) (i : ℕ) → length t ≡ 4096 → i ≡ 4096 → Made t i → t ≡ crc_tables
unfolding crc_tables
all_made t i l h e = sym (take_all i t (omega arith)) ∙ e ∙ ap first_entries h
