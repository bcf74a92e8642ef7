-- What the code needs of the definitions: each way of a test, and the next step and the end of each loop, at a place of the list.
use mathlib.Core.Path.{◌≡◌, sym, ap, ◌∙◌}
use mathlib.Core.List.{List, ◌∷◌}
use Prim.Native.Nat.{ℕ, suc, ◌+◌, ◌-◌, ◌/◌, ◌<◌, ◌≤◌}
use native.Mathlib.Numerals.{add-one}
use native.Mathlib.Omega.{arith}
use lib.ListN.{length, get_or, take, drop, length-drop, drop_of_length-le}
use lib.Seq.{take_all, drop-cons}
use lib.Bits.{xor_zero_r}
use borrow.Author.Tests.{lt-ltb, le-ltb}
use Rattle.section.specs.Crc.{all_ones, crc_of}
use Rattle.crc_tables.specs.By.{◌⊕◌, entry_of, four, sixteen, one, ones, from_clear, up_to15, groups, crc_by}
use Rattle.crc_tables.proofs.Laws.Xor.{xor_assoc}

-- the rest of a slice from a place on
pub rest : (s : List ℕ) (i : ℕ) → take (length s - i) (drop i s) ≡ drop i s
rest s i = let e = length-drop i s in take_all (length s - i) (drop i s) (omega arith)

pub too_few : (t s : List ℕ) → length t < 4096 → crc_by t s ≡ crc_of s
unfolding crc_by
too_few t s h = simp (lt-ltb _ _ h)

pub enough : (t s : List ℕ) → 4096 ≤ length t → groups t (length s / 16) all_ones s ≡ crc_by t s
unfolding crc_by
enough t s h = simp (le-ltb _ _ h)

pub group-next : (t : List ℕ) (r : ℕ) (s : List ℕ) → 16 ≤ length s → groups t (length s / 16) r s ≡ groups t (length (drop 16 s) / 16) (sixteen t r s) (drop 16 s)
unfolding groups
group-next t r s h =
    let l = length-drop 16 s in
    let e : length s / 16 ≡ suc (length (drop 16 s) / 16) = omega arith in
    ap (λ (n : ℕ). groups t n r s) e

pub group_end : (t : List ℕ) (r : ℕ) (s : List ℕ) → length s < 16 → groups t (length s / 16) r s ≡ up_to15 t r s
unfolding groups
group_end t r s h = let e : length s / 16 ≡ 0 = omega arith in ap (λ (n : ℕ). groups t n r s) e

pub under4 : (t : List ℕ) (r : ℕ) (s : List ℕ) → length s < 4 → up_to15 t r s ≡ ones t r s
unfolding up_to15
under4 t r s h = simp (lt-ltb _ _ h)

pub from4 : (t : List ℕ) (r : ℕ) (s : List ℕ) → 4 ≤ length s → up_to15 t r s ≡ from_clear t (drop 4 s) ⊕ four t (length s - 4) r s
unfolding up_to15
from4 t r s h = simp (le-ltb _ _ h)

pub one-next : (t : List ℕ) (r i : ℕ) (s : List ℕ) → i < length s → ones t r (drop i s) ≡ ones t (one t r (get_or s i 0)) (drop (i + 1) s)
unfolding ones
one-next t r i s h = rw (add-one, drop-cons s i 0)

pub one_end : (t : List ℕ) (r i : ℕ) (s : List ℕ) → length s ≤ i → ones t r (drop i s) ≡ r
unfolding ones
one_end t r i s h = rw (drop_of_length-le s h)

-- a byte by the table that counts those after it
pub clear_next : (t : List ℕ) (x k i : ℕ) (s : List ℕ) → suc k + i ≡ length s
    → x ⊕ entry_of t k (0 ⊕ get_or s i 0) ⊕ from_clear t (drop (i + 1) s) ≡ x ⊕ from_clear t (drop i s)
unfolding from_clear
clear_next t x k i s h =
    let b : ℕ = get_or s i 0 in
    let l = length-drop (i + 1) s in
    let n : k ≡ length (drop (i + 1) s) = omega arith in
    let c : drop i s ≡ b ∷ drop (i + 1) s = rw (add-one) (drop-cons s i 0 (omega arith)) in
    let q : ℕ = from_clear t (drop (i + 1) s) in
    xor_assoc x (entry_of t k b) q
    ∙ ap (λ (m : ℕ). x ⊕ (entry_of t m b ⊕ q)) n
    ∙ ap (λ (u : List ℕ). x ⊕ from_clear t u) (sym c)

pub clear_end : (t : List ℕ) (x i : ℕ) (s : List ℕ) → length s ≤ i → x ≡ x ⊕ from_clear t (drop i s)
unfolding from_clear
clear_end t x i s h = sym (xor_zero_r x) ∙ ap (λ (u : List ℕ). x ⊕ from_clear t u) (sym (drop_of_length-le s h))
