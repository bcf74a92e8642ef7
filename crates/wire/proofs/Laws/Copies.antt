-- Two lists of bytes compared one place at a time, and bytes laid over others.
use Prim.Native.Nat.{ℕ, suc, ◌+◌, ◌≤◌, ◌<◌}
use mathlib.Core.Path.{◌≡◌, refl, sym, ap, ◌∙◌}
use mathlib.Core.Bool.{Bool, true, false, ◌&&◌}
use mathlib.Core.List.{List, [], ◌∷◌, append_assoc}
use native.Mathlib.Numerals.{add-one}
use native.Mathlib.Omega.{arith}
use lib.Dec.{eqb}
use lib.ListN.{length, get_or, take, drop, drop_of_length-le, length-drop}
use lib.Seq.{drop-cons, take-length, length-take-le, paste}
use lib.Bits.{bit_or, bit_xor, or_zero_l, or_add_and, xor_self, xor_add_and, and_le_l, and_le_r}
use borrow.Author.Tests.{eq-eqb, ne_eqb, eqb-true, eqb-false, le-leb, lt-leb}
use Rattle.wire.specs.Copies.{same_numbers, overwrite, laid_at}
use Rattle.wire.proofs.Laws.Tests.{both, fails, clash}

-- the same numbers are the same list, and a list is the same as itself
pub same-is : (xs ys : List ℕ) → same_numbers xs ys ≡ true → xs ≡ ys
unfolding same_numbers
same-is [] [] e = refl
same-is [] (y ∷ ys) e = absurd (clash _ e refl)
same-is (x ∷ xs) [] e = absurd (clash _ e refl)
same-is (x ∷ xs) (y ∷ ys) e = let h = both (eqb x y) (same_numbers xs ys) e in rw (eqb-true x y h.0, same-is xs ys h.1)

pub same_refl : (xs : List ℕ) → same_numbers xs xs ≡ true
unfolding same_numbers
same_refl [] = refl
same_refl (x ∷ xs) = rw (eq-eqb x x refl) (same_refl xs)

pub bytes_lengths : (xs ys : List ℕ) → (length xs ≡ length ys → ⊥) → same_numbers xs ys ≡ false
unfolding same_numbers
bytes_lengths [] [] h = absurd (h refl)
bytes_lengths [] (y ∷ ys) h = refl
bytes_lengths (x ∷ xs) [] h = refl
bytes_lengths (x ∷ xs) (y ∷ ys) h = rw (bytes_lengths xs ys (λ e. h (ap suc e))) (fails (eqb x y))

-- words taken together: nothing is set in two of them exactly where nothing is in either
pub or-none : (a b : ℕ) → eqb (bit_or a b) 0 ≡ (eqb a 0 && eqb b 0)
or-none a b = go (eqb a 0) refl
  where
    go : (t : Bool) → eqb a 0 ≡ t → eqb (bit_or a b) 0 ≡ (t && eqb b 0)
    go true e = rw (eqb-true a 0 e, or_zero_l b)
    go false e = ne_eqb (bit_or a b) 0 (λ z. let p = or_add_and a b in let q = and_le_r a b in eqb-false a 0 e (omega arith))

-- two numbers differ in no bit exactly where they are the same
xor-none : (a b : ℕ) → eqb (bit_xor a b) 0 ≡ eqb a b
xor-none a b = go (eqb a b) refl
  where
    go : (t : Bool) → eqb a b ≡ t → eqb (bit_xor a b) 0 ≡ t
    go true e = eq-eqb _ _ (ap (bit_xor a) (sym (eqb-true a b e)) ∙ xor_self a)
    go false e = ne_eqb (bit_xor a b) 0 (λ z. let p = xor_add_and a b in let q = and_le_l a b in let r = and_le_r a b in eqb-false a b e (omega arith))

module _ (xs ys : List ℕ) (i : ℕ) where
  pub bytes-done : length xs ≤ i → length ys ≤ i → same_numbers (drop i xs) (drop i ys) ≡ true
  unfolding same_numbers
  bytes-done h k = rw (drop_of_length-le xs h, drop_of_length-le ys k)

  -- the differences so far in one, `all`, and the rest
  pub mixed-next : (all : ℕ) → i < length xs → i < length ys
      → (eqb (bit_or all (bit_xor (get_or xs i 0) (get_or ys i 0))) 0 && same_numbers (drop (i + 1) xs) (drop (i + 1) ys)) ≡ (eqb all 0 && same_numbers (drop i xs) (drop i ys))
  unfolding same_numbers
  mixed-next all h k =
      rw (add-one i, drop-cons xs i 0 h, drop-cons ys i 0 k, or-none all (bit_xor (get_or xs i 0) (get_or ys i 0)), xor-none (get_or xs i 0) (get_or ys i 0)) (grouped (eqb all 0))
    where
      grouped : (t : Bool) → (t && eqb (get_or xs i 0) (get_or ys i 0) && same_numbers (drop (suc i) xs) (drop (suc i) ys))
          ≡ (t && (eqb (get_or xs i 0) (get_or ys i 0) && same_numbers (drop (suc i) xs) (drop (suc i) ys)))
      grouped true = refl
      grouped false = refl

  pub mixed-done : (all : ℕ) → length xs ≤ i → length ys ≤ i → (eqb all 0 && same_numbers (drop i xs) (drop i ys)) ≡ eqb all 0
  mixed-done all h k = rw (bytes-done h k) (alone (eqb all 0))
    where
      alone : (t : Bool) → (t && true) ≡ t
      alone true = refl
      alone false = refl

-- a piece has as many bytes as it was to have
pub piece_length : (bytes : List ℕ) (j n : ℕ) → j + n ≤ length bytes → length (take n (drop j bytes)) ≡ n
piece_length bytes j n h = length-take-le n (drop j bytes) (rw (length-drop j bytes) (omega arith))

-- bytes that fit are laid; others leave all as it was
module _ (out : List ℕ) (at : ℕ) (bytes : List ℕ) where
  pub laid-fits : at + length bytes ≤ length out → laid_at out at bytes ≡ overwrite out at bytes
  unfolding laid_at
  laid-fits h = rw (le-leb _ _ h)

  pub laid-short : length out < at + length bytes → laid_at out at bytes ≡ out
  unfolding laid_at
  laid-short h = rw (lt-leb _ _ h)

  -- the first j of them laid, and j is all
  pub pasted-all : (j : ℕ) → j ≡ length bytes → paste out at bytes j ≡ overwrite out at bytes
  unfolding overwrite
  pasted-all j all = rw (all, take-length) (append_assoc (take at out) bytes (drop (at + length bytes) out))
