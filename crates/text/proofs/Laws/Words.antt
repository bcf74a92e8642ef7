-- A word of a text, one byte of the text after another.
use Prim.Native.Nat.{ℕ, zero, suc, ◌+◌, ◌-◌, ◌≤◌, ◌<◌}
use mathlib.Core.Path.{◌≡◌, refl}
use mathlib.Core.List.{List, [], ◌∷◌}
use native.Mathlib.Numerals.{add-one}
use native.Mathlib.Omega.{arith}
use lib.ListN.{length, drop, get_or, drop_of_length-le}
use lib.Seq.{drop-cons}
use borrow.Author.Tests.{eq-eqb, ne_eqb}
use Rattle.text.specs.Text.{word_at}

-- nothing is left
pub word_none : (k : ℕ) (s : List ℕ) (i : ℕ) → length s ≤ i → word_at k (drop i s) ≡ []
unfolding word_at
word_none k s i h = rw (drop_of_length-le s h)

module _ (s : List ℕ) (i : ℕ) (h : i < length s) where
  -- the word ends, or goes on
  pub word-ends : get_or s i 0 ≡ 32 → word_at 0 (drop i s) ≡ []
  unfolding word_at
  word-ends e = rw (drop-cons s i 0 h, eq-eqb _ _ e)

  pub word_letter : (get_or s i 0 ≡ 32 → ⊥) → word_at 0 (drop i s) ≡ get_or s i 0 ∷ word_at 0 (drop (i + 1) s)
  unfolding word_at
  word_letter e = rw (add-one, drop-cons s i 0 h, ne_eqb _ _ e)

  -- a word before it ends, or goes on
  pub word-passed : (k : ℕ) → (k ≡ 0 → ⊥) → get_or s i 0 ≡ 32 → word_at (k - 1) (drop (i + 1) s) ≡ word_at k (drop i s)
  unfolding word_at
  word-passed zero n e = absurd (n refl)
  word-passed (suc k) n e = let d : suc k - 1 ≡ k = omega arith in rw (d, add-one, drop-cons s i 0 h, eq-eqb _ _ e)

  pub word-within : (k : ℕ) → (k ≡ 0 → ⊥) → (get_or s i 0 ≡ 32 → ⊥) → word_at k (drop (i + 1) s) ≡ word_at k (drop i s)
  unfolding word_at
  word-within zero n e = absurd (n refl)
  word-within (suc k) n e = rw (add-one, drop-cons s i 0 h, ne_eqb _ _ e)
