-- What digits say, one digit after another.
use Prim.Native.Nat.{ℕ, suc, ◌+◌, ◌-◌, ◌*◌, ◌<◌, ◌≤◌}
use mathlib.Core.Path.{◌≡◌, refl, sym, ap, ◌∙◌}
use mathlib.Core.Bool.{Bool, true, false, cond, not, ◌&&◌, true≢false}
use mathlib.Core.Logic.{◌⊎◌, inl, inr}
use mathlib.Core.List.{List, [], ◌∷◌}
use native.Mathlib.Numerals.{add-one}
use native.Mathlib.Omega.{arith}
use lib.Dec.{eqb, leb}
use lib.ListN.{length, drop, get_or, drop_of_length-le}
use lib.Seq.{drop-cons}
use borrow.Author.Tests.{eq-eqb, ne_eqb, lt-leb, le-leb, leb-true}
use Rattle.std.proofs.Common.{Option, None, Some}
use Rattle.text.specs.Digits.{all_digits, value_from, said_by}

-- more digits say no smaller number
pub value-from : (n : ℕ) (xs : List ℕ) → n ≤ value_from n xs
unfolding value_from
value-from n [] = omega arith
value-from n (d ∷ ds) = let h = value-from (n * 10 + (d - 48)) ds in omega arith

-- nothing is left
pub left-none : (n : ℕ) (s : List ℕ) (i : ℕ) → length s ≤ i → (all_digits (drop i s) ≡ true) × (value_from n (drop i s) ≡ n)
unfolding all_digits value_from
left-none n s i h = rw (drop_of_length-le s h) (refl, refl)

-- the byte at place i
module _ (s : List ℕ) (i : ℕ) (h : i < length s) where
  pub other-ends : (get_or s i 0 < 48) ⊎ (57 < get_or s i 0) → all_digits (drop i s) ≡ false
  unfolding all_digits
  other-ends (inl l) = rw (drop-cons s i 0 h, lt-leb 48 (get_or s i 0) l)
  other-ends (inr l) = rw (drop-cons s i 0 h) (fails (leb 48 (get_or s i 0)) (leb (get_or s i 0) 57) (all_digits (drop (suc i) s)) (lt-leb (get_or s i 0) 57 l))
    where
      fails : (a b c : Bool) → b ≡ false → ((a && b) && c) ≡ false
      fails true b c e = rw e
      fails false b c e = refl

  pub digit-on : 48 ≤ get_or s i 0 → get_or s i 0 ≤ 57 → all_digits (drop i s) ≡ all_digits (drop (i + 1) s)
  unfolding all_digits
  digit-on l m = rw (add-one, drop-cons s i 0 h, le-leb 48 (get_or s i 0) l, le-leb (get_or s i 0) 57 m)

  pub value_on : (n : ℕ) → value_from n (drop i s) ≡ value_from (n * 10 + (get_or s i 0 - 48)) (drop (i + 1) s)
  unfolding value_from
  value_on n = rw (add-one, drop-cons s i 0 h)

-- WHAT THEY SAY, one law for each way
module _ (most : ℕ) (xs : List ℕ) where
  says : (a b c : Bool) → not (eqb (length xs) 0) ≡ a → all_digits xs ≡ b → leb (value_from 0 xs) most ≡ c
      → said_by most xs ≡ cond (a && b && c) (Some (value_from 0 xs)) None
  unfolding said_by
  says a b c e f g = rw (e, f, g)

  none : (a b c : Bool) → c ≡ false → cond (a && b && c) (Some (value_from 0 xs)) None ≡ None
  none true true c e = rw e
  none true false c e = refl
  none false b c e = refl

  pub says-empty : length xs ≡ 0 → None ≡ said_by most xs
  says-empty e = sym (says false _ _ (ap not (eq-eqb (length xs) 0 e)) refl refl)

  pub says_other : all_digits xs ≡ false → None ≡ said_by most xs
  says_other e = sym (says _ false _ refl e refl ∙ go (not (eqb (length xs) 0)))
    where
      go : (a : Bool) → cond (a && false && leb (value_from 0 xs) most) (Some (value_from 0 xs)) None ≡ None
      go true = refl
      go false = refl

  pub says-beyond : most < value_from 0 xs → None ≡ said_by most xs
  says-beyond h = sym (says _ _ _ refl refl refl ∙ none (not (eqb (length xs) 0)) (all_digits xs) _ (lt-leb (value_from 0 xs) most h))

  pub says-number : (n : ℕ) → (length xs ≡ 0 → ⊥) → all_digits xs ≡ true → value_from 0 xs ≡ n → n ≤ most → Some n ≡ said_by most xs
  says-number n z d v l =
      sym (says true true true (ap not (ne_eqb (length xs) 0 z)) d (ap (λ (m : ℕ). leb m most) v ∙ le-leb n most l) ∙ ap Some v)

  -- AND BACK: a number that is said is no more than the most
  pub said-most : (n : ℕ) → Some n ≡ said_by most xs → n ≤ most
  unfolding said_by
  said-most n e = go (not (eqb (length xs) 0)) (all_digits xs) (leb (value_from 0 xs) most) refl e
    where
      number_of : Option ℕ → ℕ
      number_of (Some m) = m
      number_of None = 0

      is_number : Option ℕ → Bool
      is_number (Some m) = true
      is_number None = false

      go : (a b c : Bool) → leb (value_from 0 xs) most ≡ c → Some n ≡ cond (a && b && c) (Some (value_from 0 xs)) None → n ≤ most
      go true true true f g = let l = leb-true (value_from 0 xs) most f in let v : n ≡ value_from 0 xs = ap number_of g in omega arith
      go true true false f g = absurd (true≢false (ap is_number g))
      go true false c f g = absurd (true≢false (ap is_number g))
      go false b c f g = absurd (true≢false (ap is_number g))
