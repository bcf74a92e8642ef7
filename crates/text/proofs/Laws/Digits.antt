-- A number's decimal digits, one after another, and what they come to.
use Prim.Native.Nat.{ℕ, zero, suc, ◌/◌, ◌%◌, ◌^◌, ◌≤◌, ◌<◌}
use mathlib.Core.Path.{◌≡◌, refl, sym, ap, ◌∙◌}
use mathlib.Core.Bool.{Bool, true, false}
use mathlib.Core.List.{List, [], ◌∷◌, ◌++◌}
use native.Mathlib.Omega.{arith}
use native.Mathlib.Nat.{pow-suc}
use lib.Dec.{ltb}
use borrow.Author.Tests.{lt-ltb, le-ltb, ltb-true, ltb-false}
use Rattle.text.specs.Text.{digit, digits_in, decimal}

-- one digit, and more than one
pub digits-one : (k n : ℕ) → n < 10 → digits_in (suc k) n ≡ digit n ∷ []
unfolding digits_in
digits-one k n h = rw (lt-ltb n 10 h)

pub digits_more : (k n : ℕ) → 10 ≤ n → digits_in (suc k) n ≡ digits_in k (n / 10) ++ digit (n % 10) ∷ []
unfolding digits_in
digits_more k n h = rw (le-ltb n 10 h)

-- more room for digits changes nothing
pub tenth : (k n : ℕ) → n < 10 ^ suc k → n / 10 < 10 ^ k
tenth k n h = let e = pow-suc 10 k in omega arith

digits-room : (k n : ℕ) → n < 10 ^ suc k → digits_in (suc (suc k)) n ≡ digits_in (suc k) n
digits-room zero n h = digits-one 1 n (omega arith) ∙ sym (digits-one 0 n (omega arith))
digits-room (suc k) n h = go (ltb n 10) refl (digits-room k (n / 10) (tenth (suc k) n h))
  where
    go : (t : Bool) → ltb n 10 ≡ t → digits_in (suc (suc k)) (n / 10) ≡ digits_in (suc k) (n / 10) → digits_in (suc (suc (suc k))) n ≡ digits_in (suc (suc k)) n
    go true e r = let l = ltb-true n 10 e in digits-one (suc (suc k)) n l ∙ sym (digits-one (suc k) n l)
    go false e r = let l = ltb-false n 10 e in digits_more (suc (suc k)) n l ∙ ap (λ (x : List ℕ). x ++ digit (n % 10) ∷ []) r ∙ sym (digits_more (suc k) n l)

-- A NUMBER'S DIGITS ARE THOSE OF ITS TENTH, AND THEN ITS LAST
pub decimal-one : (n : ℕ) → n < 10 → decimal n ≡ digit n ∷ []
decimal-one n h = digits-one 19 n h

pub decimal-more : (n : ℕ) → n < 2 ^ 64 → 10 ≤ n → decimal n ≡ decimal (n / 10) ++ digit (n % 10) ∷ []
decimal-more n b h = digits_more 19 n h ∙ ap (λ (x : List ℕ). x ++ digit (n % 10) ∷ []) (sym (digits-room 18 (n / 10) (omega arith)))
