-- What a reader of the text finds: a number's digits read back are the number, in no more digits than it needs, and the call that reads digits finds it; and a text for
-- which there is room is there whole.
use Prim.Native.Nat.{ℕ, zero, suc, ◌+◌, ◌-◌, ◌*◌, ◌/◌, ◌%◌, ◌^◌, ◌≤◌, ◌<◌}
use mathlib.Core.Path.{◌≡◌, refl, sym, ap, ◌∙◌}
use mathlib.Core.Bool.{Bool, true, false, ◌&&◌}
use mathlib.Core.List.{List, [], ◌∷◌, ◌++◌}
use native.Mathlib.Omega.{arith}
use lib.Dec.{leb, ltb}
use lib.ListN.{length, take, drop, length-append}
use lib.Seq.{sets, sets-eq, take-append_seam}
use borrow.Author.Tests.{le-leb, ltb-true, ltb-false}
use Rattle.wire.proofs.Laws.Tests.{both}
use Rattle.text.specs.Text.{reached, digit, digits_in, decimal}
use Rattle.std.proofs.Common.{Some}
use Rattle.text.specs.Digits.{all_digits, value_from, said_by}
use Rattle.text.proofs.Laws.Puts.{reached-fits}
use Rattle.text.proofs.Laws.Digits.{digits-one, digits_more, tenth}
use Rattle.text.proofs.Laws.Said.{says-number}

-- one more digit at the end
pub value-last : (v : ℕ) (ds : List ℕ) (d : ℕ) → value_from v (ds ++ d ∷ []) ≡ value_from v ds * 10 + (d - 48)
unfolding value_from
value-last v [] d = refl
value-last v (x ∷ ds) d = value-last (v * 10 + (x - 48)) ds d

digits_value : (k n : ℕ) → n < 10 ^ suc k → value_from 0 (digits_in (suc k) n) ≡ n
unfolding value_from
digits_value zero n h = let l : n < 10 = omega arith in ap (value_from 0) (digits-one 0 n l) ∙ omega arith
digits_value (suc k) n h = go (ltb n 10) refl (digits_value k (n / 10) (tenth (suc k) n h))
  where
    go : (t : Bool) → ltb n 10 ≡ t → value_from 0 (digits_in (suc k) (n / 10)) ≡ n / 10 → value_from 0 (digits_in (suc (suc k)) n) ≡ n
    go true e r = ap (value_from 0) (digits-one (suc k) n (ltb-true n 10 e)) ∙ omega arith
    go false e r =
        let v = value-last 0 (digits_in (suc k) (n / 10)) (digit (n % 10)) in
        ap (value_from 0) (digits_more (suc k) n (ltb-false n 10 e)) ∙ v ∙ omega (arith, r)

-- READ BACK, IT IS THE NUMBER
pub decimal-value : (n : ℕ) → n < 2 ^ 64 → value_from 0 (decimal n) ≡ n
decimal-value n h = digits_value 19 n (omega arith)

-- and the call that reads digits finds it
digit-is : (n : ℕ) → n < 10 → (leb 48 (digit n) && leb (digit n) 57) ≡ true
digit-is n h = rw (le-leb 48 (48 + n) (omega arith), le-leb (48 + n) 57 (omega arith))

all-last : (ds : List ℕ) (n : ℕ) → n < 10 → all_digits ds ≡ true → all_digits (ds ++ digit n ∷ []) ≡ true
unfolding all_digits
all-last [] n h e = rw (digit-is n h)
all-last (d ∷ ds) n h e = let b = both (leb 48 d && leb d 57) (all_digits ds) e in rw b.0 (all-last ds n h b.1)

all_digits_lem : (k n : ℕ) → all_digits (digits_in k n) ≡ true
unfolding all_digits digits_in
all_digits_lem zero n = refl
all_digits_lem (suc k) n = go (ltb n 10) refl (all_digits_lem k (n / 10))
  where
    go : (t : Bool) → ltb n 10 ≡ t → all_digits (digits_in k (n / 10)) ≡ true → all_digits (digits_in (suc k) n) ≡ true
    go true e r = let l = ltb-true n 10 e in ap all_digits (digits-one k n l) ∙ all-last [] n l refl
    go false e r = ap all_digits (digits_more k n (ltb-false n 10 e)) ∙ all-last (digits_in k (n / 10)) (n % 10) (omega arith) r

some-digits : (k n : ℕ) → length (digits_in (suc k) n) ≡ 0 → ⊥
some-digits k n z = go (ltb n 10) refl
  where
    go : (t : Bool) → ltb n 10 ≡ t → ⊥
    go true e = let d = ap (λ (l : List ℕ). length l) (digits-one k n (ltb-true n 10 e)) in omega arith
    go false e =
        let d = ap (λ (l : List ℕ). length l) (digits_more k n (ltb-false n 10 e)) in
        let l = length-append (digits_in k (n / 10)) (digit (n % 10) ∷ []) in
        omega arith

pub said-again : (most n : ℕ) → n ≤ most → n < 2 ^ 64 → said_by most (decimal n) ≡ Some n
said-again most n l h = sym (says-number most (decimal n) n (some-digits 19 n) (all_digits_lem 20 n) (decimal-value n h) l)

-- IN NO MORE DIGITS THAN IT NEEDS
digits-short : (m k n : ℕ) → n < 10 ^ suc k → length (digits_in m n) ≤ suc k
unfolding digits_in
digits-short zero k n h = omega arith
digits-short (suc m) zero n h = let l : n < 10 = omega arith in rw (digits-one m n l) (omega arith)
digits-short (suc m) (suc k) n h = go (ltb n 10) refl (digits-short m k (n / 10) (tenth (suc k) n h))
  where
    go : (t : Bool) → ltb n 10 ≡ t → length (digits_in m (n / 10)) ≤ suc k → length (digits_in (suc m) n) ≤ suc (suc k)
    go true e r = rw (digits-one m n (ltb-true n 10 e)) (omega arith)
    go false e r = rw (digits_more m n (ltb-false n 10 e), length-append (digits_in m (n / 10)) (digit (n % 10) ∷ [])) (omega arith)

pub decimal-short : (k n : ℕ) → n < 10 ^ suc k → length (decimal n) ≤ suc k
decimal-short k n h = digits-short 20 k n h

-- A TEXT FOR WHICH THERE IS ROOM IS THERE WHOLE
pub whole : (out text : List ℕ) → length text ≤ length out → (reached 0 (length text) (length out) ≡ length text) × (take (length text) (sets out 0 text) ≡ text)
whole out text h = (
  reached-fits 0 (length text) (length out) (omega arith) ∙ omega arith,
  ap (take (length text)) (sets-eq text out 0 (omega arith)) ∙ take-append_seam text (drop (0 + length text) out),
)
