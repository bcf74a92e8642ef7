-- Bytes cut into pieces: one piece and the rest, all of them laid end to end, and how many there are.
use Prim.Native.Nat.{ℕ, zero, suc, ◌+◌, ◌/◌, ◌-◌, ◌≤◌, ◌<◌, min}
use mathlib.Core.Path.{◌≡◌, refl, sym, ap, ap₂, ◌∙◌}
use mathlib.Core.Bool.{Bool, true, false}
use mathlib.Core.Logic.{◌⊎◌, inl, inr}
use mathlib.Core.List.{List, [], ◌∷◌, ◌++◌}
use native.Mathlib.Nat.{div-eq_of_lt, div-eq-sub-div}
use native.Mathlib.Omega.{arith}
use lib.Dec.{leb}
use lib.ListN.{length, take, drop, length-append, length-drop, take-append-drop, drop_of_length-le}
use lib.Seq.{take_all, take_at, drop_at, drop-drop}
use borrow.Author.Tests.{leb-true, leb-false}
use Rattle.wire.specs.Items.{joined}
use Rattle.wire.specs.Pieces.{cut_in, cut}

nat-cases : (m n : ℕ) → (m ≤ n) ⊎ (n < m)
nat-cases m n = go (leb m n) refl
  where
    go : (t : Bool) → leb m n ≡ t → (m ≤ n) ⊎ (n < m)
    go true e = inl (leb-true m n e)
    go false e = inr (leb-false m n e)

fewer : (w : ℕ) (x : ℕ) (xs : List ℕ) (n : ℕ) → 0 < w → length (x ∷ xs) ≤ suc n → length (drop w (x ∷ xs)) ≤ n
fewer w x xs n p l = let d = length-drop w (x ∷ xs) in omega arith

-- as many steps as there are bytes are enough
enough : (n m w : ℕ) (xs : List ℕ) → 0 < w → length xs ≤ n → length xs ≤ m → cut_in n w xs ≡ cut_in m w xs
unfolding cut_in
enough zero zero w xs p l k = refl
enough zero (suc m) w [] p l k = refl
enough zero (suc m) w (x ∷ xs) p l k = absurd (omega arith)
enough (suc n) zero w [] p l k = refl
enough (suc n) zero w (x ∷ xs) p l k = absurd (omega arith)
enough (suc n) (suc m) w [] p l k = refl
enough (suc n) (suc m) w (x ∷ xs) p l k =
    ap (λ (ps : List (List ℕ)). take w (x ∷ xs) ∷ ps) (enough n m w (drop w (x ∷ xs)) p (fewer w x xs n p l) (fewer w x xs m p k))

pub cut-none : (w : ℕ) → cut w [] ≡ []
unfolding cut cut_in
cut-none w = refl

pub cut_step : (w : ℕ) (xs : List ℕ) → 0 < w → 0 < length xs → cut w xs ≡ take w xs ∷ cut w (drop w xs)
unfolding cut cut_in
cut_step w [] p l = absurd (omega arith)
cut_step w (x ∷ xs) p l =
    ap (λ (ps : List (List ℕ)). take w (x ∷ xs) ∷ ps) (enough (length xs) (length (drop w (x ∷ xs))) w (drop w (x ∷ xs)) p (fewer w x xs (length xs) p (omega arith)) (omega arith))

-- By cutting: what holds of no bytes, and of bytes where it holds of those after the first piece, holds of all.
pub by_cutting : (w : ℕ) → 0 < w → (P : List ℕ → Type 0) → P [] → ((xs : List ℕ) → 0 < length xs → P (drop w xs) → P xs) → (xs : List ℕ) → P xs
by_cutting w p P none more xs = go (length xs) xs (omega arith)
  where
    go : (n : ℕ) (xs : List ℕ) → length xs ≤ n → P xs
    go zero [] l = none
    go zero (x ∷ xs) l = absurd (omega arith)
    go (suc n) [] l = none
    go (suc n) (x ∷ xs) l = more (x ∷ xs) (omega arith) (go n (drop w (x ∷ xs)) (fewer w x xs n p l))

pub cut-joined : (w : ℕ) (xs : List ℕ) → 0 < w → joined (cut w xs) ≡ xs
unfolding joined
cut-joined w xs p = by_cutting w p (λ ys. joined (cut w ys) ≡ ys) (ap joined (cut-none w)) more xs
  where
    more : (ys : List ℕ) → 0 < length ys → joined (cut w (drop w ys)) ≡ drop w ys → joined (cut w ys) ≡ ys
    more ys l e = ap joined (cut_step w ys p l) ∙ ap (λ (t : List ℕ). take w ys ++ t) e ∙ take-append-drop w ys

-- the last piece is the only one that may be shorter
pub cut_length : (w : ℕ) (xs : List ℕ) → 0 < w → 0 < length xs → length (cut w xs) ≡ (length xs - 1) / w + 1
cut_length w xs p = by_cutting w p (λ ys. 0 < length ys → length (cut w ys) ≡ (length ys - 1) / w + 1) (λ l. absurd (omega arith)) more xs
  where
    step : (ys : List ℕ) → 0 < length ys → length (cut w ys) ≡ suc (length (cut w (drop w ys)))
    step ys l = ap (λ (ps : List (List ℕ)). length ps) (cut_step w ys p l)

    more : (ys : List ℕ) → 0 < length ys → (0 < length (drop w ys) → length (cut w (drop w ys)) ≡ (length (drop w ys) - 1) / w + 1)
        → 0 < length ys → length (cut w ys) ≡ (length ys - 1) / w + 1
    more ys l ih k = go (nat-cases w (length ys - 1))
      where
        go : (w ≤ length ys - 1) ⊎ (length ys - 1 < w) → length (cut w ys) ≡ (length ys - 1) / w + 1
        go (inl h) =
            let d = length-drop w ys in
            let e : length (drop w ys) - 1 ≡ length ys - 1 - w = omega arith in
            let f = ih (omega arith) ∙ ap (λ (m : ℕ). m / w + 1) e in
            let g = div-eq-sub-div {m = w} {n = length ys - 1} p h in
            let s = step ys l in
            omega (arith, f, g, s)
        go (inr h) =
            let e = ap (λ (t : List ℕ). length (cut w t)) (drop_of_length-le ys {i = w} (omega arith)) in
            let f = ap (λ (ps : List (List ℕ)). length ps) (cut-none w) in
            let g = div-eq_of_lt {n = length ys - 1} {m = w} h in
            let s = step ys l in
            omega (arith, e, f, g, s)

-- THE PIECE FROM A PLACE ON, and what follows it
module _ (w : ℕ) (xs : List ℕ) (at : ℕ) (l : at < length xs) where
  abbrev n : ℕ
  n = min w (length xs - at)

  pub next_piece : take n (drop at xs) ≡ take w (drop at xs)
  next_piece = go (nat-cases w (length xs - at))
    where
      go : (w ≤ length xs - at) ⊎ (length xs - at < w) → take n (drop at xs) ≡ take w (drop at xs)
      go (inl h) = let e : n ≡ w = omega arith in ap (λ (m : ℕ). take m (drop at xs)) e
      go (inr h) = let d = length-drop at xs in take_all n (drop at xs) (omega arith) ∙ sym (take_all w (drop at xs) (omega arith))

  pub next-rest : drop (at + n) xs ≡ drop w (drop at xs)
  next-rest = go (nat-cases w (length xs - at))
    where
      go : (w ≤ length xs - at) ⊎ (length xs - at < w) → drop (at + n) xs ≡ drop w (drop at xs)
      go (inl h) = let e : n ≡ w = omega arith in ap (λ (m : ℕ). drop (at + m) xs) e ∙ sym (drop-drop w at xs)
      go (inr h) = let d = length-drop at xs in drop_of_length-le xs {i = at + n} (omega arith) ∙ sym (drop_of_length-le (drop at xs) {i = w} (omega arith))

-- PIECES OF ONE WIDTH, laid end to end, are cut as they were
abbrev pub Wide : ℕ → List (List ℕ) → Type 0
Wide w [] = Unit {0}
Wide w (p ∷ ps) = (length p ≡ w) × Wide w ps

pub wide_both : (w : ℕ) (ps qs : List (List ℕ)) → Wide w ps → Wide w qs → Wide w (ps ++ qs)
wide_both w [] qs a b = b
wide_both w (p ∷ ps) qs a b = (a.0, wide_both w ps qs a.1 b)

pub cut-back : (w : ℕ) (ps : List (List ℕ)) → 0 < w → Wide w ps → cut w (joined ps) ≡ ps
unfolding joined
cut-back w [] p a = cut-none w
cut-back w (x ∷ ps) p a =
    let l = length-append x (joined ps) in
    cut_step w (x ++ joined ps) p (omega (arith, l, p, a.0))
    ∙ ap₂ (λ (y : List ℕ) (ys : List (List ℕ)). y ∷ ys) (take_at x (joined ps) w a.0) (ap (cut w) (drop_at x (joined ps) w a.0) ∙ cut-back w ps p a.1)
