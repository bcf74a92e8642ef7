-- Lists of items, one item at a time. The bound on their number is seen here only.
use Prim.Native.Nat.{ℕ, zero, suc, ◌+◌, ◌≤◌, ◌<◌}
use mathlib.Core.Path.{◌≡◌, refl, ap, ◌∙◌}
use mathlib.Core.Bool.{Bool, true, false, not, cond, ◌&&◌}
use mathlib.Core.List.{List, [], ◌∷◌, ◌++◌, append_assoc}
use native.Mathlib.Omega.{arith}
use lib.Dec.{eqb, eqb-suc-zero}
use lib.ListN.{length, take, drop, length-append, length-drop, take-append-drop}
use lib.Seq.{length-take-le}
use borrow.Author.Tests.{eq-eqb, ne_eqb, eqb-true, eqb-false}
use Rattle.wire.specs.Items.{Size, IsKind, items, items_in, joined, fills, every, number}

eqb_shift : (a b c : ℕ) → eqb (a + b) (a + c) ≡ eqb b c
eqb_shift a b c = go (eqb b c) refl
  where
    go : (t : Bool) → eqb b c ≡ t → eqb (a + b) (a + c) ≡ t
    go true e = let h = eqb-true b c e in eq-eqb (a + b) (a + c) (omega arith)
    go false e = ne_eqb (a + b) (a + c) (λ h. eqb-false b c e (omega arith))

module _ (size : Size) (kind : IsKind size) where
  enough : (n m : ℕ) (xs : List ℕ) → length xs ≤ n → length xs ≤ m → items_in n size xs ≡ items_in m size xs
  unfolding items_in
  enough zero zero xs h k = refl
  enough zero (suc m) xs h k = let f = kind.fits xs in rw (eq-eqb (size xs) 0 (omega arith))
  enough (suc n) zero xs h k = let f = kind.fits xs in rw (eq-eqb (size xs) 0 (omega arith))
  enough (suc n) (suc m) xs h k = go (enough n m (drop (size xs) xs)) (eqb (size xs) 0) refl
    where
      go : (length (drop (size xs) xs) ≤ n → length (drop (size xs) xs) ≤ m → items_in n size (drop (size xs) xs) ≡ items_in m size (drop (size xs) xs))
          → (t : Bool) → eqb (size xs) 0 ≡ t
          → cond t [] (take (size xs) xs ∷ items_in n size (drop (size xs) xs)) ≡ cond t [] (take (size xs) xs ∷ items_in m size (drop (size xs) xs))
      go f true e = refl
      go f false e =
          let z = eqb-false (size xs) 0 e in
          ap (λ (l : List (List ℕ)). take (size xs) xs ∷ l) (f (rw length-drop (omega (arith, z))) (rw length-drop (omega (arith, z))))

  pub items-stop : (xs : List ℕ) → size xs ≡ 0 → items size xs ≡ []
  unfolding items items_in
  items-stop xs e = go (length xs)
    where
      go : (n : ℕ) → items_in n size xs ≡ []
      go zero = refl
      go (suc n) = rw (eq-eqb (size xs) 0 e)

  pub items-step : (xs : List ℕ) → (size xs ≡ 0 → ⊥) → items size xs ≡ take (size xs) xs ∷ items size (drop (size xs) xs)
  unfolding items items_in
  items-step xs z = go (length xs) refl
    where
      f : size xs ≤ length xs
      f = kind.fits xs

      go : (n : ℕ) → length xs ≡ n → items_in n size xs ≡ take (size xs) xs ∷ items_in (length (drop (size xs) xs)) size (drop (size xs) xs)
      go zero e = absurd (z (omega (arith, f)))
      go (suc n) e =
          let k : length (drop (size xs) xs) ≤ n = rw length-drop (omega (arith, z, f)) in
          let r : length (drop (size xs) xs) ≤ length (drop (size xs) xs) = omega arith in
          rw (ne_eqb (size xs) 0 z, enough n (length (drop (size xs) xs)) (drop (size xs) xs) k r)

  covers_in : (n : ℕ) (xs : List ℕ) → (rest : List ℕ) × (joined (items_in n size xs) ++ rest ≡ xs)
  unfolding items_in joined
  covers_in zero xs = (xs, refl)
  covers_in (suc n) xs = go (covers_in n (drop (size xs) xs)) (eqb (size xs) 0)
    where
      go : (rest : List ℕ) × (joined (items_in n size (drop (size xs) xs)) ++ rest ≡ drop (size xs) xs)
          → (t : Bool) → (rest : List ℕ) × (joined (cond t [] (take (size xs) xs ∷ items_in n size (drop (size xs) xs))) ++ rest ≡ xs)
      go c true = (xs, refl)
      go c false = (c.0, rw (append_assoc, c.1) (take-append-drop (size xs) xs))

  -- the items cover a beginning of the list
  pub covers : (xs : List ℕ) → (rest : List ℕ) × (joined (items size xs) ++ rest ≡ xs)
  unfolding items
  covers xs = covers_in (length xs) xs

  pub fills-nil : fills size [] ≡ true
  unfolding fills items items_in joined
  fills-nil = refl

  pub fills_stuck : (xs : List ℕ) → size xs ≡ 0 → 0 < length xs → fills size xs ≡ false
  unfolding fills joined
  fills_stuck xs e h = rw (items-stop xs e) (ne_eqb 0 (length xs) (omega arith))

  pub fills-step : (xs : List ℕ) → (size xs ≡ 0 → ⊥) → fills size xs ≡ fills size (drop (size xs) xs)
  unfolding fills joined
  fills-step xs z =
      let f = kind.fits xs in
      let a = length-take-le (size xs) xs f in
      let b : length xs ≡ size xs + length (drop (size xs) xs) = rw length-drop (omega arith) in
      rw (items-step xs z, length-append, a)
      (ap (λ (n : ℕ). eqb (size xs + length (joined (items size (drop (size xs) xs)))) n) b ∙ eqb_shift (size xs) _ _)

-- each item meets a test exactly where none fails it
pub every-none : (good : List ℕ → Bool) (is : List (List ℕ)) → eqb (number (λ x. not (good x)) is) 0 ≡ every good is
unfolding every number
every-none good [] = refl
every-none good (x ∷ is) = go (every-none good is) (good x)
  where
    go : eqb (number (λ x. not (good x)) is) 0 ≡ every good is → (t : Bool)
        → eqb (cond (not t) (suc (number (λ x. not (good x)) is)) (number (λ x. not (good x)) is)) 0 ≡ (t && every good is)
    go e true = e
    go e false = eqb-suc-zero (number (λ x. not (good x)) is)

-- each item meets two tests exactly where each meets the one and each meets the other
pub every-both : (p q : List ℕ → Bool) (is : List (List ℕ)) → every (λ x. p x && q x) is ≡ (every p is && every q is)
unfolding every
every-both p q [] = refl
every-both p q (x ∷ is) = rw (every-both p q is) (go (p x) (q x) (every p is) (every q is))
  where
    go : (a b c d : Bool) → ((a && b) && (c && d)) ≡ ((a && c) && (b && d))
    go true true c d = refl
    go true false true d = refl
    go true false false d = refl
    go false b c d = refl
