-- What `fills`, `count`, `item_at` and `end_of` mean: the list is some whole items laid end to end; there is one way to see it so; these are their number, the place of each, and where the first
-- n end.
use Prim.Native.Nat.{ℕ, zero, suc, ◌+◌, ◌≤◌, ◌<◌}
use mathlib.Core.Path.{◌≡◌, refl, sym, ap, ◌∙◌}
use mathlib.Core.Logic.{◌↔◌}
use mathlib.Core.Bool.{Bool, true, false, not, cond, ◌&&◌}
use mathlib.Core.List.{List, [], ◌∷◌, ◌++◌, append_assoc}
use Rattle.std.proofs.Common.{Some, None}
use native.Mathlib.Omega.{arith}
use lib.Dec.{eqb}
use lib.ListN.{length, take, drop, length-append}
use lib.Seq.{length-take-le, take_at, drop_at, take-take, take-length}
use borrow.Author.Tests.{eq-eqb, eqb-true, eqb-false}
use Rattle.wire.specs.Items.{Size, IsKind, Whole, Wholes, items, items_in, joined, fills, count, end_of, every}
use Rattle.wire.specs.Places.{At, item_at, place_from, first_from}
use Rattle.wire.proofs.Laws.Steps.{items-step, covers}

empty : (l : List ℕ) → length l ≡ 0 → l ≡ []
empty [] e = refl
empty (x ∷ l) e = absurd (omega arith)

pub append-nil : {A : Type 0} (l : List A) → l ++ [] ≡ l
append-nil [] = refl
append-nil {A} (x ∷ l) = ap (λ (m : List A). x ∷ m) (append-nil l)

pub joined-both : (is js : List (List ℕ)) → joined (is ++ js) ≡ joined is ++ joined js
unfolding joined
joined-both [] js = refl
joined-both (x ∷ is) js = rw (append_assoc, joined-both is js)

place-there : (is : List (List ℕ)) (at : ℕ) (x : List ℕ) (js : List (List ℕ)) → place_from (length is) at (is ++ x ∷ js) ≡ At (at + length (joined is)) (length x)
unfolding place_from joined
place-there [] at x js = ap (λ (n : ℕ). At n (length x)) (omega arith)
place-there (y ∷ is) at x js =
    let e : at + length y + length (joined is) ≡ at + length (y ++ joined is) = rw length-append (omega arith) in
    place-there is (at + length y) x js ∙ ap (λ (n : ℕ). At n (length x)) e

place-past : (k at : ℕ) (is : List (List ℕ)) → length is ≤ k → place_from k at is ≡ None
unfolding place_from
place-past zero at [] h = refl
place-past zero at (x ∷ is) h = absurd (omega arith)
place-past (suc k) at [] h = refl
place-past (suc k) at (x ∷ is) h = place-past k (at + length x) is (omega arith)

place-some : (k at : ℕ) (is : List (List ℕ)) → k < length is → (a : ℕ) × (n : ℕ) × (place_from k at is ≡ At a n)
unfolding place_from
place-some k at [] h = absurd (omega arith)
place-some zero at (x ∷ is) h = (at, length x, refl)
place-some (suc k) at (x ∷ is) h = place-some k (at + length x) is (omega arith)

end-there : (is : List (List ℕ)) (at : ℕ) (js : List (List ℕ)) → end_of (length is) at (is ++ js) ≡ at + length (joined is)
unfolding end_of joined
end-there [] at js = omega arith
end-there (x ∷ is) at js = end-there is (at + length x) js ∙ rw length-append (omega arith)

module _ (size : Size) where
  end-split : (n at : ℕ) (is : List (List ℕ)) → Wholes size is → (end_of n at is ≡ 0 → ⊥)
      → (js : List (List ℕ)) × (ks : List (List ℕ)) × Wholes size js × (length js ≡ n) × (js ++ ks ≡ is)
  unfolding end_of
  end-split zero at is w z = ([], is, tt, refl, refl)
  end-split (suc n) at [] w z = absurd (z refl)
  end-split (suc n) at (x ∷ is) w z =
      let q = end-split n (at + length x) is w.1 z in
      (x ∷ q.0, q.1, (w.0, q.2), ap suc q.3, ap (λ (l : List (List ℕ)). x ∷ l) q.4)

module _ (size : Size) (kind : IsKind size) where
  -- a whole item in front of anything is what the list begins with
  pub front : (x r : List ℕ) → Whole size x → size (x ++ r) ≡ length x
  front x r w =
      let e : take (size x) (x ++ r) ≡ take (size x) x = rw w.0 (take_at x r (length x) refl ∙ sym (take-length x)) in
      kind.own x (x ++ r) (omega arith) e ∙ w.0

  pub items-front : (x r : List ℕ) → Whole size x → items size (x ++ r) ≡ x ∷ items size r
  items-front x r w =
      let f = front x r w in
      items-step size kind (x ++ r) (λ z. omega (arith, z)) ∙ rw (f, take_at x r (length x) refl, drop_at x r (length x) refl)

  -- THE SPLIT IS UNIQUE: whole items laid end to end are found again, whatever follows
  pub found : (is : List (List ℕ)) (r : List ℕ) → Wholes size is → items size (joined is ++ r) ≡ is ++ items size r
  unfolding joined
  found [] r w = refl
  found (x ∷ is) r w = rw append_assoc (items-front x (joined is ++ r) w.0 ∙ rw (found is r w.1))

  pub unique : (is : List (List ℕ)) (xs : List ℕ) → Wholes size is → joined is ≡ xs → items size xs ≡ is
  unfolding items items_in
  unique is xs w e = sym (ap (items size) (append-nil (joined is) ∙ e)) ∙ found is [] w ∙ append-nil is

  wholes_in : (n : ℕ) (xs : List ℕ) → Wholes size (items_in n size xs)
  unfolding items_in
  wholes_in zero xs = tt
  wholes_in (suc n) xs = go (wholes_in n (drop (size xs) xs)) (eqb (size xs) 0) refl
    where
      go : Wholes size (items_in n size (drop (size xs) xs)) → (t : Bool) → eqb (size xs) 0 ≡ t → Wholes size (cond t [] (take (size xs) xs ∷ items_in n size (drop (size xs) xs)))
      go w true e = tt
      go w false e =
          let z = eqb-false (size xs) 0 e in
          let p : 0 < size xs = omega (arith, z) in
          let l = length-take-le (size xs) xs (kind.fits xs) in
          let o = kind.own xs (take (size xs) xs) p (take-take (size xs) (size xs) xs (omega arith)) in
          ((o ∙ sym l, rw l p), w)

  -- what was found is whole items
  pub wholes : (xs : List ℕ) → Wholes size (items size xs)
  unfolding items
  wholes xs = wholes_in (length xs) xs

  -- THE MEANING
  pub fills_means : (xs : List ℕ) → (fills size xs ≡ true) ↔ ((is : List (List ℕ)) × Wholes size is × (joined is ≡ xs))
  unfolding fills
  fills_means xs = (there, back)
    where
      there : eqb (length (joined (items size xs))) (length xs) ≡ true → (is : List (List ℕ)) × Wholes size is × (joined is ≡ xs)
      there h =
          let c = covers size kind xs in
          let l = eqb-true (length (joined (items size xs))) (length xs) h in
          let a = simp length-append at (ap length c.1) in
          let n = empty c.0 (omega arith) in
          (items size xs, wholes xs, sym (append-nil (joined (items size xs))) ∙ rw n at c.1)

      back : (is : List (List ℕ)) × Wholes size is × (joined is ≡ xs) → eqb (length (joined (items size xs))) (length xs) ≡ true
      back t = eq-eqb (length (joined (items size xs))) (length xs) (rw (unique t.0 xs t.1 t.2) (ap length t.2))

  pub count_means : (is : List (List ℕ)) (xs : List ℕ) → Wholes size is → joined is ≡ xs → count size xs ≡ length is
  unfolding count
  count_means is xs w e = ap length (unique is xs w e)

  pub item_means : (is : List (List ℕ)) (x : List ℕ) (js : List (List ℕ)) (xs : List ℕ) → Wholes size (is ++ x ∷ js) → joined (is ++ x ∷ js) ≡ xs
      → item_at size (length is) xs ≡ At (length (joined is)) (length x)
  unfolding item_at
  item_means is x js xs w e = ap (place_from (length is) 0) (unique (is ++ x ∷ js) xs w e) ∙ place-there is 0 x js ∙ ap (λ (n : ℕ). At n (length x)) (omega arith)

  pub past_means : (k : ℕ) (xs : List ℕ) → count size xs ≤ k → item_at size k xs ≡ None
  unfolding item_at count
  past_means k xs h = place-past k 0 (items size xs) h

  -- EVERY PLACE BELOW THE COUNT HAS AN ITEM, and no other: so a place is asked for in vain exactly from the count on
  pub item-there : (k : ℕ) (xs : List ℕ) → k < count size xs → (a : ℕ) × (n : ℕ) × (item_at size k xs ≡ At a n)
  unfolding item_at count
  item-there k xs h = place-some k 0 (items size xs) h

  -- a counted list: n whole items, and then the rest
  pub end_means : (is : List (List ℕ)) (r : List ℕ) (at : ℕ) → Wholes size is → end_of (length is) at (items size (joined is ++ r)) ≡ at + length (joined is)
  end_means is r at w = rw (found is r w) (end-there is at (items size r))

  pub end_has : (n at : ℕ) (xs : List ℕ) → (end_of n at (items size xs) ≡ 0 → ⊥)
      → (is : List (List ℕ)) × (r : List ℕ) × Wholes size is × (length is ≡ n) × (joined is ++ r ≡ xs)
  end_has n at xs z =
      let c = covers size kind xs in
      let q = end-split size n at (items size xs) (wholes xs) z in
      (q.0, joined q.1 ++ c.0, q.2, q.3, sym (append_assoc (joined q.0) (joined q.1) c.0) ∙ ap (λ (l : List ℕ). l ++ c.0) (sym (joined-both q.0 q.1) ∙ ap joined q.4) ∙ c.1)

-- no item is empty, so there are no more of them than bytes
few : (n : ℕ) (size : Size) (xs : List ℕ) → length (items_in n size xs) ≤ n
unfolding items_in
few zero size xs = omega arith
few (suc n) size xs = go (few n size (drop (size xs) xs)) (eqb (size xs) 0)
  where
    go : length (items_in n size (drop (size xs) xs)) ≤ n → (t : Bool) → length (cond t [] (take (size xs) xs ∷ items_in n size (drop (size xs) xs))) ≤ suc n
    go l true = omega arith
    go l false = omega (arith, l)

pub count-few : (size : Size) (xs : List ℕ) → count size xs ≤ length xs
unfolding count items
count-few size xs = few (length xs) size xs

-- THE FIRST THAT MEETS A TEST is one that meets it, with none before it that does; and there is none only where none does
pub first_hit : (good : List ℕ → Bool) (k : ℕ) (is : List (List ℕ)) (j : ℕ) → first_from good k is ≡ Some j
    → (js : List (List ℕ)) × (x : List ℕ) × (ks : List (List ℕ)) × (js ++ x ∷ ks ≡ is) × (j ≡ k + length js) × (good x ≡ true) × (every (λ y. not (good y)) js ≡ true)
unfolding first_from every
first_hit good k [] j e = let z : ◌≡◌ {A = ℕ} 0 1 = cc in absurd (omega arith)
first_hit good k (x ∷ is) j e = go (first_hit good (k + 1) is j) (good x) refl e
  where
    go : (first_from good (k + 1) is ≡ Some j
        → (js : List (List ℕ)) × (y : List ℕ) × (ks : List (List ℕ)) × (js ++ y ∷ ks ≡ is) × (j ≡ k + 1 + length js) × (good y ≡ true) × (every (λ y. not (good y)) js ≡ true))
        → (t : Bool) → good x ≡ t → cond t (Some k) (first_from good (k + 1) is) ≡ Some j
        → (js : List (List ℕ)) × (y : List ℕ) × (ks : List (List ℕ)) × (js ++ y ∷ ks ≡ x ∷ is) × (j ≡ k + length js) × (good y ≡ true) × (every (λ y. not (good y)) js ≡ true)
    go f true g e = let p : k ≡ j = cc in ([], x, is, refl, omega arith, g, refl)
    go f false g e =
        let q = f e in
        (x ∷ q.0, q.1, q.2, ap (λ (l : List (List ℕ)). x ∷ l) q.3, omega (arith, q.4), q.5, rw g q.6)

pub first-none : (good : List ℕ → Bool) (k : ℕ) (is : List (List ℕ)) → first_from good k is ≡ None → every (λ y. not (good y)) is ≡ true
unfolding first_from every
first-none good k [] e = refl
first-none good k (x ∷ is) e = go (first-none good (k + 1) is) (good x) e
  where
    go : (first_from good (k + 1) is ≡ None → every (λ y. not (good y)) is ≡ true) → (t : Bool) → cond t (Some k) (first_from good (k + 1) is) ≡ None
        → (not t && every (λ y. not (good y)) is) ≡ true
    go f true e = let z : ◌≡◌ {A = ℕ} 0 1 = cc in absurd (omega arith)
    go f false e = f e
