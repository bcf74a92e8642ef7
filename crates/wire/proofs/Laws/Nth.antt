-- Things by their place in a list: the k-th item that a finder finds, the first that meets a test, and the only one.
use Prim.Native.Nat.{ℕ, zero, suc, ◌+◌, ◌<◌}
use mathlib.Core.Path.{◌≡◌, refl, ap}
use mathlib.Core.Bool.{Bool, true, false, cond}
use mathlib.Core.List.{List, [], ◌∷◌, ◌++◌}
use Rattle.std.proofs.Common.{Some, None}
use native.Mathlib.Omega.{arith}
use lib.ListN.{length, get_or, take, drop, length-append}
use lib.Seq.{get_or-append_seam}
use Rattle.wire.specs.Items.{Size, IsKind, items, count, number}
use Rattle.wire.specs.Places.{Place, At, item_at, in_part, part_at, first_from, Inside}
use Rattle.wire.proofs.Laws.Parts.{found_among}
use Rattle.wire.proofs.Laws.Tests.{clash}

-- WHAT A FINDER FINDS AT PLACE k IS THE k-th ITEM
pub nth_item : (size : Size) → IsKind size → (k : ℕ) (p : Place) (s : List ℕ) → Inside p s → (a n : ℕ) → in_part (item_at size k) p s ≡ At a n
    → (k < count size (part_at p s)) × (get_or (items size (part_at p s)) k [] ≡ take n (drop a s))
unfolding count
nth_item size kind k p s i a n e =
    let q = found_among size kind k p s i a n e in
    go q.0 q.1 (items size (part_at p s)) q.2 q.3
  where
    go : (js ks is : List (List ℕ)) → js ++ take n (drop a s) ∷ ks ≡ is → length js ≡ k → (k < length is) × (get_or is k [] ≡ take n (drop a s))
    go js ks is f g = rw (← f, ← g) (rw length-append (omega arith), get_or-append_seam js (take n (drop a s)) ks [])

-- THE FIRST THAT MEETS A TEST meets it, and none before it does; where there is none, none does
module _ (good : List ℕ → Bool) where
  pub first-at : (k : ℕ) (is : List (List ℕ)) (j : ℕ) → first_from good k is ≡ Some j
      → (m : ℕ) × (j ≡ k + m) × (m < length is) × (good (get_or is m []) ≡ true) × ((i : ℕ) → i < m → good (get_or is i []) ≡ false)
  unfolding first_from
  first-at k [] j e = let z : ◌≡◌ {A = ℕ} 0 1 = cc in absurd (omega arith)
  first-at k (x ∷ is) j e = go (first-at (k + 1) is j) (good x) refl e
    where
      before : good x ≡ false → (m : ℕ) → ((i : ℕ) → i < m → good (get_or is i []) ≡ false) → (i : ℕ) → i < suc m → good (get_or (x ∷ is) i []) ≡ false
      before g m f zero h = g
      before g m f (suc i) h = f i (omega arith)

      go : (first_from good (k + 1) is ≡ Some j
          → (m : ℕ) × (j ≡ k + 1 + m) × (m < length is) × (good (get_or is m []) ≡ true) × ((i : ℕ) → i < m → good (get_or is i []) ≡ false))
          → (t : Bool) → good x ≡ t → cond t (Some k) (first_from good (k + 1) is) ≡ Some j
          → (m : ℕ) × (j ≡ k + m) × (m < suc (length is)) × (good (get_or (x ∷ is) m []) ≡ true) × ((i : ℕ) → i < m → good (get_or (x ∷ is) i []) ≡ false)
      go f true g e = let p : k ≡ j = cc in (0, omega arith, omega arith, g, λ i h. absurd (omega (arith, h)))
      go f false g e =
          let q = f e in
          (suc q.0, omega (arith, q.1), omega (arith, q.2), q.3, before g q.0 q.4)

  pub first-nowhere : (k : ℕ) (is : List (List ℕ)) → first_from good k is ≡ None → (m : ℕ) → m < length is → good (get_or is m []) ≡ false
  unfolding first_from
  first-nowhere k [] e m h = absurd (omega arith)
  first-nowhere k (x ∷ is) e m h = go (first-nowhere (k + 1) is) (good x) refl e m h
    where
      go : (first_from good (k + 1) is ≡ None → (m : ℕ) → m < length is → good (get_or is m []) ≡ false)
          → (t : Bool) → good x ≡ t → cond t (Some k) (first_from good (k + 1) is) ≡ None → (m : ℕ) → m < suc (length is) → good (get_or (x ∷ is) m []) ≡ false
      go f true g e m h = let z : ◌≡◌ {A = ℕ} 0 1 = cc in absurd (omega arith)
      go f false g e zero h = g
      go f false g e (suc m) h = f e m (omega arith)

  -- where exactly one meets it, there is such a one, and two that meet it are one
  number-none : (is : List (List ℕ)) → number good is ≡ 0 → (m : ℕ) → m < length is → good (get_or is m []) ≡ false
  unfolding number
  number-none [] e m h = absurd (omega arith)
  number-none (x ∷ is) e m h = go (number-none is) (good x) refl e m h
    where
      go : (number good is ≡ 0 → (m : ℕ) → m < length is → good (get_or is m []) ≡ false)
          → (t : Bool) → good x ≡ t → cond t (suc (number good is)) (number good is) ≡ 0 → (m : ℕ) → m < suc (length is) → good (get_or (x ∷ is) m []) ≡ false
      go f true g e m h = absurd (omega arith)
      go f false g e zero h = g
      go f false g e (suc m) h = f e m (omega arith)

  pub one-there : (is : List (List ℕ)) → number good is ≡ 1 → (k : ℕ) → (j : ℕ) × (first_from good k is ≡ Some j)
  unfolding number first_from
  one-there [] e k = absurd (omega arith)
  one-there (x ∷ is) e k = go (one-there is) (good x) e
    where
      go : (number good is ≡ 1 → (k : ℕ) → (j : ℕ) × (first_from good k is ≡ Some j))
          → (t : Bool) → cond t (suc (number good is)) (number good is) ≡ 1 → (j : ℕ) × (cond t (Some k) (first_from good (k + 1) is) ≡ Some j)
      go f true e = (k, refl)
      go f false e = f e (k + 1)

  pub one_only : (is : List (List ℕ)) → number good is ≡ 1 → (m n : ℕ) → m < length is → n < length is
      → good (get_or is m []) ≡ true → good (get_or is n []) ≡ true → m ≡ n
  unfolding number
  one_only [] e m n h k p q = absurd (omega arith)
  one_only (x ∷ is) e m n h k p q = go (one_only is) (good x) refl e m n h k p q
    where
      go : (number good is ≡ 1 → (m n : ℕ) → m < length is → n < length is → good (get_or is m []) ≡ true → good (get_or is n []) ≡ true → m ≡ n)
          → (t : Bool) → good x ≡ t → cond t (suc (number good is)) (number good is) ≡ 1 → (m n : ℕ) → m < suc (length is) → n < suc (length is)
          → good (get_or (x ∷ is) m []) ≡ true → good (get_or (x ∷ is) n []) ≡ true → m ≡ n
      go f true g e zero zero h k p q = refl
      go f true g e zero (suc n) h k p q = absurd (clash _ q (number-none is (omega arith) n (omega arith)))
      go f true g e (suc m) n h k p q = absurd (clash _ p (number-none is (omega arith) m (omega arith)))
      go f false g e zero n h k p q = absurd (clash _ p g)
      go f false g e (suc m) zero h k p q = absurd (clash _ q g)
      go f false g e (suc m) (suc n) h k p q = ap suc (f e m n (omega arith) (omega arith) p q)
