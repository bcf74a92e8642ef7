-- The usual kind of item is a kind, and what it takes to be one.
use Prim.Native.Nat.{ℕ, zero, suc, ◌+◌, ◌-◌, ◌≤◌, ◌<◌}
use mathlib.Core.Path.{◌≡◌, refl, sym, ap, ◌∙◌}
use mathlib.Core.Bool.{Bool, true, false, cond}
use mathlib.Core.List.{List}
use native.Mathlib.Omega.{arith}
use lib.Dec.{leb}
use lib.ListN.{length, get_or, take, drop, length-take, length-drop}
use lib.Seq.{take-take, take-add, drop_at, drop-drop, get_or-take, length-take-le}
use borrow.Author.Tests.{le-leb, lt-leb, leb-true}
use Rattle.wire.specs.Items.{IsKind, said, framed}

-- what two lists that begin alike have in common
module _ (n : ℕ) (xs ys : List ℕ) (e : take n ys ≡ take n xs) where
  pub same_take : (m : ℕ) → m ≤ n → take m ys ≡ take m xs
  same_take m h = sym (take-take m n ys h) ∙ ap (take m) e ∙ take-take m n xs h

  pub same_length : n ≤ length xs → n ≤ length ys
  same_length h = let k : length (take n ys) ≡ length (take n xs) = ap length e in omega (arith, simp length-take at k)

  pub same_byte : (i : ℕ) → i < n → get_or ys i 0 ≡ get_or xs i 0
  same_byte i h = sym (get_or-take n ys i 0 h) ∙ ap (λ (l : List ℕ). get_or l i 0) e ∙ get_or-take n xs i 0 h

-- the code's `&s[h..e]` of an item that ends at e = h + m is the item after its header
pub rest_of : (s : List ℕ) (h m : ℕ) → h + m ≤ length s → take (h + m - h) (drop h s) ≡ drop h (take (h + m) s)
rest_of s h m k =
    let n : h + m - h ≡ m = omega arith in
    rw (n, take-add h m s) (sym (drop_at (take h s) (take m (drop h s)) h (length-take-le h s (omega arith))))

-- and the code's `&s[i + h..i + n]` is what follows the header of an item of n bytes at i
pub rest_in : (s : List ℕ) (i h n : ℕ) → h ≤ n → i + n ≤ length s → take (i + n - (i + h)) (drop (i + h) s) ≡ drop h (take n (drop i s))
rest_in s i h n k f =
    let d : i + n - (i + h) ≡ h + (n - h) - h = omega arith in
    let e : n ≡ h + (n - h) = omega arith in
    let g : h + (n - h) ≤ length (drop i s) = rw length-drop (omega arith) in
    rw (d, ← drop-drop h i s) (rest_of (drop i s) h (n - h) g) ∙ ap (λ (m : ℕ). drop h (take m (drop i s))) (sym e)

module _ (h : ℕ) (more : List ℕ → ℕ) (xs : List ℕ) where
  abbrev n : ℕ
  n = said h more xs

  pub framed-over : length xs < n → framed h more xs ≡ 0
  unfolding framed
  framed-over a = ap (λ (u : Bool). cond u n 0) (lt-leb n (length xs) a)

  pub framed-short : length xs < h → framed h more xs ≡ 0
  framed-short a = framed-over (omega arith)

  pub framed_is : n ≤ length xs → framed h more xs ≡ n
  unfolding framed
  framed_is a = ap (λ (u : Bool). cond u n 0) (le-leb n (length xs) a)

  -- where there is an item, it fits, and its size is what the header says
  pub framed_has : (framed h more xs ≡ 0 → ⊥) → (n ≤ length xs) × (framed h more xs ≡ n)
  unfolding framed
  framed_has z = go (leb n (length xs)) refl z
    where
      go : (u : Bool) → leb n (length xs) ≡ u → (cond u n 0 ≡ 0 → ⊥) → (n ≤ length xs) × (cond u n 0 ≡ n)
      go true e z = (leb-true n (length xs) e, refl)
      go false e z = absurd (z refl)

  -- as code meets it: m is what the header was read as
  pub framed-read : (m : ℕ) → more (take h xs) ≡ m → cond (leb (h + m) (length xs)) (h + m) 0 ≡ framed h more xs
  unfolding framed
  framed-read m e = rw e

pub framed_kind : (h : ℕ) (more : List ℕ → ℕ) → IsKind (framed h more)
framed_kind h more = record { fits = fits; own = own }
  where
    fits : (xs : List ℕ) → framed h more xs ≤ length xs
    fits xs = go (framed h more xs) refl
      where
        go : (n : ℕ) → framed h more xs ≡ n → framed h more xs ≤ length xs
        go zero e = omega arith
        go (suc n) e = let f = framed_has h more xs (λ z. omega (arith, z, e)) in omega arith

    own : (xs ys : List ℕ) → 0 < framed h more xs → take (framed h more xs) ys ≡ take (framed h more xs) xs → framed h more ys ≡ framed h more xs
    own xs ys p e =
        let f = framed_has h more xs (λ z. omega (arith, z, p)) in
        let n : ℕ = h + more (take h xs) in
        let e₁ : take n ys ≡ take n xs = rw f.1 at e in
        let e₂ : take h ys ≡ take h xs = same_take n xs ys e₁ h (omega arith) in
        let k = same_length n xs ys e₁ f.0 in
        rw f.1 (framed_is h more ys (rw e₂ k) ∙ rw e₂)

-- an item has its header at least
pub framed-least : (h : ℕ) (more : List ℕ → ℕ) (xs : List ℕ) → (framed h more xs ≡ 0 → ⊥) → h ≤ framed h more xs
framed-least h more xs z = let f = framed_has h more xs z in omega arith

-- a size that is given where as many bytes are there
module _ (n l : ℕ) where
  pub there : n ≤ l → n ≡ cond (leb n l) n 0
  there h = rw (le-leb n l h)

  pub not_there : l < n → 0 ≡ cond (leb n l) n 0
  not_there h = rw (lt-leb n l h)
