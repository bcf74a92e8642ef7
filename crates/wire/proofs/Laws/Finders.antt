-- What a finder finds lies in the list; and finders one after another.
use Prim.Native.Nat.{ℕ, zero, suc, ◌+◌, ◌-◌, ◌≤◌, ◌<◌}
use mathlib.Core.Path.{◌≡◌, refl, sym, ap, ◌∙◌}
use mathlib.Core.Bool.{Bool, true, false, cond}
use mathlib.Core.List.{List, [], ◌∷◌, ◌++◌, append_assoc}
use Rattle.std.proofs.Common.{Some, None}
use native.Mathlib.Omega.{arith}
use lib.Dec.{leb}
use lib.ListN.{length, take, drop, length-append, length-take, length-drop}
use lib.Seq.{take_at, drop_at, drop-drop, take-take}
use borrow.Author.Tests.{le-leb, lt-leb, leb-true}
use Rattle.wire.specs.Items.{Size, IsKind, Wholes, items, joined}
use Rattle.wire.specs.Places.{Place, At, Finder, on_place, item_at, place_from, after, bytes, inner, in_part, within, Inside}
use Rattle.wire.proofs.Laws.Steps.{covers}
use Rattle.wire.proofs.Laws.Frames.{rest_of}
use Rattle.wire.proofs.Laws.Meaning.{wholes, front, joined-both}

-- a place tells where it lies
pub at-same : (a n b m : ℕ) → At a n ≡ At b m → (a ≡ b) × (n ≡ m)
at-same a n b m e = (ap (λ p. on_place p 0 (λ a n. a)) e, ap (λ p. on_place p 0 (λ a n. n)) e)

placed : (k at : ℕ) (is : List (List ℕ)) (a n : ℕ) → place_from k at is ≡ At a n
    → (js : List (List ℕ)) × (x : List ℕ) × (ks : List (List ℕ)) × (js ++ x ∷ ks ≡ is) × (a ≡ at + length (joined js)) × (n ≡ length x) × (length js ≡ k)
unfolding place_from joined
placed zero at [] a n e = let z : ◌≡◌ {A = ℕ} 0 1 = cc in absurd (omega arith)
placed (suc k) at [] a n e = let z : ◌≡◌ {A = ℕ} 0 1 = cc in absurd (omega arith)
placed zero at (x ∷ is) a n e = let p = at-same at (length x) a n e in ([], x, is, refl, omega arith, sym p.1, refl)
placed (suc k) at (x ∷ is) a n e =
    let q = placed k (at + length x) is a n e in
    (x ∷ q.0, q.1, q.2, ap (λ (l : List (List ℕ)). x ∷ l) q.3, rw length-append (omega arith), q.5, ap suc q.6)

whole_of : (size : Size) (js : List (List ℕ)) (x : List ℕ) (ks : List (List ℕ)) → Wholes size (js ++ x ∷ ks) → (size x ≡ length x) × (0 < length x)
whole_of size [] x ks w = w.0
whole_of size (y ∷ js) x ks w = whole_of size js x ks w.1

-- the bytes where an item of a list laid end to end lies are the item
bytes_of_lem : (js : List (List ℕ)) (x : List ℕ) (ks : List (List ℕ)) (rest xs : List ℕ) (a n : ℕ) → a ≡ 0 + length (joined js) → n ≡ length x
    → joined (js ++ x ∷ ks) ++ rest ≡ xs → take n (drop a xs) ≡ x
unfolding joined
bytes_of_lem js x ks rest xs a n f g c =
    let s : joined js ++ (x ++ (joined ks ++ rest)) ≡ xs = simp (joined-both, append_assoc) at c in
    let d : drop a xs ≡ x ++ (joined ks ++ rest) = rw (← s) (drop_at (joined js) (x ++ (joined ks ++ rest)) a (omega arith)) in
    rw d (take_at x (joined ks ++ rest) n (sym g))

lies : (size : Size) → IsKind size → (js : List (List ℕ)) (x : List ℕ) (ks : List (List ℕ)) (rest xs : List ℕ) (a n : ℕ)
    → Wholes size (js ++ x ∷ ks) → joined (js ++ x ∷ ks) ++ rest ≡ xs → a ≡ 0 + length (joined js) → n ≡ length x
    → (a + n ≤ length xs) × (size (drop a xs) ≡ n) × (0 < n)
unfolding joined
lies size kind js x ks rest xs a n w c e f =
    let v = whole_of size js x ks w in
    let s : joined js ++ (x ++ (joined ks ++ rest)) ≡ xs = simp (joined-both, append_assoc) at c in
    let d : drop a xs ≡ x ++ (joined ks ++ rest) = rw (← s) (drop_at (joined js) (x ++ (joined ks ++ rest)) a (omega arith)) in
    let l = simp length-append at (ap length s) in
    (omega arith, rw d (front size kind x (joined ks ++ rest) v ∙ sym f), omega arith)

-- an item that was found is one of the items, the k-th
pub item-bytes : (size : Size) → IsKind size → (k : ℕ) (xs : List ℕ) (a n : ℕ) → item_at size k xs ≡ At a n
    → (js : List (List ℕ)) × (ks : List (List ℕ)) × (js ++ take n (drop a xs) ∷ ks ≡ items size xs) × (length js ≡ k)
unfolding item_at
item-bytes size kind k xs a n e =
    let q = placed k 0 (items size xs) a n e in
    let c = covers size kind xs in
    go q.0 q.1 q.2 c.0 q.3 q.4 q.5 q.6 (rw q.3 c.1)
  where
    go : (js : List (List ℕ)) (x : List ℕ) (ks : List (List ℕ)) (rest : List ℕ) → js ++ x ∷ ks ≡ items size xs → a ≡ 0 + length (joined js) → n ≡ length x
        → length js ≡ k → joined (js ++ x ∷ ks) ++ rest ≡ xs → (js : List (List ℕ)) × (ks : List (List ℕ)) × (js ++ take n (drop a xs) ∷ ks ≡ items size xs) × (length js ≡ k)
    go js x ks rest e f g l c = (js, ks, ap (λ (y : List ℕ). js ++ y ∷ ks) (bytes_of_lem js x ks rest xs a n f g c) ∙ e, l)

-- an item that was found lies in the list, is not empty, and is what the list from there on begins with
pub item-is : (size : Size) → IsKind size → (k : ℕ) (xs : List ℕ) (a n : ℕ) → item_at size k xs ≡ At a n → (a + n ≤ length xs) × (size (drop a xs) ≡ n) × (0 < n)
unfolding item_at
item-is size kind k xs a n e =
    let q = placed k 0 (items size xs) a n e in
    let c = covers size kind xs in
    lies size kind q.0 q.1 q.2 c.0 xs a n (rw q.3 (wholes size kind xs)) (rw q.3 c.1) q.4 q.5

-- what a finder finds lies in the list
abbrev pub Sound : Finder → Type 0
Sound f = (xs : List ℕ) (a n : ℕ) → f xs ≡ At a n → a + n ≤ length xs

pub sound_item : (size : Size) → IsKind size → (k : ℕ) → Sound (item_at size k)
sound_item size kind k xs a n e = (item-is size kind k xs a n e).0

-- a place that is given where some bytes are there, and what it takes to have been given
guarded : (k l a n b m : ℕ) → cond (leb k l) (At a n) None ≡ At b m → (k ≤ l) × (a ≡ b) × (n ≡ m)
guarded k l a n b m e = go (leb k l) refl e
  where
    go : (t : Bool) → leb k l ≡ t → cond t (At a n) None ≡ At b m → (k ≤ l) × (a ≡ b) × (n ≡ m)
    go true h e = let p = at-same a n b m e in (leb-true k l h, p.0, p.1)
    go false h e = let z : ◌≡◌ {A = ℕ} 0 1 = cc in absurd (omega arith)

pub bytes-at : (a n : ℕ) (xs : List ℕ) → a + n ≤ length xs → bytes a n xs ≡ At a n
unfolding bytes
bytes-at a n xs h = rw (le-leb (a + n) (length xs) h)

pub bytes-none : (a n : ℕ) (xs : List ℕ) → length xs < a + n → bytes a n xs ≡ None
unfolding bytes
bytes-none a n xs h = rw (lt-leb (a + n) (length xs) h)

pub sound-bytes : (a n : ℕ) → Sound (bytes a n)
unfolding bytes
sound-bytes a n xs b m e = let g = guarded (a + n) (length xs) a n b m e in omega arith

pub inner-at : (a e : ℕ) (xs : List ℕ) → a + e ≤ length xs → inner a e xs ≡ At a (length xs - (a + e))
unfolding inner
inner-at a e xs h = rw (le-leb (a + e) (length xs) h)

pub inner-none : (a e : ℕ) (xs : List ℕ) → length xs < a + e → inner a e xs ≡ None
unfolding inner
inner-none a e xs h = rw (lt-leb (a + e) (length xs) h)

pub sound-inner : (a e : ℕ) → Sound (inner a e)
unfolding inner
sound-inner a e xs b m d = let g = guarded (a + e) (length xs) a (length xs - (a + e)) b m d in omega arith

pub after-at : (a : ℕ) (xs : List ℕ) → a ≤ length xs → after a xs ≡ At a (length xs - a)
after-at a xs h = inner-at a 0 xs (omega arith) ∙ ap (At a) (omega arith)

pub after_none : (a : ℕ) (xs : List ℕ) → length xs < a → after a xs ≡ None
after_none a xs h = inner-none a 0 xs (omega arith)

pub sound-after : (a : ℕ) → Sound (after a)
sound-after a = sound-inner a 0

-- what was found in a part
module _ (g : Finder) (xs : List ℕ) where
  pub in_part-none : in_part g None xs ≡ None
  unfolding in_part
  in_part-none = refl

  module _ (a n : ℕ) where
    pub in_part-lost : g (take n (drop a xs)) ≡ None → in_part g (At a n) xs ≡ None
    unfolding in_part
    in_part-lost d = rw d

    pub in_part-at : (b m : ℕ) → g (take n (drop a xs)) ≡ At b m → in_part g (At a n) xs ≡ At (a + b) m
    unfolding in_part
    in_part-at b m d = rw d

  pub in_part_has : (p : Place) (c m : ℕ) → in_part g p xs ≡ At c m
      → (a : ℕ) × (n : ℕ) × (b : ℕ) × (p ≡ At a n) × (g (take n (drop a xs)) ≡ At b m) × (c ≡ a + b)
  unfolding in_part
  in_part_has None c m e = let z : ◌≡◌ {A = ℕ} 0 1 = cc in absurd (omega arith)
  in_part_has (Some p) c m e = go (g (take p.size (drop p.start xs))) refl e
    where
      go : (q : Place) → g (take p.size (drop p.start xs)) ≡ q → on_place q None (λ b k. At (p.start + b) k) ≡ At c m
          → (a : ℕ) × (n : ℕ) × (b : ℕ) × (Some p ≡ At a n) × (g (take n (drop a xs)) ≡ At b m) × (c ≡ a + b)
      go None h e = let z : ◌≡◌ {A = ℕ} 0 1 = cc in absurd (omega arith)
      go (Some q) h e =
          let f = at-same (p.start + q.start) q.size c m e in
          (p.start, p.size, q.start, refl, h ∙ ap (At q.start) f.1, sym f.0)

pub in_part-inside : (g : Finder) → Sound g → (p : Place) (xs : List ℕ) → Inside p xs → Inside (in_part g p xs) xs
in_part-inside g sg p xs i c m e =
    let q = in_part_has g xs p c m e in
    let h = i q.0 q.1 q.3 in
    let k = sg (take q.1 (drop q.0 xs)) q.2 m q.4 in
    omega (arith, simp (length-take, length-drop) at k)

pub sound-within : (f g : Finder) → Sound f → Sound g → Sound (within f g)
sound-within f g sf sg xs = in_part-inside g sg (f xs) xs (sf xs)

-- as code meets them: a part of n bytes at a, and what lies in it
pub part : (s : List ℕ) (a n : ℕ) → take (a + n - a) (drop a s) ≡ take n (drop a s)
part s a n = let e : a + n - a ≡ n = omega arith in rw e

-- a part of a part is a part
pub part_part : (s : List ℕ) (a n b m : ℕ) → a + n ≤ length s → b + m ≤ n → take m (drop b (take n (drop a s))) ≡ take m (drop (a + b) s)
part_part s a n b m h k =
    let l : List ℕ = drop a s in
    let e : n ≡ b + (n - b) = omega arith in
    let g : b + (n - b) ≤ length l = rw length-drop (omega arith) in
    let d : b + (n - b) - b ≡ n - b = omega arith in
    let r : take (n - b) (drop b l) ≡ drop b (take (b + (n - b)) l) = rw d at (rest_of l b (n - b) g) in
    ap (λ (i : ℕ). take m (drop b (take i l))) e ∙ ap (take m) (sym r) ∙ take-take m (n - b) (drop b l) (omega arith) ∙ ap (take m) (drop-drop b a s)
