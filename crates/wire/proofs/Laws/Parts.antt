-- Items of a list that lies at a place: there is one for every place below their count and for no other; and a part of a part is a part of the whole.
use Prim.Native.Nat.{ℕ, ◌+◌, ◌≤◌, ◌<◌}
use mathlib.Core.Path.{◌≡◌, refl, sym, ap, ◌∙◌}
use mathlib.Core.Bool.{Bool, true, false, ◌&&◌}
use mathlib.Core.List.{List, [], ◌∷◌, ◌++◌}
use Rattle.std.proofs.Common.{Some, None}
use native.Mathlib.Omega.{arith}
use lib.ListN.{length, take, drop, length-take, length-drop}
use lib.Seq.{take-take}
use Rattle.wire.specs.Items.{Size, IsKind, items, items_in, count, every}
use Rattle.wire.specs.Places.{Place, At, Finder, item_at, in_part, part_at, Inside}
use Rattle.wire.proofs.Laws.Meaning.{item-there, past_means}
use Rattle.wire.proofs.Laws.Finders.{Sound, in_part-none, in_part-lost, in_part-at, in_part_has, part_part, item-is, item-bytes}

pub part-at : (s : List ℕ) (a n : ℕ) → part_at (At a n) s ≡ take n (drop a s)
unfolding part_at
part-at s a n = refl

pub part-few : (p : Place) (s : List ℕ) → length (part_at p s) ≤ length s
unfolding part_at
part-few None s = omega arith
part-few (Some p) s = let l = length-take p.size (drop p.start s) in let d = length-drop p.start s in omega (arith, l, d)

module _ (size : Size) (kind : IsKind size) (s : List ℕ) (k : ℕ) where
  pub item_in : (p : Place) → k < count size (part_at p s) → (a : ℕ) × (n : ℕ) × (in_part (item_at size k) p s ≡ At a n)
  unfolding part_at count items items_in
  item_in None h = absurd (omega arith)
  item_in (Some p) h =
      let t = item-there size kind k (take p.size (drop p.start s)) h in
      (p.start + t.0, t.1, in_part-at (item_at size k) s p.start p.size t.0 t.1 t.2)

  pub item-past : (p : Place) → count size (part_at p s) ≤ k → in_part (item_at size k) p s ≡ None
  unfolding part_at
  item-past None h = in_part-none (item_at size k) s
  item-past (Some p) h = in_part-lost (item_at size k) s p.start p.size (past_means size kind k (take p.size (drop p.start s)) h)

-- what was found in a part, as a part of the whole
pub part-within : (g : Finder) → Sound g → (s : List ℕ) (a n : ℕ) → a + n ≤ length s
    → part_at (in_part g (At a n) s) s ≡ part_at (g (take n (drop a s))) (take n (drop a s))
unfolding part_at
part-within g sg s a n h = go (g (take n (drop a s))) refl
  where
    go : (q : Place) → g (take n (drop a s)) ≡ q → part_at (in_part g (At a n) s) s ≡ part_at q (take n (drop a s))
    go None e = ap (λ (p : Place). part_at p s) (in_part-lost g s a n e)
    go (Some q) e =
        let f = sg (take n (drop a s)) q.start q.size e in
        let l : q.start + q.size ≤ n = omega (arith, simp (length-take, length-drop) at f) in
        ap (λ (p : Place). part_at p s) (in_part-at g s a n q.start q.size e) ∙ sym (part_part s a n q.start q.size h l)

-- an item that was found in a part is what its list from there on begins with
pub found_item : (size : Size) → IsKind size → (k : ℕ) (p : Place) (s : List ℕ) → Inside p s → (c m : ℕ) → in_part (item_at size k) p s ≡ At c m
    → (a : ℕ) × (n : ℕ) × (p ≡ At a n) × (a ≤ c) × (c + m ≤ a + n) × (0 < m) × (size (take m (drop c s)) ≡ m)
found_item size kind k p s i c m e =
    let q = in_part_has (item_at size k) s p c m e in
    go q.0 q.1 q.2 q.3 q.4 q.5
  where
    go : (a n b : ℕ) → p ≡ At a n → item_at size k (take n (drop a s)) ≡ At b m → c ≡ a + b
        → (a : ℕ) × (n : ℕ) × (p ≡ At a n) × (a ≤ c) × (c + m ≤ a + n) × (0 < m) × (size (take m (drop c s)) ≡ m)
    go a n b e f g =
        let h = i a n e in
        let t = item-is size kind k (take n (drop a s)) b m f in
        let l : b + m ≤ n = omega (arith, simp (length-take, length-drop) at t.0) in
        let w : take m (drop b (take n (drop a s))) ≡ take m (drop c s) = part_part s a n b m h l ∙ ap (λ (x : ℕ). take m (drop x s)) (sym g) in
        let xs : List ℕ = drop b (take n (drop a s)) in
        let z : size xs ≡ m = t.1 in
        let o : size (take m xs) ≡ size xs = kind.own xs (take m xs) (omega arith) (rw z (take-take m m xs (omega arith))) in
        (a, n, e, omega arith, omega arith, t.2, ap size (sym w) ∙ o ∙ z)

-- an item that was found in a part is the k-th of the part's items
pub found_among : (size : Size) → IsKind size → (k : ℕ) (p : Place) (s : List ℕ) → Inside p s → (a n : ℕ) → in_part (item_at size k) p s ≡ At a n
    → (js : List (List ℕ)) × (ks : List (List ℕ)) × (js ++ take n (drop a s) ∷ ks ≡ items size (part_at p s)) × (length js ≡ k)
found_among size kind k p s i a n e =
    let q = in_part_has (item_at size k) s p a n e in
    go q.0 q.1 q.2 q.3 q.4 q.5
  where
    go : (b m c : ℕ) → p ≡ At b m → item_at size k (take m (drop b s)) ≡ At c n → a ≡ b + c
        → (js : List (List ℕ)) × (ks : List (List ℕ)) × (js ++ take n (drop a s) ∷ ks ≡ items size (part_at p s)) × (length js ≡ k)
    go b m c d f g =
        let h = i b m d in
        let t = item-is size kind k (take m (drop b s)) c n f in
        let l : c + n ≤ m = omega (arith, simp (length-take, length-drop) at t.0) in
        let w : take n (drop c (take m (drop b s))) ≡ take n (drop a s) = part_part s b m c n h l ∙ ap (λ (x : ℕ). take n (drop x s)) (sym g) in
        let j = item-bytes size kind k (take m (drop b s)) c n f in
        let u : part_at p s ≡ take m (drop b s) = ap (λ (q : Place). part_at q s) d ∙ part-at s b m in
        (j.0, j.1, ap (λ (x : List ℕ). j.0 ++ x ∷ j.1) (sym w) ∙ j.2 ∙ ap (items size) (sym u), j.3)

-- where each item meets a test, one that was found meets it
each_met : (good : List ℕ → Bool) (js : List (List ℕ)) (x : List ℕ) (ks : List (List ℕ)) → every good (js ++ x ∷ ks) ≡ true → good x ≡ true
unfolding every
each_met good [] x ks e = go (good x) e
  where
    go : (t : Bool) → (t && every good ks) ≡ true → t ≡ true
    go true e = refl
    go false e = e
each_met good (j ∷ js) x ks e = each_met good js x ks (go (good j) e)
  where
    go : (t : Bool) → (t && every good (js ++ x ∷ ks)) ≡ true → every good (js ++ x ∷ ks) ≡ true
    go true e = e
    go false e = let z : ◌≡◌ {A = ℕ} 0 1 = cc in absurd (omega arith)

pub found_met : (size : Size) → IsKind size → (good : List ℕ → Bool) (k : ℕ) (p : Place) (s : List ℕ) → Inside p s
    → every good (items size (part_at p s)) ≡ true → (a n : ℕ) → in_part (item_at size k) p s ≡ At a n → good (take n (drop a s)) ≡ true
found_met size kind good k p s i v a n e =
    let j = found_among size kind k p s i a n e in
    each_met good j.0 (take n (drop a s)) j.1 (ap (every good) j.2 ∙ v)

-- what was found in a part lies inside it
pub found_inside : (g : Finder) → Sound g → (p : Place) (s : List ℕ) → Inside p s → (c m : ℕ) → in_part g p s ≡ At c m
    → (a : ℕ) × (n : ℕ) × (p ≡ At a n) × (a ≤ c) × (c + m ≤ a + n)
found_inside g sg p s i c m e =
    let q = in_part_has g s p c m e in
    let h = i q.0 q.1 q.3 in
    let k = sg (take q.1 (drop q.0 s)) q.2 m q.4 in
    let l : q.2 + m ≤ q.1 = omega (arith, simp (length-take, length-drop) at k) in
    (q.0, q.1, q.3, omega (arith, q.5), omega (arith, q.5))
