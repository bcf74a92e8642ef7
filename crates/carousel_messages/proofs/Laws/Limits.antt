-- The limits over the first n modules of an array, one module at a time, as the loops take them.
use Prim.Native.Nat.{ℕ, zero, suc, ◌+◌, ◌*◌, ◌≤◌, ◌<◌, min}
use mathlib.Core.Path.{◌≡◌, refl, sym, ap, ◌∙◌}
use mathlib.Core.Bool.{Bool, true, false, cond, ◌||◌}
use mathlib.Core.List.{List, [], ◌∷◌, ◌++◌, map}
use native.Mathlib.Numerals.{add-one}
use native.Mathlib.Omega.{arith}
use native.Mathlib.Decide.{dec_lt}
use lib.Dec.{eqb, ltb, leb-suc-suc}
use lib.ListN.{length, get_or, set, take, drop, length-map, length-take, length-drop, drop_of_length-le}
use lib.Seq.{drop-cons, take_all, take-suc, take-suc-set}
use borrow.Author.Tests.{eq-eqb, ne_eqb, lt-ltb, le-ltb, eqb-false, ltb-true, ltb-false}
use Rattle.std.proofs.Common.{Some, None, unwrap_or, is_some}
use Rattle.wire.proofs.Laws.Tests.{neither}
use Rattle.carousel_messages.specs.declared.Listed.{Listed}
use Rattle.carousel_messages.specs.Limits.{largest_block, most_modules, most_blocks, most_bytes, some_bad, total, beyond10, among, twice11}
use Rattle.carousel_messages.specs.Heard.{none_listed, sizes_of, numbers_of, place_in, found}

-- a number is among some exactly where it has a place
pub among-place : (n : ℕ) (ms : List Listed) → among n (numbers_of ms) ≡ ltb (place_in n ms) (length ms)
unfolding among place_in
among-place n [] = refl
among-place n (m ∷ ms) = go (eqb m.number n) (among-place n ms)
  where
    go : (t : Bool) → among n (numbers_of ms) ≡ ltb (place_in n ms) (length ms) → (t || among n (numbers_of ms)) ≡ ltb (cond t 0 (suc (place_in n ms))) (suc (length ms))
    go true e = sym (lt-ltb 0 (suc (length ms)) (omega arith))
    go false e = e ∙ sym (leb-suc-suc (suc (place_in n ms)) (length ms))

pub take_map : {A B : Type 0} (f : A → B) (n : ℕ) (xs : List A) → take n (map f xs) ≡ map f (take n xs)
take_map f zero xs = refl
take_map f (suc n) [] = refl
take_map {A} {B} f (suc n) (x ∷ xs) = ap (λ (r : List B). f x ∷ r) (take_map f n xs)

-- one more of those that an array is filled with
pub filled_next : {A : Type 0} (none : A) (ms all : List A) (i : ℕ) (m : A) → i < length ms → i < length all → m ≡ get_or all i none → take i ms ≡ take i all
    → take (i + 1) (set ms i m) ≡ take (i + 1) all
filled_next {A} none ms all i m h k e f =
    rw (add-one i) (take-suc-set ms i m h ∙ ap (λ (xs : List A). xs ++ (m ∷ [])) f ∙ ap (λ (x : A). take i all ++ (x ∷ [])) e ∙ sym (take-suc all i none k))

-- the first n of an array are the first of as many as it has
pub first-used : (ms : List Listed) (n : ℕ) → length ms ≡ most_modules → take (min n most_modules) ms ≡ take n ms
first-used ms n e = elim (dec_lt n most_modules) [
  | yes p ↦ let f : min n most_modules ≡ n = omega arith in rw f
  | no p ↦ let f : min n most_modules ≡ most_modules = omega arith in rw f (take_all most_modules ms (omega arith) ∙ sym (take_all n ms (omega arith)))
]

module _ (xs : List Listed) (i : ℕ) (l : i < length xs) where
  abbrev here : Listed
  here = get_or xs i none_listed

  abbrev after : List Listed
  after = drop (i + 1) xs

  next : drop i xs ≡ here ∷ after
  next = rw (add-one i) (drop-cons xs i none_listed l)

  pub total-next : here.size + total (sizes_of after) ≡ total (sizes_of (drop i xs))
  unfolding total
  total-next = rw next

  -- a size that is 0, or too large, or neither
  module _ (bs : ℕ) where
    pub bad_zero : here.size ≡ 0 → some_bad bs (sizes_of (drop i xs)) ≡ true
    unfolding some_bad
    bad_zero e = rw (next, eq-eqb here.size 0 e)

    module _ (z : here.size ≡ 0 → ⊥) where
      pub bad-large : most_blocks * bs < here.size → some_bad bs (sizes_of (drop i xs)) ≡ true
      unfolding some_bad
      bad-large e = rw (next, ne_eqb here.size 0 z, lt-ltb (most_blocks * bs) here.size e)

      pub bad-next : here.size ≤ most_blocks * bs → some_bad bs (sizes_of after) ≡ some_bad bs (sizes_of (drop i xs))
      unfolding some_bad
      bad-next e = rw (next, ne_eqb here.size 0 z, le-ltb (most_blocks * bs) here.size e)

  -- the place of a number
  pub place_hit : (k : ℕ) → here.number ≡ k → place_in k (drop i xs) ≡ 0
  unfolding place_in
  place_hit k e = rw (next, eq-eqb here.number k e)

  pub place-next : (k : ℕ) → (here.number ≡ k → ⊥) → place_in k (drop i xs) ≡ suc (place_in k after)
  unfolding place_in
  place-next k e = rw (next, ne_eqb here.number k e)

  -- a number that has a place among the later ones, or has none
  pub twice_hit : i + 1 + place_in here.number after < length xs → twice11 (numbers_of (drop i xs)) ≡ true
  unfolding twice11
  twice_hit h =
      let d = length-drop (i + 1) xs in
      rw (next, among-place here.number after, lt-ltb (place_in here.number after) (length after) (omega arith))

  pub twice-next : length xs ≤ i + 1 + place_in here.number after → twice11 (numbers_of after) ≡ twice11 (numbers_of (drop i xs))
  unfolding twice11
  twice-next h =
      let d = length-drop (i + 1) xs in
      rw (next, among-place here.number after, le-ltb (place_in here.number after) (length after) (omega arith))

-- none left
module _ (xs : List Listed) (i : ℕ) (l : length xs ≤ i) where
  pub total-done : total (sizes_of (drop i xs)) ≡ 0
  unfolding total
  total-done = rw (drop_of_length-le xs l)

  pub bad-done : (bs : ℕ) → some_bad bs (sizes_of (drop i xs)) ≡ false
  unfolding some_bad
  bad-done bs = rw (drop_of_length-le xs l)

  pub place-done : (k : ℕ) → place_in k (drop i xs) ≡ 0
  unfolding place_in
  place-done k = rw (drop_of_length-le xs l)

  pub twice-done : twice11 (numbers_of (drop i xs)) ≡ false
  unfolding twice11
  twice-done = rw (drop_of_length-le xs l)

one_met : (before after last : Bool) → (before || true || after || last) ≡ true
one_met true x last = refl
one_met false x last = refl

-- a place among some, or none
pub found-at : (p n : ℕ) → p < n → Some p ≡ found p n
found-at p n h = rw (lt-ltb p n h)

pub found-none : (p n : ℕ) → n ≤ p → None ≡ found p n
found-none p n h = rw (le-ltb p n h)

pub found-some : (p n : ℕ) → is_some (found p n) ≡ ltb p n
found-some p n = go (ltb p n)
  where
    go : (t : Bool) → is_some (cond t (Some p) None) ≡ t
    go true = refl
    go false = refl

pub found-has : (p n i : ℕ) → Some i ≡ found p n → (i ≡ p) × (p < n)
found-has p n i e = go (ltb p n) refl e
  where
    go : (t : Bool) → ltb p n ≡ t → Some i ≡ cond t (Some p) None → (i ≡ p) × (p < n)
    go true f e = (ap (λ o. unwrap_or o 0) e, ltb-true p n f)
    go false f e = let z : ◌≡◌ {A = ℕ} 0 1 = cc in absurd (omega arith)

pub found-past : (p n : ℕ) → None ≡ found p n → n ≤ p
found-past p n e = go (ltb p n) refl e
  where
    go : (t : Bool) → ltb p n ≡ t → None ≡ cond t (Some p) None → n ≤ p
    go true f e = let z : ◌≡◌ {A = ℕ} 0 1 = cc in absurd (omega arith)
    go false f e = ltb-false p n f

-- 10, one limit after another
module _ (bs : ℕ) (xs : List Listed) where
  pub beyond-none : bs ≡ 0 → beyond10 bs (sizes_of xs) ≡ true
  unfolding beyond10
  beyond-none e = rw (eq-eqb bs 0 e)

  module _ (n : bs ≡ 0 → ⊥) where
    pub beyond-large : largest_block < bs → beyond10 bs (sizes_of xs) ≡ true
    unfolding beyond10
    beyond-large l = rw (ne_eqb bs 0 n, lt-ltb largest_block bs l)

    module _ (l : bs ≤ largest_block) where
      pub beyond-empty : length xs ≡ 0 → beyond10 bs (sizes_of xs) ≡ true
      unfolding beyond10
      beyond-empty e = rw (ne_eqb bs 0 n, le-ltb largest_block bs l, length-map xs (λ m. m.size), eq-eqb (length xs) 0 e)

      pub beyond-count : most_modules < length xs → beyond10 bs (sizes_of xs) ≡ true
      unfolding beyond10
      beyond-count g =
          rw (ne_eqb bs 0 n, le-ltb largest_block bs l, length-map xs (λ m. m.size), lt-ltb most_modules (length xs) g)
          (one_met (eqb (length xs) 0) (some_bad bs (sizes_of xs)) (ltb most_bytes (total (sizes_of xs))))

      pub beyond-sizes : (length xs ≡ 0 → ⊥) → length xs ≤ most_modules → beyond10 bs (sizes_of xs) ≡ (some_bad bs (sizes_of xs) || ltb most_bytes (total (sizes_of xs)))
      unfolding beyond10
      beyond-sizes m g = rw (ne_eqb bs 0 n, le-ltb largest_block bs l, length-map xs (λ m. m.size), ne_eqb (length xs) 0 m, le-ltb most_modules (length xs) g)

-- and what it is to be within all of them
pub record Within (bs : ℕ) (zs : List ℕ) : Type 0 where
  pub block_some : 0 < bs
  pub block_most : bs ≤ largest_block
  pub some : 0 < length zs
  pub few : length zs ≤ most_modules
  pub sizes : some_bad bs zs ≡ false
  pub together : total zs ≤ most_bytes

pub within : (bs : ℕ) (zs : List ℕ) → beyond10 bs zs ≡ false → Within bs zs
unfolding beyond10
within bs zs e =
    let o : Bool = eqb bs 0 in
    let p : Bool = ltb largest_block bs in
    let q : Bool = eqb (length zs) 0 in
    let r : Bool = ltb most_modules (length zs) in
    let h = neither (o || p || q || r || some_bad bs zs) (ltb most_bytes (total zs)) e in
    let k = neither (o || p || q || r) (some_bad bs zs) h.0 in
    let l = neither (o || p || q) r k.0 in
    let m = neither (o || p) q l.0 in
    let n = neither o p m.0 in
    record {
      block_some = omega (arith, eqb-false bs 0 n.0);
      block_most = ltb-false largest_block bs n.1;
      some = omega (arith, eqb-false (length zs) 0 m.1);
      few = ltb-false most_modules (length zs) l.1;
      sizes = k.1;
      together = ltb-false most_bytes (total zs) h.1;
    }
