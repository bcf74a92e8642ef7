-- The blocks that a module lacks, one at a time from the last on, as the loop over them takes them.
use Prim.Native.Nat.{ℕ, zero, suc, ◌+◌, ◌-◌, ◌≤◌, ◌<◌}
use mathlib.Core.Path.{◌≡◌, refl, sym, ap, ◌∙◌}
use mathlib.Core.Bool.{Bool, true, false, cond}
use mathlib.Core.List.{List, [], ◌∷◌}
use native.Mathlib.Numerals.{add-one}
use native.Mathlib.Omega.{arith}
use lib.ListN.{length}
use Rattle.carousel_record.specs.Marks.{is_marked, clear_among}
use Rattle.carousel_handout.specs.Calls.{lack_of, one_more}

-- blocks from b on, and one before them
module _ (ws : List ℕ) (first : ℕ) where
  among-before : (b k : ℕ) → lack_of (clear_among ws first b (suc k)) ≡ one_more (lack_of (clear_among ws first (suc b) k)) b (is_marked ws (first + b))
  unfolding clear_among
  among-before b k = go (is_marked ws (first + b)) (clear_among ws first (suc b) k)
    where
      go : (t : Bool) (xs : List ℕ) → lack_of (cond t xs (b ∷ xs)) ≡ one_more (lack_of xs) b t
      go true xs = refl
      go false [] = refl
      go false (x ∷ xs) = ap (λ (n : ℕ). record { count = n; lowest = b }) (sym (add-one (suc (length xs))))

  -- the same, from the first of those on that were looked at, n being all
  pub among_next : (n b : ℕ) → 0 < b → b ≤ n
      → lack_of (clear_among ws first (b - 1) (n - (b - 1))) ≡ one_more (lack_of (clear_among ws first b (n - b))) (b - 1) (is_marked ws (first + (b - 1)))
  among_next n b h l =
      let k : n - (b - 1) ≡ suc (n - b) = omega arith in
      let m : suc (b - 1) ≡ b = omega arith in
      rw k (among-before (b - 1) (n - b) ∙ ap (λ (x : ℕ). one_more (lack_of (clear_among ws first x (n - b))) (b - 1) (is_marked ws (first + (b - 1)))) m)

  pub among_none : (b : ℕ) → lack_of (clear_among ws first b 0) ≡ record { count = 0; lowest = 0 }
  unfolding clear_among
  among_none b = refl

  pub among-few : (b n : ℕ) → (lack_of (clear_among ws first b n)).count ≤ n
  unfolding clear_among
  among-few b zero = omega arith
  among-few b (suc n) = go (is_marked ws (first + b)) (clear_among ws first (suc b) n) (among-few (suc b) n)
    where
      go : (t : Bool) (xs : List ℕ) → (lack_of xs).count ≤ n → (lack_of (cond t xs (b ∷ xs))).count ≤ suc n
      go true xs h = omega arith
      go false [] h = omega arith
      go false (x ∷ xs) h = omega arith
