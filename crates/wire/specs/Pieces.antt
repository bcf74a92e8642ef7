-- Bytes cut into pieces, and bytes laid over others.
use Rattle.std.specs.Prelude.{ℕ, zero, suc, Bool, true, false, cond, List, [], ◌∷◌, ◌++◌, length, take, drop}

abbrev pub is_none : List ℕ → Bool
is_none [] = true
is_none (x ∷ xs) = false

-- at most n pieces
unfoldable pub cut_in : (n width : ℕ) → List ℕ → List (List ℕ)
cut_in zero width xs = []
cut_in (suc n) width xs = cond (is_none xs) [] (take width xs ∷ cut_in n width (drop width xs))

-- Pieces of so many bytes, and what is left over as the last. No piece is empty, so there are no more of them than bytes.
unfoldable pub cut : (width : ℕ) → List ℕ → List (List ℕ)
cut width xs = cut_in (length xs) width xs

-- bytes laid over the first of others, which keep the rest
abbrev pub laid_first : (new old : List ℕ) → List ℕ
laid_first new old = new ++ drop (length new) old
