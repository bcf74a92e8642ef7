-- Bytes that are compared, and bytes that are laid over others.
use Rattle.std.specs.Prelude.{ℕ, ◌+◌, Bool, true, false, cond, ◌&&◌, List, [], ◌∷◌, ◌++◌, eqb, leb, length, take, drop}

-- whether two lists of numbers are the same
unfoldable pub same_numbers : List ℕ → List ℕ → Bool
same_numbers [] [] = true
same_numbers [] (y ∷ ys) = false
same_numbers (x ∷ xs) [] = false
same_numbers (x ∷ xs) (y ∷ ys) = eqb x y && same_numbers xs ys

-- the image with these bytes from index `at` on, and every other byte as it was
unfoldable pub overwrite : List ℕ → ℕ → List ℕ → List ℕ
overwrite image at bytes = take at image ++ (bytes ++ drop (at + length bytes) image)

-- bytes laid over others from a place on; where they do not fit, nothing is laid
unfoldable pub laid_at : List ℕ → ℕ → List ℕ → List ℕ
laid_at out at bytes = cond (leb (at + length bytes) (length out)) (overwrite out at bytes) out
