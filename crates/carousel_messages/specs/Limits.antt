-- The limits of refusals 10 and 11, over what is announced: the block size, and the modules' sizes and numbers. The carousel record's rule is over the same.
-- The numbers stand here once, and once in the code (limits.rt). 02 §8: "Raise 16 modules to 32, 256 blocks to 1,024, and 65,536 bytes in all to 262,144, in the library".
use Rattle.std.specs.Prelude.{ℕ, ◌+◌, ◌*◌, Bool, false, ◌||◌, List, [], ◌∷◌, ltb, eqb, length}

abbrev pub largest_block : ℕ
largest_block = 4066

abbrev pub most_modules : ℕ
most_modules = 32

abbrev pub most_blocks : ℕ
most_blocks = 1024

abbrev pub most_bytes : ℕ
most_bytes = 262144

-- "a size 0 or over 1,024 × blockSize"
abbrev pub bad_size : (block_size size : ℕ) → Bool
bad_size block_size z = eqb z 0 || ltb (most_blocks * block_size) z

unfoldable pub some_bad : ℕ → List ℕ → Bool
some_bad block_size [] = false
some_bad block_size (z ∷ zs) = bad_size block_size z || some_bad block_size zs

unfoldable pub total : List ℕ → ℕ
total [] = 0
total (z ∷ zs) = z + total zs

-- 10: "blockSize 0 or over 4,066; 0 or over 32 modules; a size 0 or over 1,024 × blockSize; sizes over 262,144 together"
unfoldable pub beyond10 : ℕ → List ℕ → Bool
beyond10 block_size zs =
    eqb block_size 0 || ltb largest_block block_size || eqb (length zs) 0 || ltb most_modules (length zs) || some_bad block_size zs || ltb most_bytes (total zs)

-- whether a number is among some
unfoldable pub among : ℕ → List ℕ → Bool
among n [] = false
among n (k ∷ ks) = eqb k n || among n ks

-- 11: "module number twice"
unfoldable pub twice11 : List ℕ → Bool
twice11 [] = false
twice11 (k ∷ ks) = among k ks || twice11 ks
