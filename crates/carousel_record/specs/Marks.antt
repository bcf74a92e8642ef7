-- Received marks, in any number of words of 32 bits. 01, "The carousel record".
use Rattle.std.specs.Prelude.{ℕ, zero, suc, ◌+◌, ◌-◌, ◌*◌, ◌/◌, ◌%◌, ◌^◌, Bool, true, cond, ◌&&◌, List, [], ◌∷◌, eqb, get_or, set, take, drop}
use Rattle.std.specs.Int.Bits.{bit_or}
use Rattle.carousel_messages.specs.Limits.{most_modules, most_blocks}

-- 02 §8: "the marks are 32 × 1,024 in 1,024 words", of 32 bits
abbrev pub module_words : ℕ
module_words = most_blocks / 32

abbrev pub mark_words : ℕ
mark_words = most_modules * module_words

-- 02 §8: "mark 1,024 × i + b is for block b of the module at place i"
abbrev pub mark_of : (place block : ℕ) → ℕ
mark_of i b = most_blocks * i + b

-- "a word's lowest bit is its first mark"
unfoldable pub is_marked : List ℕ → ℕ → Bool
is_marked ws k = eqb (get_or ws (k / 32) 0 / 2 ^ (k % 32) % 2) 1

-- the words with mark k set
unfoldable pub marks_with : List ℕ → ℕ → List ℕ
marks_with ws k = set ws (k / 32) (bit_or (get_or ws (k / 32) 0) (2 ^ (k % 32)))

-- no mark from n on is set: of each word nothing is left above those of its marks that come before n
unfoldable pub clear_from : ℕ → List ℕ → Bool
clear_from n [] = true
clear_from n (w ∷ ws) = eqb (w / 2 ^ n) 0 && clear_from (n - 32) ws

-- "marks past a last block are zero": module after module, so many words each, by its number of blocks; then no mark at all
unfoldable pub marks_within : (words : ℕ) → (blocks marks : List ℕ) → Bool
marks_within w [] ws = clear_from 0 ws
marks_within w (n ∷ ns) ws = clear_from n (take w ws) && marks_within w ns (drop w ws)

-- of n blocks from b on, those that have no mark, lowest first; the mark of block 0 being `first`
unfoldable pub clear_among : List ℕ → (first b n : ℕ) → List ℕ
clear_among ws first b zero = []
clear_among ws first b (suc n) = cond (is_marked ws (first + b)) (clear_among ws first (suc b) n) (b ∷ clear_among ws first (suc b) n)
