-- The blocks of a module. 01, "The messages".
use Rattle.std.specs.Prelude.{ℕ, suc, ◌+◌, ◌-◌, ◌*◌, ◌/◌, cond, ltb}

-- "A module of size z has ceil(z / blockSize) blocks."
unfoldable pub blocks_of : (block_size size : ℕ) → ℕ
blocks_of bs z = (z + (bs - 1)) / bs

-- "Each has blockSize bytes; the last has what is left, never 0."
unfoldable pub block_length_of : (block_size size block : ℕ) → ℕ
block_length_of bs z b = cond (ltb (suc b) (blocks_of bs z)) bs (z - b * bs)
