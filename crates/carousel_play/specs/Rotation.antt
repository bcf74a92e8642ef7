-- ONE ROTATION. 02, §13: "From an announcement within the limits and an image holding its modules, write one rotation: the announcement, then each block in order."
use Rattle.std.specs.Prelude.{ℕ, zero, suc, ◌+◌, ◌*◌, ◌^◌, ◌≤◌, ◌<◌, ◌≡◌, length, get_or}
use mathlib.Core.List.{List, [], ◌∷◌, ◌++◌, Memᴰ}
use Rattle.carousel_messages.specs.Limits.{largest_block, most_modules, most_blocks, most_bytes, total}
use Rattle.carousel_messages.specs.Heard.{Announced, sizes_of, numbers_of}
use Rattle.carousel_messages.specs.Good.{Distinct}
use Rattle.carousel_record.specs.Record.{module_at, bytes_of, block_count}
use Rattle.carousel_play.specs.Bytes.{announcement_bytes, block_bytes}

-- blocks 0 to n - 1 of the module at place i
unfoldable pub module_sections : Announced → (image : List ℕ) → (place n : ℕ) → List (List ℕ)
module_sections a image i zero = []
module_sections a image i (suc n) = module_sections a image i n ++ (block_bytes a i n image ∷ [])

-- all blocks of the first n modules, in announced order
unfoldable pub sections_to : Announced → (image : List ℕ) → (n : ℕ) → List (List ℕ)
sections_to a image zero = []
sections_to a image (suc n) = sections_to a image n ++ module_sections a image n (block_count a n)

abbrev pub block_sections : Announced → (image : List ℕ) → List (List ℕ)
block_sections a image = sections_to a image (length a.modules)

-- "the announcement, then each block in order"
abbrev pub rotation : (identifier : ℕ) → Announced → (image : List ℕ) → List (List ℕ)
rotation id a image = announcement_bytes id a ∷ block_sections a image

-- how many sections there are: the announcement, and the blocks of each module
unfoldable pub blocks_to : Announced → (n : ℕ) → ℕ
blocks_to a zero = 0
blocks_to a (suc n) = blocks_to a n + block_count a n

abbrev pub section_count : Announced → ℕ
section_count a = 1 + blocks_to a (length a.modules)

-- "The section asked for by place", from 0
abbrev pub section_at : (identifier : ℕ) → Announced → (image : List ℕ) → (place : ℕ) → List ℕ
section_at id a image k = get_or (rotation id a image) k []

-- "AN ANNOUNCEMENT WITHIN THE LIMITS", as plain facts: none of refusal 10's and 11's. 01, "Numbers a call may answer", with 02 §8's numbers.
pub record KeepsLimits (a : Announced) : Type 0 where
  pub block_some : 1 ≤ a.block_size
  pub block_most : a.block_size ≤ largest_block
  pub modules_some : 1 ≤ length a.modules
  pub modules_most : length a.modules ≤ most_modules
  pub sizes : (z : ℕ) → Memᴰ z (sizes_of a.modules) → (1 ≤ z) × (z ≤ most_blocks * a.block_size)
  pub together : total (sizes_of a.modules) ≤ most_bytes
  pub distinct : Distinct (numbers_of a.modules)

-- and each field has its width, which in code its type gives
pub record Playable (a : Announced) : Type 0 where
  pub keeps : KeepsLimits a
  pub download : a.download < 2 ^ 32
  pub number : (i : ℕ) → i < length a.modules → (module_at a i).number < 2 ^ 16
  pub version : (i : ℕ) → i < length a.modules → (module_at a i).version < 2 ^ 8

-- "AN IMAGE HOLDING ITS MODULES": it is "at least as long as the sizes together"
abbrev pub Holding : Announced → (image : List ℕ) → Type 0
Holding a image = bytes_of a ≤ length image

-- a section of the rotation that carries a block
abbrev pub IsBlock : Announced → (image s : List ℕ) → Type 0
IsBlock a image s = (i : ℕ) × (b : ℕ) × (i < length a.modules) × (b < block_count a i) × (s ≡ block_bytes a i b image)
