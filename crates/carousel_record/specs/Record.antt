-- The carousel record: what it says, and its rule. 01, "The carousel record".
use Rattle.std.specs.Prelude.{Option, Some, None, ℕ, suc, ◌+◌, ◌*◌, Bool, true, not, cond, ◌&&◌, List, [], ◌∷◌, map, eqb, leb, ltb, length, get_or, take, drop}
use Rattle.wire.specs.Copies.{same_numbers}
use Rattle.carousel_messages.specs.declared.Listed.{Listed}
use Rattle.carousel_messages.specs.Limits.{most_modules, most_blocks, total, beyond10, twice11}
use Rattle.carousel_messages.specs.Heard.{found, none_listed, sizes_of, numbers_of, place_in, Announced}
use Rattle.carousel_record.specs.declared.Module.{Module}
use Rattle.carousel_record.specs.declared.Carousel.{Carousel}
use Rattle.carousel_record.specs.declared.Head.{Head}
use Rattle.carousel_record.specs.declared.Slot.{Slot}
use Rattle.carousel_record.specs.Blocks.{blocks_of, block_length_of}
use Rattle.carousel_record.specs.Marks.{module_words, mark_words, mark_of, is_marked, marks_within, clear_among}

-- The record as the paper has it: it "holds the announcement .., each module's start in the image, and a received mark for each of 32 × 1,024 possible blocks".
pub record Record : Type 0 where
  pub announced : Announced
  pub starts : List ℕ
  pub marks : List ℕ

-- The record as the code holds it has an array of entries and a count. What such a record says:
abbrev pub listed_in : Module → Listed
listed_in m = record { number = m.number; size = m.size; version = m.version }

abbrev pub start_in : Module → ℕ
start_in m = m.start

unfoldable pub announced_by : Carousel → Announced
announced_by c = record { download = c.download; block_size = c.block_size; modules = map listed_in (take c.count c.modules) }

unfoldable pub starts_by : Carousel → List ℕ
starts_by c = map start_in (take c.count c.modules)

abbrev pub record_of : Carousel → Record
record_of c = record { announced = announced_by c; starts = starts_by c; marks = c.marks }

-- the announced module at a place
abbrev pub module_at : Announced → ℕ → Listed
module_at a i = get_or a.modules i none_listed

abbrev pub place_of : Announced → ℕ → ℕ
place_of a n = place_in n a.modules

-- the sizes together
abbrev pub bytes_of : Announced → ℕ
bytes_of a = total (sizes_of a.modules)

-- A record in three parts, and put together again: its head, with the sizes together beside it; its entries; and its marks. Who takes many sections keeps them apart.
abbrev pub head_of : Carousel → Head
head_of c = record { download = c.download; block_size = c.block_size; count = c.count; bytes = bytes_of (announced_by c) }

abbrev pub joined_of : Head → List Module → (marks : List ℕ) → Carousel
joined_of h ms ws = record { download = h.download; block_size = h.block_size; count = h.count; modules = ms; marks = ws }

-- the numbers of entries, and the place of one among numbers
abbrev pub number_in : Module → ℕ
number_in m = m.number

unfoldable pub place_among : ℕ → List ℕ → ℕ
place_among n [] = 0
place_among n (k ∷ ks) = cond (eqb k n) 0 (suc (place_among n ks))

-- "Modules lie one after another in announced order from byte 0": running sums, from s on
unfoldable pub sums : ℕ → List ℕ → List ℕ
sums s [] = []
sums s (z ∷ zs) = s ∷ sums (s + z) zs

-- the blocks of the module at place i
abbrev pub block_count : Announced → ℕ → ℕ
block_count a i = blocks_of a.block_size (module_at a i).size

abbrev pub block_length : Announced → (place block : ℕ) → ℕ
block_length a i b = block_length_of a.block_size (module_at a i).size b

-- whether block b of the module at place i has come
abbrev pub received : Record → (place block : ℕ) → Bool
received r i b = is_marked r.marks (mark_of i b)

-- a block's place "begins at its module's start + block number × blockSize"
unfoldable pub block_at : Record → (place block : ℕ) → ℕ
block_at r i b = get_or r.starts i 0 + b * r.announced.block_size

-- a module's part of an image
unfoldable pub module_part : Record → List ℕ → ℕ → List ℕ
module_part r image i = take (module_at r.announced i).size (drop (get_or r.starts i 0) image)

-- the blocks of the module at place i that have not come, lowest first; it is complete where there is none
unfoldable pub missing_of : Record → ℕ → List ℕ
missing_of r i = clear_among r.marks (most_blocks * i) 0 (block_count r.announced i)

abbrev pub complete_of : Record → ℕ → Bool
complete_of r i = eqb (length (missing_of r i)) 0

-- "if any, the limits of refusals 10 and 11 hold ..; with none, all is zero"
unfoldable pub within_limits : Announced → Bool
within_limits a = cond (eqb (length a.modules) 0)
    (eqb a.download 0 && eqb a.block_size 0)
    (not (beyond10 a.block_size (sizes_of a.modules)) && not (twice11 (numbers_of a.modules)))

-- "The record's rule: .. the limits of refusals 10 and 11 hold and starts are running sums; .. marks past a last block are zero"
unfoldable pub ruled : Record → Bool
ruled r =
    eqb (length r.marks) mark_words
    && within_limits r.announced
    && same_numbers r.starts (sums 0 (sizes_of r.announced.modules))
    && marks_within module_words (map (λ z. blocks_of r.announced.block_size z) (sizes_of r.announced.modules)) r.marks

-- "unused entries .. are zero"
abbrev pub unused : Module
unused = record { number = 0; size = 0; version = 0; start = 0 }

abbrev pub is_unused : Module → Bool
is_unused m = eqb m.number 0 && eqb m.size 0 && eqb m.version 0 && eqb m.start 0

-- the entry at a place that was found, if there is one; and of an announced module, by its number
abbrev pub slot_at : Option ℕ → List Module → Option Slot
slot_at (Some i) ms = cond (ltb i (length ms)) (Some (record { place = i; entry = get_or ms i unused })) None
slot_at None ms = None

abbrev pub slot_of : Carousel → (number : ℕ) → Option Slot
slot_of c number = slot_at (found (place_of (announced_by c) number) (length (announced_by c).modules)) c.modules

unfoldable pub all_unused : List Module → Bool
all_unused [] = true
all_unused (m ∷ ms) = is_unused m && all_unused ms

-- "at most 32 modules; .. unused entries .. are zero", and what the record says keeps the rule. 1: "record breaks its rule" is where this is false
unfoldable pub ruled_of : Carousel → Bool
ruled_of c = leb c.count most_modules && all_unused (drop c.count c.modules) && ruled (record_of c)
