-- The paper's soundings of this floor, computed from the definitions; and two whole sections from the empty record on, so that "new", "stored" and "repeated" are not empty.
use Prim.Native.Nat.{ℕ, ◌-◌}
use mathlib.Core.Path.{◌≡◌, refl, sym, ap, ◌∙◌}
use mathlib.Core.Bool.{true, false}
use mathlib.Core.List.{List, [], ◌∷◌}
use lib.ListN.{replicate}
use Rattle.std.proofs.Common.{Ok, Err}
use Rattle.wire.specs.Fields.{field_at}
use Rattle.wire.specs.Tests.{first_met}
use Rattle.wire.specs.Items.{framed, items_in, items}
use Rattle.wire.specs.Copies.{same_numbers, overwrite}
use Rattle.section.specs.Answer.{refused}
use Rattle.carousel_messages.specs.Limits.{some_bad, total, beyond10, among, twice11}
use Rattle.carousel_messages.specs.Heard.{Announced, Arrived, Heard, announced, arrived, list_of, announced_in, arrived_in, heard_in, heard_of, place_in}
use Rattle.carousel_messages.proofs.Soundings as messages
use Rattle.carousel_messages.proofs.Soundings.{announcing, abcd}
use Rattle.carousel_record.specs.declared.Carousel.{Carousel}
use Rattle.carousel_step.specs.declared.Answer.TheVariants as answer
use Rattle.carousel_step.specs.declared.Stepped.{Stepped}
use Rattle.carousel_record.specs.Blocks.{blocks_of, block_length_of}
use Rattle.carousel_record.specs.Marks.{mark_words, is_marked, marks_with, clear_among}
use Rattle.carousel_record.specs.Record.{Record, announced_by, starts_by, record_of, sums, block_at, missing_of, complete_of, within_limits, ruled_of}
use Rattle.carousel_record.specs.Keeping.{same_at, words_kept, words_from, marks_kept}
use Rattle.carousel_record.specs.Changes.{empty_record, entries, bare_record, made_afresh, with_mark, afresh, marking}
use Rattle.carousel_step.specs.Step.{meets12, meets14, meets16, block_refusal, bytes_differ, same_modules, same_announced, refusing, new, same, repeated, stored}
use Rattle.carousel_record.specs.Refusals.{meets13, meets15}
use Rattle.carousel_step.specs.Step.{matched, on_arrived, on_announced, on_heard, outcome_of, record_after, image_after, stepped_of, image_of}
use Rattle.carousel_step.proofs.Laws.Outcomes.{stepped-is}
use Rattle.carousel_step.proofs.Simulation.{outcome-ruled, empty-ruled, step_rule}

-- download 5 of one module 7, version 1, of this size in blocks of this size; two modules; and a block of module 7
abbrev pub one : (block_size size : ℕ) → Announced
one bs z = record { download = 5; block_size = bs; modules = record { number = 7; size = z; version = 1 } ∷ [] }

abbrev pub two : (block_size size other : ℕ) → Announced
two bs z y = record { download = 5; block_size = bs; modules = record { number = 7; size = z; version = 1 } ∷ record { number = 8; size = y; version = 1 } ∷ [] }

abbrev pub block : ℕ → List ℕ → Arrived
block b bytes = record { download = 5; number = 7; version = 1; block = b; bytes = bytes }

-- the record after an announcement, with its first word of marks given
abbrev pub marked : Announced → ℕ → Record
marked a w = record { announced = a; starts = 0 ∷ []; marks = w ∷ replicate (mark_words - 1) 0 }

pub soundings :
    -- "Size 1,000, blockSize 400: blocks of 400, 400, 200."
    (blocks_of 400 1000 ≡ 3) × (block_length_of 400 1000 0 ≡ 400) × (block_length_of 400 1000 1 ≡ 400) × (block_length_of 400 1000 2 ≡ 200)
    -- "Size 800: two blocks, block 2 gives 16", whatever it carries
    × (blocks_of 400 800 ≡ 2) × (block_length_of 400 800 0 ≡ 400) × (block_length_of 400 800 1 ≡ 400) × ((bytes : List ℕ) → block_refusal (one 400 800) 800 (block 2 bytes) ≡ 16)
    -- "Size 65,536, blockSize 4,066: 17 blocks, last 480."
    × (blocks_of 4066 65536 ≡ 17) × (block_length_of 4066 65536 16 ≡ 480)
    -- "blockSize 1: size 1,024 taken, 1,025 gives 10" (02 §8). Here: what the record's rule lets stand.
    × (within_limits (one 1 1024) ≡ true) × (within_limits (one 1 1025) ≡ false)
    -- "blockSize 400: sizes 262,143 and 1 taken; 262,144 and 1 give 10" (02 §8)
    × (within_limits (two 400 262143 1) ≡ true) × (within_limits (two 400 262144 1) ≡ false)
    -- "Blocks 0 and 2 of three: missing 1, lowest 1."
    × (missing_of (marked (one 400 1000) 5) 0 ≡ 1 ∷ [])
    -- "Block 300 of a three-block module, with section number 44, passes check 9, then gives 16" (that it passes 9 is computed among the messages)
    × ((bytes : List ℕ) → block_refusal (one 400 1000) 1000 (block 300 bytes) ≡ 16)
unfolding blocks_of block_length_of block_refusal first_met meets12 meets13 meets14 meets15 meets16 place_in total within_limits beyond10 some_bad twice11 among missing_of clear_among is_marked
soundings = (refl, refl, refl, refl, refl, refl, refl, λ bytes. refl, refl, refl, refl, refl, refl, refl, refl, λ bytes. refl)

-- "two copies of block 0 "complete" a two-block module" is a false bearing: the second is "repeated", and block 1 is missing still
abbrev started : Record
started = afresh (marked (one 4 8) 0) (one 4 8)

abbrev copy : Heard
copy = arrived (block 0 (65 ∷ 66 ∷ 67 ∷ 68 ∷ []))

abbrev once : Record
once = record_after started (on_heard started (replicate 8 0) copy)

abbrev once_image : List ℕ
once_image = image_after (replicate 8 0) (on_heard started (replicate 8 0) copy)

abbrev twice : Record
twice = record_after once (on_heard once once_image copy)

pub two_copies : (on_heard started (replicate 8 0) copy ≡ stored 0 0 (65 ∷ 66 ∷ 67 ∷ 68 ∷ [])) × (on_heard once once_image copy ≡ repeated)
    × (complete_of twice 0 ≡ false) × (missing_of twice 0 ≡ 1 ∷ [])
unfolding afresh marks_kept words_from words_kept same_at sums blocks_of block_length_of on_heard on_arrived matched block_refusal first_met meets12 meets13 meets14 meets15 meets16 place_in total
    block_at bytes_differ same_numbers is_marked marks_with marking overwrite missing_of clear_among
two_copies = (refl, refl, refl, refl)

-- The two whole sections of the messages' soundings: an announcement of download 1 with one module of 6 bytes in blocks of 4, and its block 0, "ABCD".
abbrev told : Announced
told = record { download = 1; block_size = 4; modules = record { number = 1; size = 6; version = 0 } ∷ [] }

abbrev carried : Arrived
carried = record { download = 1; number = 1; version = 0; block = 0; bytes = 0x41 ∷ 0x42 ∷ 0x43 ∷ 0x44 ∷ [] }

hears-told : heard_of announcing ≡ announced told
unfolding heard_of heard_in announced_in list_of framed items_in items field_at
hears-told = ap (heard_in announcing) (messages.sections).0

hears-carried : heard_of abcd ≡ arrived carried
unfolding heard_of heard_in arrived_in
hears-carried = ap (heard_in abcd) (messages.sections).1

-- the record after the announcement, and after the block too; an image of 6 bytes, and the same with the block
abbrev renewed : Carousel
renewed = made_afresh empty_record told

abbrev holding : Carousel
holding = with_mark renewed 0

abbrev image : List ℕ
image = replicate 6 0

abbrev imaged : List ℕ
imaged = 0x41 ∷ 0x42 ∷ 0x43 ∷ 0x44 ∷ 0 ∷ 0 ∷ []

pub comes : (c : Carousel) (s image : List ℕ) (h : Heard) → ruled_of c ≡ true → heard_of s ≡ h → outcome_of c s image ≡ on_heard (record_of c) image h
comes c s image h e f = outcome-ruled c s image e ∙ ap (on_heard (record_of c) image) f

told-new : on_heard (record_of empty_record) image (announced told) ≡ new told
unfolding on_heard on_announced same_announced announced_by empty_record
told-new = refl

tells : stepped_of empty_record announcing image ≡ record { answer = (Ok answer.New); state = renewed }
tells = (stepped-is empty_record announcing image _ (comes empty_record announcing image (announced told) empty-ruled hears-told ∙ told-new)).0

carried-stored : on_heard (record_of renewed) image (arrived carried) ≡ stored 0 0 carried.bytes
unfolding on_heard on_arrived matched block_refusal first_met meets12 meets13 meets14 meets15 meets16 place_in total blocks_of block_length_of block_at
    is_marked announced_by starts_by made_afresh bare_record marks_kept words_from words_kept same_at empty_record entries
carried-stored = refl

-- the step keeps the rule
pub left-ruled : (c : Carousel) (s image : List ℕ) (x : Stepped) → ruled_of c ≡ true → stepped_of c s image ≡ x → ruled_of x.state ≡ true
left-ruled c s image x r e = ap (λ (y : Stepped). ruled_of y.state) (sym e) ∙ step_rule c s image r

renewed-ruled : ruled_of renewed ≡ true
renewed-ruled = left-ruled empty_record announcing image _ empty-ruled tells

puts : outcome_of renewed abcd image ≡ stored 0 0 carried.bytes
puts = comes renewed abcd image (arrived carried) renewed-ruled hears-carried ∙ carried-stored

stores : stepped_of renewed abcd image ≡ record { answer = (Ok answer.Stored); state = holding }
stores = (stepped-is renewed abcd image _ puts).0

holding-ruled : ruled_of holding ≡ true
holding-ruled = left-ruled renewed abcd image _ renewed-ruled stores

carried_repeated : on_heard (record_of holding) imaged (arrived carried) ≡ repeated
unfolding on_heard on_arrived matched block_refusal first_met meets12 meets13 meets14 meets15 meets16 place_in total blocks_of block_length_of block_at
    is_marked announced_by starts_by made_afresh bare_record marks_kept words_from words_kept same_at empty_record entries with_mark marks_with bytes_differ same_numbers
carried_repeated = refl

told_same : on_heard (record_of renewed) image (announced told) ≡ same
unfolding on_heard on_announced same_announced same_modules announced_by made_afresh bare_record empty_record entries
told_same = refl

carried_other : on_heard (record_of holding) image (arrived carried) ≡ refusing (refused 17)
unfolding on_heard on_arrived matched block_refusal first_met meets12 meets13 meets14 meets15 meets16 place_in total blocks_of block_length_of block_at
    is_marked announced_by starts_by made_afresh bare_record marks_kept words_from words_kept same_at empty_record entries with_mark marks_with bytes_differ same_numbers
carried_other = refl

-- "new", "same", "stored" and "repeated", and what each leaves; and where the image has other bytes at a marked block's place, 17
pub sections : (stepped_of empty_record announcing image ≡ record { answer = (Ok answer.New); state = renewed })
    × (stepped_of renewed announcing image ≡ record { answer = (Ok answer.Same); state = renewed })
    × (stepped_of renewed abcd image ≡ record { answer = (Ok answer.Stored); state = holding }) × (image_of renewed abcd image ≡ imaged)
    × (stepped_of holding abcd imaged ≡ record { answer = (Ok answer.Repeated); state = holding })
    × (stepped_of holding abcd image ≡ record { answer = Err (refused 17); state = holding })
unfolding overwrite
sections = (
  tells,
  (stepped-is renewed announcing image _ (comes renewed announcing image (announced told) renewed-ruled hears-told ∙ told_same)).0,
  stores,
  (stepped-is renewed abcd image _ puts).1,
  (stepped-is holding abcd imaged _ (comes holding abcd imaged (arrived carried) holding-ruled hears-carried ∙ carried_repeated)).0,
  (stepped-is holding abcd image _ (comes holding abcd image (arrived carried) holding-ruled hears-carried ∙ carried_other)).0,
)
