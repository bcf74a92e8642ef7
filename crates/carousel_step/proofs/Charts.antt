-- BIGGER CHARTS (02 §8) in whole sections, from the empty record on: the limits from both sides, blocks above 255, and an image shorter than what is announced.
use Prim.Native.Nat.{ℕ, ◌≤◌, ◌<◌}
use mathlib.Core.Path.{◌≡◌, ap, ◌∙◌}
use mathlib.Core.Bool.{true, false, ◌&&◌}
use mathlib.Core.List.{List, [], ◌∷◌}
use native.Mathlib.Omega.{arith}
use Rattle.std.proofs.Common.{Ok, Err}
use lib.Dec.{eqb}
use lib.ListN.{length, replicate}
use borrow.Author.Tests.{lt-ltb, le-ltb}
use Rattle.wire.specs.Fields.{field_at}
use Rattle.wire.specs.Tests.{first_met}
use Rattle.wire.specs.Items.{framed, items_in, items}
use Rattle.wire.specs.Copies.{overwrite}
use Rattle.wire.proofs.Laws.Tests.{fails}
use Rattle.section.specs.Answer.{refused}
use Rattle.carousel_messages.specs.declared.Listed.{Listed}
use Rattle.carousel_messages.specs.Limits.{total}
use Rattle.carousel_messages.specs.Heard.{Announced, Arrived, refusal, announced, arrived, list_of, announced_in, arrived_in, heard_in, heard_of, place_in}
use Rattle.carousel_messages.proofs.Laws.Heard.{heard_limits}
use Rattle.carousel_messages.proofs.Soundings as messages
use Rattle.carousel_messages.proofs.Soundings.{chart, chart_beyond, charts, charts_beyond, wide, block1023, block1024, wide_block}
use Rattle.carousel_record.specs.declared.Carousel.{Carousel}
use Rattle.carousel_record.specs.Blocks.{blocks_of, block_length_of}
use Rattle.carousel_record.specs.Marks.{is_marked}
use Rattle.carousel_record.specs.Record.{announced_by, starts_by, record_of, block_at, ruled_of}
use Rattle.carousel_record.specs.Refusals.{meets13, meets15}
use Rattle.carousel_record.specs.Keeping.{same_at, words_kept, words_from, marks_kept}
use Rattle.carousel_record.specs.Changes.{empty_record, entries, bare_record, made_afresh, with_mark}
use Rattle.carousel_record.proofs.Laws.Places.{some-modules}
use Rattle.carousel_step.specs.declared.Answer.TheVariants as answer
use Rattle.carousel_step.specs.Step.{meets12, meets14, meets16, block_refusal, same_modules, same_announced, refusing, new, stored}
use Rattle.carousel_step.specs.Step.{matched, on_arrived, on_heard, outcome_of, stepped_of, image_of}
use Rattle.carousel_step.proofs.Laws.Outcomes.{announced-new, stepped-is}
use Rattle.carousel_step.proofs.Simulation.{empty-ruled}
use Rattle.carousel_step.proofs.Soundings.{comes, left-ruled}

-- EVERY ANNOUNCEMENT THAT IS NOT REFUSED IS NEW TO THE EMPTY RECORD, whatever the image
differs : (d bs : ℕ) (ms : List Listed) → 0 < length ms → same_announced (announced_by empty_record) (record { download = d; block_size = bs; modules = ms }) ≡ false
unfolding same_announced same_modules announced_by empty_record
differs d bs [] h = absurd (omega arith)
differs d bs (m ∷ ms) h = fails (eqb 0 d && eqb 0 bs)

pub first-new : (s image : List ℕ) (a : Announced) → heard_of s ≡ announced a → stepped_of empty_record s image ≡ record { answer = (Ok answer.New); state = made_afresh empty_record a }
unfolding on_heard
first-new s image a e =
    let d = differs a.download a.block_size a.modules (some-modules a.block_size a.modules (heard_limits s a e).0) in
    (stepped-is empty_record s image (new a) (comes empty_record s image (announced a) empty-ruled e ∙ announced-new (record_of empty_record) a d)).0

-- and one that is refused by itself changes nothing in any record
pub refused-alone : (c : Carousel) (s image : List ℕ) (n : ℕ) → ruled_of c ≡ true → heard_of s ≡ refusal (refused n)
    → stepped_of c s image ≡ record { answer = Err (refused n); state = c }
unfolding on_heard
refused-alone c s image n r e = (stepped-is c s image (refusing (refused n)) (comes c s image (refusal (refused n)) r e)).0

-- what the sections of the messages' soundings say
abbrev pub told_of : (block_size : ℕ) → List Listed → Announced
told_of bs ms = record { download = 1; block_size = bs; modules = ms }

abbrev pub sized : (number size : ℕ) → Listed
sized n z = record { number = n; size = z; version = 0 }

abbrev pub block_one : (block : ℕ) → List ℕ → Arrived
block_one b bytes = record { download = 1; number = 1; version = 0; block = b; bytes = bytes }

hears : (heard_of chart ≡ announced (told_of 1 (sized 1 1024 ∷ []))) × (heard_of chart_beyond ≡ refusal (refused 10))
    × (heard_of charts ≡ announced (told_of 400 (sized 1 262143 ∷ sized 2 1 ∷ []))) × (heard_of charts_beyond ≡ refusal (refused 10))
    × (heard_of wide ≡ announced (told_of 65 (sized 1 65537 ∷ [])))
unfolding heard_of heard_in announced_in list_of framed items_in items field_at
hears =
    let j = messages.limits in
    (ap (heard_in chart) j.0, ap (heard_in chart_beyond) j.1, ap (heard_in charts) j.2, ap (heard_in charts_beyond) j.3, ap (heard_in wide) j.4)

hears-blocks : (heard_of block1023 ≡ arrived (block_one 1023 (0x42 ∷ []))) × (heard_of block1024 ≡ arrived (block_one 1024 (0x42 ∷ [])))
    × (heard_of wide_block ≡ arrived (block_one 0 (replicate 65 0x41)))
unfolding heard_of heard_in arrived_in
hears-blocks = let j = messages.high in (ap (heard_in block1023) j.0, ap (heard_in block1024) j.1, ap (heard_in wide_block) j.2)

-- the record after each announcement
abbrev pub charted : Carousel
charted = made_afresh empty_record (told_of 1 (sized 1 1024 ∷ []))

abbrev pub charted_two : Carousel
charted_two = made_afresh empty_record (told_of 400 (sized 1 262143 ∷ sized 2 1 ∷ []))

abbrev pub widened : Carousel
widened = made_afresh empty_record (told_of 65 (sized 1 65537 ∷ []))

-- "blockSize 1: size 1,024 taken, 1,025 gives 10; blockSize 400: 262,143 and 1 taken, 262,144 and 1 give 10"
pub taken_as-new : (image : List ℕ) → (stepped_of empty_record chart image ≡ record { answer = (Ok answer.New); state = charted })
    × (stepped_of empty_record chart_beyond image ≡ record { answer = Err (refused 10); state = empty_record })
    × (stepped_of empty_record charts image ≡ record { answer = (Ok answer.New); state = charted_two })
    × (stepped_of empty_record charts_beyond image ≡ record { answer = Err (refused 10); state = empty_record })
taken_as-new image = (
  first-new chart image _ hears.0,
  refused-alone empty_record chart_beyond image 10 empty-ruled hears.1,
  first-new charts image _ hears.2,
  refused-alone empty_record charts_beyond image 10 empty-ruled hears.3,
)

module _ (image : List ℕ) where
  charted-ruled : ruled_of charted ≡ true
  charted-ruled = left-ruled empty_record chart image _ empty-ruled (taken_as-new image).0

  last_stored : 1024 ≤ length image → outcome_of charted block1023 image ≡ stored 1023 1023 (0x42 ∷ [])
  unfolding on_heard on_arrived matched block_refusal first_met meets12 meets13 meets14 meets15 meets16 place_in total blocks_of block_length_of block_at
      is_marked announced_by starts_by made_afresh bare_record marks_kept words_from words_kept same_at empty_record entries
  last_stored h = comes charted block1023 image _ charted-ruled hears-blocks.0 ∙ rw (le-ltb (length image) 1024 h)

  past-last : 1024 ≤ length image → outcome_of charted block1024 image ≡ refusing (refused 16)
  unfolding on_heard on_arrived block_refusal first_met meets12 meets13 meets14 meets15 meets16 place_in total blocks_of announced_by made_afresh bare_record empty_record entries
  past-last h = comes charted block1024 image _ charted-ruled hears-blocks.1 ∙ rw (le-ltb (length image) 1024 h)

  -- block 1,023 of a module of 1,024 blocks, section number 255, is stored, at its own place and under its own mark; block 1,024 gives 16
  pub highest-block : 1024 ≤ length image
      → (stepped_of charted block1023 image ≡ record { answer = (Ok answer.Stored); state = with_mark charted 1023 }) × (image_of charted block1023 image ≡ overwrite image 1023 (0x42 ∷ []))
      × (stepped_of charted block1024 image ≡ record { answer = Err (refused 16); state = charted })
  highest-block h = let p = stepped-is charted block1023 image _ (last_stored h) in (p.0, p.1, (stepped-is charted block1024 image _ (past-last h)).0)

  widened-ruled : ruled_of widened ≡ true
  widened-ruled = left-ruled empty_record wide image _ empty-ruled (first-new wide image _ hears.4)

  too_wide : length image < 65537 → outcome_of widened wide_block image ≡ refusing (refused 15)
  unfolding on_heard on_arrived block_refusal first_met meets12 meets13 meets14 meets15 place_in total announced_by made_afresh bare_record empty_record entries
  too_wide h = comes widened wide_block image _ widened-ruled hears-blocks.2 ∙ rw (lt-ltb (length image) 65537 h)

  wide_enough : 65537 ≤ length image → outcome_of widened wide_block image ≡ stored 0 0 (replicate 65 0x41)
  unfolding on_heard on_arrived matched block_refusal first_met meets12 meets13 meets14 meets15 meets16 place_in total blocks_of block_length_of block_at
      is_marked announced_by starts_by made_afresh bare_record marks_kept words_from words_kept same_at empty_record entries
  wide_enough h = comes widened wide_block image _ widened-ruled hears-blocks.2 ∙ rw (le-ltb (length image) 65537 h)

  -- a size of 65,537 is announced; its block gives 15 in an image of 65,536 bytes, and is stored in one byte more
  pub beyond_the-image : (stepped_of empty_record wide image ≡ record { answer = (Ok answer.New); state = widened })
      × (length image < 65537 → stepped_of widened wide_block image ≡ record { answer = Err (refused 15); state = widened })
      × (65537 ≤ length image → stepped_of widened wide_block image ≡ record { answer = (Ok answer.Stored); state = with_mark widened 0 })
  beyond_the-image =
      (first-new wide image _ hears.4, λ h. (stepped-is widened wide_block image _ (too_wide h)).0, λ h. (stepped-is widened wide_block image _ (wide_enough h)).0)
