-- DON'T THROW AWAY GOOD MODULES, as 02 §5 says it:
--
--   "A new announcement that changes only the tide table empties our buoy list. From now on a module with the same downloadId, blockSize, number, version, size and start as
--   before keeps its marks; all others begin empty. No image byte moves. The record's rule is unchanged."
--
-- "The same .. as before" is carousel_record `Keeping`: `SameAt`, six equalities of the module at one place of the record before and at one of the record after. The rule is
-- `ruled_of`, as it was; every call keeps it (carousel_step `step-rule`). Who answers "new" and "same" is Two.antt, as it was. Demand 3 as the request words it is Three.antt.
use Prim.Native.Nat.{ℕ, ◌<◌}
use mathlib.Core.Path.{◌≡◌, refl, ap, ◌∙◌}
use mathlib.Core.Logic.{◌↔◌}
use mathlib.Core.Bool.{Bool, true, false, cond}
use mathlib.Core.List.{List, [], ◌∷◌}
use lib.Dec.{eqb}
use lib.ListN.{length, replicate}
use Rattle.wire.specs.Tests.{first_met}
use Rattle.section.specs.Answer.{refused}
use Rattle.carousel_messages.specs.declared.Listed.{Listed}
use Rattle.carousel_messages.specs.Limits.{most_modules, most_blocks, total}
use Rattle.carousel_messages.specs.Heard.{Announced, Arrived, arrived, sizes_of, place_in}
use Rattle.carousel_record.specs.declared.Carousel.{Carousel}
use Rattle.carousel_record.specs.Blocks.{blocks_of, block_length_of}
use Rattle.carousel_record.specs.Marks.{mark_words, mark_of, is_marked, marks_with, clear_among}
use Rattle.carousel_record.specs.Record.{Record, record_of, sums, received, missing_of, complete_of}
use Rattle.carousel_record.specs.Keeping.{same_at, SameAt, same_module, words_kept, words_from, marks_kept}
use Rattle.carousel_record.specs.Changes.{afresh}
use Rattle.carousel_record.specs.Refusals.{meets13, meets15}
use Rattle.carousel_handout.specs.Calls.{handout_number}
use Rattle.carousel_step.specs.Step.{meets12, meets14, meets16, block_refusal, matched, on_arrived, on_heard, answer_of, stepped_of, image_of}
use Rattle.carousel_step.specs.Matching.{block_matches, heard_matches}
use Rattle.carousel_record.proofs.Laws.Keeping.{same_means}
use Rattle.carousel_step.proofs.Renewed.{new-keeps, no-byte-moves}
use Rattle.receiver.specs.Run.{Held, given}
use Rattle.demands.specs.Demand.{fate_of, is_new, told, place_now, blocks, bytes_in, missing_in, is_complete, same_in, Emptied}
use Rattle.demands.proofs.Given.{new-ruled}
use Rattle.demands.proofs.Walks.{next_rule}
use Rattle.demands.proofs.After.{emptied-clear, one-leaves, complete-number}
use Rattle.std.proofs.Common.{Ok, Err}
use Rattle.carousel_step.specs.declared.Answer.TheVariants as answer

-- AFTER "NEW", by any record, section and image: block b of the module at place j is marked exactly where some module of the record before is the same and had block b, at its own
-- place. So nothing of a module that is not the same stays. And no image byte moves.
module _ (c : Carousel) (s image : List ℕ) (answers : (stepped_of c s image).answer ≡ Ok answer.New) where
  abbrev before : Record
  before = record_of c

  abbrev next : Record
  next = record_of (stepped_of c s image).state

  pub kept-exactly : (j b : ℕ) → j < most_modules → b < most_blocks → (received next j b ≡ true) ↔ ((i : ℕ) × SameAt before next i j × (received before i b ≡ true))
  kept-exactly = new-keeps c s image answers

  pub image-stays : image_of c s image ≡ image
  image-stays = no-byte-moves c s image answers

  -- "all others begin empty"
  pub others-empty : (j b : ℕ) → j < most_modules → b < most_blocks → ((i : ℕ) → SameAt before next i j → ⊥) → received next j b ≡ false
  others-empty j b h l none = go (received next j b) refl
    where
      go : (t : Bool) → received next j b ≡ t → received next j b ≡ false
      go true e = let w = (kept-exactly j b h l).0 e in absurd (none w.0 w.1)
      go false e = e

  -- another downloadId, or another blockSize, empties all
  pub download_empties : (before.announced.download ≡ next.announced.download → ⊥) → (j b : ℕ) → j < most_modules → b < most_blocks → received next j b ≡ false
  download_empties d j b h l = others-empty j b h l (λ i s. d s.download)

  pub block-size_empties : (before.announced.block_size ≡ next.announced.block_size → ⊥) → (j b : ℕ) → j < most_modules → b < most_blocks → received next j b ≡ false
  block-size_empties d j b h l = others-empty j b h l (λ i s. d s.block_size)

-- WHAT IS KEPT IS KEPT WHOLE: its missing blocks and its bytes are what they were, wherever it now stands. One that was complete is complete at once, and is handed out; or it
-- answers 15, where the sizes that are now announced exceed the image.
module _ (x : Held) (k : ℕ) (s : List ℕ) (new : is_new (fate_of x s) ≡ true) (same : same_in x (given x s) k ≡ true) where
  pub kept_whole : (missing_in (given x s) k ≡ missing_in x k) × (bytes_in (given x s) k ≡ bytes_in x k)
  kept_whole = one-leaves x k s new same

  pub complete-at-once : is_complete x k ≡ true → handout_number (given x s).state (given x s).image k ≡ cond (meets15 (told (given x s)) (length (given x s).image)) 15 0
  complete-at-once c =
      complete-number (given x s) k (next_rule x s (new-ruled x s new)) (same_means _ _ _ _ same).now (ap (λ (l : List ℕ). eqb (length l) 0) kept_whole.0 ∙ c)

-- and one that is emptied has none of its blocks, whatever it had
pub emptied-empty : (x : Held) (k : ℕ) → Emptied x k → (b : ℕ) → b < blocks x k → received (record_of x.state) (place_now x k) b ≡ false
emptied-empty x k em = emptied-clear x k em

-- THE SOUNDINGS, computed: what an announcement leaves of a record. Blocks of 100 bytes; a module is told by its number, size and version.
abbrev listing : (number size version : ℕ) → Listed
listing n z v = record { number = n; size = z; version = v }

abbrev telling : List Listed → Announced
telling ms = record { download = 7; block_size = 100; modules = ms }

abbrev starting : Announced → (marks : List ℕ) → Record
starting a ws = record { announced = a; starts = sums 0 (sizes_of a.modules); marks = ws }

abbrev clear : List ℕ
clear = replicate mark_words 0

-- modules 1, 2 and 3, of 1, 2 and 2 blocks; all blocks have come
abbrev three : Announced
three = telling (listing 1 100 0 ∷ listing 2 200 0 ∷ listing 3 150 0 ∷ [])

abbrev whole : Record
whole = starting three (marks_with (marks_with (marks_with (marks_with (marks_with clear (mark_of 0 0)) (mark_of 1 0)) (mark_of 1 1)) (mark_of 2 0)) (mark_of 2 1))

-- A module that stands at ANOTHER PLACE: 4 of 300 bytes comes for 1 and 2, and 3 goes from place 2 to place 1, its marks with it; nothing is left behind
pub moved : (afresh whole (telling (listing 4 300 0 ∷ listing 3 150 0 ∷ []))).marks ≡ marks_with (marks_with clear (mark_of 1 0)) (mark_of 1 1)
unfolding same_at place_in sums afresh marks_kept words_from words_kept marks_with
moved = refl

-- one more at the end: all are kept
pub longer : (afresh whole (telling (listing 1 100 0 ∷ listing 2 200 0 ∷ listing 3 150 0 ∷ listing 4 1 0 ∷ []))).marks ≡ whole.marks
unfolding same_at place_in sums afresh marks_kept words_from words_kept marks_with
longer = refl

-- ANOTHER VERSION of 3 empties it, and it alone
pub newer : (afresh whole (telling (listing 1 100 0 ∷ listing 2 200 0 ∷ listing 3 150 1 ∷ []))).marks ≡ marks_with (marks_with (marks_with clear (mark_of 0 0)) (mark_of 1 0)) (mark_of 1 1)
unfolding same_at place_in sums afresh marks_kept words_from words_kept marks_with
newer = refl

-- A PREDECESSOR'S SIZE: 1 has a byte more, so 2 and 3 start elsewhere: all are emptied
pub shifted : (afresh whole (telling (listing 1 101 0 ∷ listing 2 200 0 ∷ listing 3 150 0 ∷ []))).marks ≡ clear
unfolding same_at place_in sums afresh marks_kept words_from words_kept marks_with
shifted = refl

-- ANOTHER DOWNLOAD, or ANOTHER BLOCK SIZE, empties all
pub another : ((afresh whole (record { download = 8; block_size = 100; modules = three.modules })).marks ≡ clear)
    × ((afresh whole (record { download = 7; block_size = 101; modules = three.modules })).marks ≡ clear)
unfolding same_at place_in sums afresh marks_kept words_from words_kept marks_with
another = (refl, refl)

-- TWO SWAPPED WITH EQUAL SIZES: their starts are swapped too, and both are emptied; the third, whose sizes before add up the same, is kept
abbrev pair : Record
pair = starting (telling (listing 1 100 0 ∷ listing 2 100 0 ∷ listing 3 50 0 ∷ [])) (marks_with (marks_with (marks_with clear (mark_of 0 0)) (mark_of 1 0)) (mark_of 2 0))

pub swapped : (afresh pair (telling (listing 2 100 0 ∷ listing 1 100 0 ∷ listing 3 50 0 ∷ []))).marks ≡ marks_with clear (mark_of 2 0)
unfolding same_at place_in sums afresh marks_kept words_from words_kept marks_with
swapped = refl

-- DROPPED AND ANNOUNCED AGAIN: it says the same as at the start, and begins empty. So keeping is asked of each call, and not of start and end.
pub again : (same_module whole (afresh (afresh whole (telling (listing 4 300 0 ∷ []))) three) 3 ≡ true) × ((afresh (afresh whole (telling (listing 4 300 0 ∷ []))) three).marks ≡ clear)
unfolding same_at place_in sums afresh marks_kept words_from words_kept marks_with
again = (refl, refl)

-- WHY DEMAND 3 IS WORDED SO. Module 3 alone, of 150 bytes, in an image of 150; and an announcement that keeps it and adds one byte, so that the image is too short.
abbrev alone : Announced
alone = telling (listing 3 150 0 ∷ [])

abbrev more : Announced
more = telling (listing 3 150 0 ∷ listing 4 1 0 ∷ [])

abbrev short : List ℕ
short = replicate 150 0

abbrev block0 : Arrived
block0 = record { download = 7; number = 3; version = 0; block = 0; bytes = replicate 100 1 }

-- "at the same places among that module's sections": a block before that announcement is stored, and after it refused with 15
pub places_count : (answer_of (on_heard (starting alone clear) short (arrived block0)) ≡ Ok answer.Stored)
    × (answer_of (on_heard (afresh (starting alone clear) more) short (arrived block0)) ≡ Err (refused 15))
unfolding first_met meets12 meets13 meets14 meets15 meets16 total place_in
    blocks_of block_length_of is_marked on_heard on_arrived matched block_refusal afresh marks_kept words_from words_kept same_at sums
places_count = (refl, refl)

-- Matching is read at the call: the block does not match while the longer list is in force, and does when it comes after one that keeps the module and drops the byte
pub at_the_call : (same_module (starting more clear) (afresh (starting more clear) alone) 3 ≡ true)
    × (heard_matches more 150 0 0 (arrived block0) ≡ false) × (heard_matches alone 150 0 0 (arrived block0) ≡ true)
unfolding heard_matches block_matches first_met meets12 meets13 meets14 meets15 meets16 total place_in blocks_of block_length_of block_refusal afresh marks_kept words_from words_kept same_at sums
at_the_call = (refl, refl, refl)

-- Complete and yet 15: the module is whole, kept, and complete after the announcement, and the sizes exceed the image (`complete-at-once`)
pub then-15 : (complete_of (afresh (starting alone (marks_with (marks_with clear 0) 1)) more) 0 ≡ true) × (meets15 more (length short) ≡ true)
unfolding meets15 total place_in missing_of clear_among blocks_of is_marked marks_with afresh marks_kept words_from words_kept same_at sums
then-15 = (refl, refl)

-- and back: an announcement that drops the byte again keeps the module too; it is complete still, and its image long enough (Whole.antt: `hands-out-again`)
pub and-back : let r = afresh (afresh (starting alone (marks_with (marks_with clear 0) 1)) more) alone in (complete_of r 0 ≡ true) × (meets15 alone (length short) ≡ false)
unfolding meets15 total place_in missing_of clear_among blocks_of is_marked marks_with afresh marks_kept words_from words_kept same_at sums
and-back = (refl, refl)
