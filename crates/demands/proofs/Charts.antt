-- BIGGER CHARTS, as 02 §8 says it:
--
--   "Raise 16 modules to 32, 256 blocks to 1,024, and 65,536 bytes in all to 262,144, in the library; the program keeps its 65,536-byte image and so answers 15 beyond that.
--   Refusal 10 and the record's rule change in numbers only: the marks are 32 × 1,024 in 1,024 words, and mark 1,024 × i + b is for block b of the module at place i. Refusal
--   9's mod 256 stays. The soundings of the limits 256 and 65,536 move. Prove the mark facts once over the number of marks."
--
-- The numbers stand once, in carousel_messages `Limits`. The mark facts are carousel_record `Laws/Marks`: over any number of words, and of words for each module. Refusal 9 is
-- carousel_messages `Good`: `GoodBlock`, as it was. The moved soundings are in Soundings.antt; the printed text is report `Charts`: `wide-printed`.
use Prim.Native.Nat.{ℕ, ◌+◌, ◌*◌, ◌/◌, ◌%◌, ◌≤◌, ◌<◌}
use mathlib.Core.Path.{◌≡◌, refl, ap, ◌∙◌}
use mathlib.Core.Bool.{true, false}
use mathlib.Core.Logic.{◌↔◌}
use mathlib.Core.List.{List, [], ◌∷◌, Memᴰ}
use native.Mathlib.Omega.{arith}
use lib.ListN.{length}
use borrow.Author.Tests.{lt-ltb, le-ltb}
use Rattle.wire.specs.Tests.{first_met}
use Rattle.wire.specs.Copies.{overwrite}
use Rattle.section.specs.Answer.{refused}
use Rattle.carousel_messages.specs.Limits.{most_modules, most_blocks, most_bytes, total, beyond10}
use Rattle.carousel_messages.specs.Heard.{Announced, Arrived, arrived, heard_of}
use Rattle.carousel_messages.proofs.Good.{ten-exactly}
use Rattle.carousel_messages.proofs.Soundings.{block1023, block1024, wide, wide_block}
use Rattle.carousel_record.specs.declared.Carousel.{Carousel}
use Rattle.carousel_record.specs.Marks.{mark_words, mark_of, is_marked}
use Rattle.carousel_record.specs.Record.{announced_by, record_of, bytes_of, block_count, ruled_of}
use Rattle.carousel_record.specs.Changes.{empty_record, with_mark}
use Rattle.carousel_record.specs.Refusals.{meets13, meets15}
use Rattle.carousel_record.proofs.Laws.Places.{bytes_most, few-modules}
use Rattle.carousel_record.proofs.Laws.Rule.{kept, marks_mean, ruled-says}
use Rattle.carousel_step.specs.Step.{meets12, meets14, block_refusal, refusing, on_heard, outcome_of, stepped_of, image_of}
use Rattle.carousel_step.proofs.Laws.Outcomes.{arrived_bad, stepped-is}
use Rattle.carousel_step.proofs.Simulation.{outcome-ruled}
use Rattle.carousel_step.proofs.Charts as charts
use Rattle.carousel_step.proofs.Charts.{charted, widened}
use Rattle.std.proofs.Common.{Ok, Err}
use Rattle.carousel_step.specs.declared.Answer.TheVariants as answer

-- THE NUMBERS
pub numbers : (most_modules ≡ 32) × (most_blocks ≡ 1024) × (most_bytes ≡ 262144) × (mark_words ≡ 1024) × ((i b : ℕ) → mark_of i b ≡ 1024 * i + b)
numbers = (refl, refl, refl, refl, λ i b. refl)

-- REFUSAL 10: what it leaves, in plain facts
pub ten : (block_size : ℕ) (sizes : List ℕ) → (beyond10 block_size sizes ≡ false)
    ↔ ((1 ≤ block_size) × (block_size ≤ 4066) × (1 ≤ length sizes) × (length sizes ≤ 32) × ((z : ℕ) → Memᴰ z sizes → (1 ≤ z) × (z ≤ 1024 * block_size)) × (total sizes ≤ 262144))
ten = ten-exactly

-- THE RECORD'S RULE, where something was announced: 32 modules, 262,144 bytes, 1,024 words; and a mark that is set, mark m, is of block m % 1,024 of the module at place m / 1,024
pub rule : (c : Carousel) → ruled_of c ≡ true → 0 < length (announced_by c).modules
    → (length (announced_by c).modules ≤ 32) × (bytes_of (announced_by c) ≤ 262144) × (length c.marks ≡ 1024)
    × ((m : ℕ) → is_marked c.marks m ≡ true → (m / 1024 < length (announced_by c).modules) × (m % 1024 < block_count (announced_by c) (m / 1024)))
rule c e some =
    let k = kept (record_of c) some (ruled-says c e) in
    let a = announced_by c in
    (few-modules a.block_size a.modules k.limits, bytes_most a.block_size a.modules k.limits, k.words, marks_mean (record_of c) k)

-- "AND SO ANSWERS 15 BEYOND THAT": a block that none of 12 to 14 meets, the image being shorter than what was announced
fifteen : (a : Announced) (n : ℕ) (d : Arrived) → meets12 a d ≡ false → meets13 a d.number ≡ false → meets14 a d ≡ false → n < bytes_of a → block_refusal a n d ≡ 15
unfolding block_refusal first_met meets15
fifteen a n d p q r l = rw (p, q, r, lt-ltb n (bytes_of a) l)

module _ (c : Carousel) (s image : List ℕ) (d : Arrived) (ruled : ruled_of c ≡ true) (heard : heard_of s ≡ arrived d)
    (not12 : meets12 (announced_by c) d ≡ false) (not13 : meets13 (announced_by c) d.number ≡ false) (not14 : meets14 (announced_by c) d ≡ false) where
  comes_to-15 : length image < bytes_of (announced_by c) → outcome_of c s image ≡ refusing (refused 15)
  unfolding on_heard
  comes_to-15 l =
      let e = fifteen (announced_by c) (length image) d not12 not13 not14 l in
      outcome-ruled c s image ruled ∙ ap (on_heard (record_of c) image) heard ∙ arrived_bad (record_of c) image d (λ z. omega arith) ∙ ap (λ (n : ℕ). refusing (refused n)) e

  pub beyond_the-image : length image < bytes_of (announced_by c)
      → (stepped_of c s image ≡ record { answer = Err (refused 15); state = c }) × (image_of c s image ≡ image)
  beyond_the-image l = stepped-is c s image _ (comes_to-15 l)

-- and an image of 262,144 bytes is never too short
pub image-enough : (c : Carousel) (image : List ℕ) → ruled_of c ≡ true → 0 < length (announced_by c).modules → 262144 ≤ length image → meets15 (announced_by c) (length image) ≡ false
unfolding meets15
image-enough c image e some l = let b = (rule c e some).1 in le-ltb (length image) (bytes_of (announced_by c)) (omega arith)

-- THE NEW SOUNDINGS, as whole sections: block 1,023 of a module of 1,024 blocks, section number 255, is stored; block 1,024 gives 16; a size of 65,537 is announced, and its block
-- gives 15 in an image of 65,536 bytes
pub soundings : (image : List ℕ)
    → (1024 ≤ length image
    → (stepped_of charted block1023 image ≡ record { answer = Ok answer.Stored; state = with_mark charted 1023 }) × (image_of charted block1023 image ≡ overwrite image 1023 (0x42 ∷ []))
    × (stepped_of charted block1024 image ≡ record { answer = Err (refused 16); state = charted }))
    × (length image ≡ 65536
    → (stepped_of empty_record wide image ≡ record { answer = Ok answer.New; state = widened })
    × (stepped_of widened wide_block image ≡ record { answer = Err (refused 15); state = widened }))
soundings image = (charts.highest-block image, λ e. let b = charts.beyond_the-image image in (b.0, b.1 (omega arith)))
