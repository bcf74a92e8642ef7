-- THE PAPER'S SOUNDINGS, the starred ones, as one table and one theorem. 01, "Soundings (* to be proved together, as one table)".
use Prim.Native.Nat.{ℕ}
use mathlib.Core.Path.{◌≡◌, refl, ap, ap₂, ◌∙◌}
use mathlib.Core.Bool.{true, false}
use mathlib.Core.List.{List, [], ◌∷◌, map}
use native.Mathlib.Omega.{arith}
use lib.ListN.{length}
use Rattle.section.specs.declared.Header.{Header}
use Rattle.section.specs.Answer.{refused}
use Rattle.section.specs.Header.{header_of, body_of}
use Rattle.section.specs.Header.{length_of as said_length}
use Rattle.ait_read.specs.declared.Class.TheVariants.{Unsigned, Signed}
use Rattle.ait_read.specs.declared.Control.TheVariants.{Reserved}
use Rattle.ait_read.specs.Acceptance.{table_judged}
use Rattle.ait_read.specs.Records.{class_of, control_of}
use Rattle.ait_read.proofs.Soundings as tables
use Rattle.carousel_messages.specs.declared.CarouselTable.TheVariants.{Announcements, Blocks}
use Rattle.carousel_messages.specs.Message.{adaptation_of, payload_of}
use Rattle.carousel_messages.specs.Contents.{block_size_of, modules_of, module_number_of, module_size_of}
use Rattle.carousel_messages.specs.Limits.{beyond10, among, twice11}
use Rattle.carousel_messages.specs.Good.{Distinct, announced_sizes, announced_numbers}
use Rattle.carousel_messages.specs.Refusals.{meets10, meets11, message_refusal}
use Rattle.carousel_messages.specs.Heard.{Arrived, arrived, heard_of}
use Rattle.carousel_messages.proofs.Exact.{Passed, message-taken, exactly-10}
use Rattle.carousel_messages.proofs.Good.{distinct-back}
use Rattle.carousel_messages.proofs.Soundings as messages
use Rattle.carousel_record.specs.Blocks.{blocks_of, block_length_of}
use Rattle.carousel_record.specs.Record.{missing_of}
use Rattle.carousel_record.specs.Changes.{empty_record}
use Rattle.carousel_step.specs.declared.Stepped.{Stepped}
use Rattle.carousel_step.specs.Step.{block_refusal, stepped_of}
use Rattle.carousel_handout.specs.Calls.{report_on}
use Rattle.carousel_step.proofs.Soundings as carousel
use Rattle.carousel_step.proofs.Charts.{taken_as-new}
use Rattle.carousel_step.proofs.Longest.{longest-block, longest}
use Rattle.std.proofs.Common.{Ok, Err, Some}
use Rattle.carousel_step.specs.Step.{Answered as Answer}
use Rattle.carousel_step.specs.declared.Answer.TheVariants as answer

-- a message body b announces modules of these sizes in blocks of this size, and passes 7 and 8
abbrev pub Announces : List ℕ → (block_size : ℕ) → (sizes : List ℕ) → Type 0
Announces b bs zs = Passed Announcements b × (block_size_of (payload_of b) ≡ bs) × (announced_sizes (payload_of b) ≡ zs)

-- it gives 10 exactly where what it announces is beyond the limits
beyond : (b : List ℕ) (bs : ℕ) (zs : List ℕ) → Announces b bs zs → meets10 (payload_of b) ≡ beyond10 bs zs
unfolding meets10
beyond b bs zs a = ap₂ beyond10 a.1 a.2

gives-10 : (h : Header) (b : List ℕ) (bs : ℕ) (zs : List ℕ) → beyond10 bs zs ≡ true → Announces b bs zs → message_refusal Announcements h b ≡ 10
gives-10 h b bs zs e a = (exactly-10 h b).1 (a.0, beyond b bs zs a ∙ e)

-- and is taken, refused by nothing, where it is not, and no number stands twice
taken : (h : Header) (b : List ℕ) (bs : ℕ) (zs : List ℕ) → beyond10 bs zs ≡ false → Announces b bs zs → twice11 (announced_numbers (payload_of b)) ≡ false
    → message_refusal Announcements h b ≡ 0
unfolding meets11
taken h b bs zs e a t = (message-taken Announcements h b).1 (a.0.0, (a.0.1, (a.0.2, (beyond b bs zs a ∙ e, (t, tt)))))

-- one module has one number
alone : (ms : List (List ℕ)) (z : ℕ) → map module_size_of ms ≡ z ∷ [] → twice11 (map module_number_of ms) ≡ false
unfolding twice11 among
alone [] z e = let l = ap length e in absurd (omega arith)
alone (m ∷ []) z e = refl
alone (m ∷ n ∷ ms) z e = let l = ap length e in absurd (omega arith)

-- what a step from the empty record answers
abbrev answer_to : (s image : List ℕ) → Answer
answer_to s image = (stepped_of empty_record s image).answer

pub soundings :
    -- "Size 1,000, blockSize 400: blocks of 400, 400, 200."
    ((blocks_of 400 1000 ≡ 3) × (block_length_of 400 1000 0 ≡ 400) × (block_length_of 400 1000 1 ≡ 400) × (block_length_of 400 1000 2 ≡ 200))
    -- "Size 800: two blocks, block 2 gives 16", whatever it carries
    × ((blocks_of 400 800 ≡ 2) × ((bytes : List ℕ) → block_refusal (carousel.one 400 800) 800 (carousel.block 2 bytes) ≡ 16))
    -- "Size 65,536, blockSize 4,066: 17 blocks, last 480."
    × ((blocks_of 4066 65536 ≡ 17) × (block_length_of 4066 65536 16 ≡ 480))
    -- "blockSize 1: size 1,024 taken, 1,025 gives 10" (02 §8); a whole section of each: the step answers "new", and refuses with 10
    × ((h : Header) (b : List ℕ) → (Announces b 1 (1024 ∷ []) → message_refusal Announcements h b ≡ 0) × (Announces b 1 (1025 ∷ []) → message_refusal Announcements h b ≡ 10))
    × ((image : List ℕ) → (answer_to messages.chart image ≡ Ok answer.New) × (answer_to messages.chart_beyond image ≡ Err (refused 10)))
    -- "blockSize 400: sizes 262,143 and 1 taken; 262,144 and 1 give 10" (02 §8), the two modules having two numbers; and a whole section of each
    × ((h : Header) (b : List ℕ) → (Announces b 400 (262143 ∷ 1 ∷ []) → Distinct (announced_numbers (payload_of b)) → message_refusal Announcements h b ≡ 0)
    × (Announces b 400 (262144 ∷ 1 ∷ []) → message_refusal Announcements h b ≡ 10))
    × ((image : List ℕ) → (answer_to messages.charts image ≡ Ok answer.New) × (answer_to messages.charts_beyond image ≡ Err (refused 10)))
    -- "A 4,066-byte block without adaptation has L = 4,093", every one that is heard; and for any 4,066 bytes there is one
    × (((s : List ℕ) (d : Arrived) → heard_of s ≡ arrived d → adaptation_of (body_of s) ≡ 0 → length d.bytes ≡ 4066 → said_length s ≡ 4093)
    × ((ds : List ℕ) → length ds ≡ 4066
    → (heard_of (longest ds) ≡ arrived (record { download = 1; number = 1; version = 0; block = 0; bytes = ds })) × (adaptation_of (body_of (longest ds)) ≡ 0) × (said_length (longest ds) ≡ 4093)))
    -- "Blocks 0 and 2 of three: missing 1, lowest 1."
    × (report_on (missing_of (carousel.marked (carousel.one 400 1000) 5) 0) ≡ Ok (Some (record { count = 1; lowest = 1 })))
    -- "An empty AIT has L = 13", and is accepted
    × ((said_length (tables.whole tables.empty_front) ≡ 13) × (table_judged (tables.whole tables.empty_front) ≡ Ok (header_of (tables.whole tables.empty_front))))
    -- "72 applications of the least length, 14 bytes, without common descriptors give L = 1,021", and are accepted
    × ((length tables.least ≡ 14) × (said_length (tables.whole tables.full_front) ≡ 1021) × (table_judged (tables.whole tables.full_front) ≡ Ok (header_of (tables.whole tables.full_front))))
    -- "Application 0x3FFF unsigned, 0x4000 signed."
    × ((class_of 0x3FFF ≡ Unsigned) × (class_of 0x4000 ≡ Signed))
    -- "Control code 5 reserved."
    × (control_of 5 ≡ Reserved)
    -- "Block 300 of a three-block module, with section number 44, passes check 9, then gives 16", whatever it carries
    × ((message_refusal Blocks (messages.headed 44) messages.block300 ≡ 0) × ((bytes : List ℕ) → block_refusal (carousel.one 400 1000) 1000 (carousel.block 300 bytes) ≡ 16))
unfolding report_on
soundings =
    let c = carousel.soundings in
    let t = tables.soundings in
    let z = messages.sizes in (
      (c.0, c.1, c.2, c.3),
      (c.4, c.7),
      (c.8, c.9),
      (λ h b. (λ a. taken h b 1 (1024 ∷ []) z.0 a (alone (modules_of (payload_of b)) 1024 a.2), gives-10 h b 1 (1025 ∷ []) z.1)),
      (λ image. let n = taken_as-new image in (ap (λ (x : Stepped). x.answer) n.0, ap (λ (x : Stepped). x.answer) n.1)),
      (λ h b. (λ a d. taken h b 400 (262143 ∷ 1 ∷ []) z.2 a (distinct-back (announced_numbers (payload_of b)) d), gives-10 h b 400 (262144 ∷ 1 ∷ []) z.3)),
      (λ image. let n = taken_as-new image in (ap (λ (x : Stepped). x.answer) n.2, ap (λ (x : Stepped). x.answer) n.3)),
      (longest-block.0, longest-block.1),
      ap report_on c.14,
      (t.0, t.1),
      (t.2, t.3, t.4),
      (t.5, t.6),
      t.7,
      ((messages.blocks).0, c.15),
    )
