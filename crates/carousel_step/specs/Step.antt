-- One section: refusals 12 to 17, what it comes to, and what it leaves. 01, "The carousel record", "Numbers a call may answer".
use Rattle.std.specs.Prelude.{Result, Ok, Err, ℕ, Bool, true, false, not, cond, ◌&&◌, ◌||◌, List, [], ◌∷◌, ◌++◌, eqb, ltb, length, take, drop}
use Rattle.wire.specs.Tests.{Tests, first_met}
use Rattle.wire.specs.Copies.{same_numbers, overwrite}
use Rattle.section.specs.declared.Refusal.{Refusal}
use Rattle.section.specs.Answer.{refused}
use Rattle.carousel_messages.specs.declared.Listed.{Listed}
use Rattle.carousel_messages.specs.Judged.{carousel_tests}
use Rattle.carousel_messages.specs.Heard.{Announced, Arrived, Heard, refusal, announced, arrived, heard_of}
use Rattle.carousel_record.specs.declared.Carousel.{Carousel}
use Rattle.carousel_step.specs.declared.Answer.{Answer}
use Rattle.carousel_step.specs.declared.Answer.TheVariants as answer
use Rattle.carousel_step.specs.declared.Stepped.{Stepped}
use Rattle.carousel_record.specs.Marks.{mark_of}
use Rattle.carousel_record.specs.Record.{Record, record_of, module_at, place_of, block_count, block_length, received, block_at, ruled_of}
use Rattle.carousel_record.specs.Refusals.{meets13, meets15}
use Rattle.carousel_record.specs.Changes.{made_afresh, with_mark, afresh, marking}

-- 12: "DDB: no announcement, or downloadId differs"
unfoldable pub meets12 : Announced → Arrived → Bool
meets12 a d = eqb (length a.modules) 0 || not (eqb a.download d.download)

-- 14: "version differs"
unfoldable pub meets14 : Announced → Arrived → Bool
meets14 a d = not (eqb (module_at a (place_of a d.number)).version d.version)

-- 16: "block number or block length wrong"
unfoldable pub meets16 : Announced → Arrived → Bool
meets16 a d = not (ltb d.block (block_count a (place_of a d.number))) || not (eqb (length d.bytes) (block_length a (place_of a d.number) d.block))

abbrev pub block_tests : Announced → ℕ → Arrived → Tests
block_tests a n d = (12, meets12 a d) ∷ (13, meets13 a d.number) ∷ (14, meets14 a d) ∷ (15, meets15 a n) ∷ (16, meets16 a d) ∷ []

-- The lowest of 12 to 16 that meets a data section. "It is matching when 13 to 16 don't meet it either": 0 is matching.
unfoldable pub block_refusal : Announced → ℕ → Arrived → ℕ
block_refusal a n d = first_met (block_tests a n d)

-- whether the bytes now in the image are other ones
unfoldable pub bytes_differ : Record → List ℕ → (place : ℕ) → Arrived → Bool
bytes_differ r image i d = not (same_numbers (take (length d.bytes) (drop (block_at r i d.block) image)) d.bytes)

-- "An announcement equal in downloadId, blockSize and module list (order, numbers, sizes, versions)"
unfoldable pub same_modules : List Listed → List Listed → Bool
same_modules [] [] = true
same_modules [] (n ∷ ns) = false
same_modules (m ∷ ms) [] = false
same_modules (m ∷ ms) (n ∷ ns) = eqb m.number n.number && eqb m.size n.size && eqb m.version n.version && same_modules ms ns

unfoldable pub same_announced : Announced → Announced → Bool
same_announced a b = eqb a.download b.download && eqb a.block_size b.block_size && same_modules a.modules b.modules

-- What a section comes to. Only two of these change anything: a new announcement, and a stored block (its mark, its place in the image, its bytes).
pub data StepOutcome : Type 0 where
  refusing : Refusal → StepOutcome
  new : Announced → StepOutcome
  same repeated : StepOutcome
  stored : (mark at : ℕ) → List ℕ → StepOutcome

-- "A matching block not yet marked answers "stored" .. One already marked with equal bytes answers "repeated""
unfoldable pub matched : Record → List ℕ → (place : ℕ) → Arrived → StepOutcome
matched r image i d = cond (received r i d.block)
    (cond (bytes_differ r image i d) (refusing (refused 17)) repeated)
    (stored (mark_of i d.block) (block_at r i d.block) d.bytes)

unfoldable pub on_arrived : Record → List ℕ → Arrived → StepOutcome
on_arrived r image d = cond (eqb (block_refusal r.announced (length image) d) 0)
    (matched r image (place_of r.announced d.number) d)
    (refusing (refused (block_refusal r.announced (length image) d)))

-- "An announcement equal .. answers "same" and changes nothing. Another accepted one answers "new""
unfoldable pub on_announced : Record → Announced → StepOutcome
on_announced r a = cond (same_announced r.announced a) same (new a)

unfoldable pub on_heard : Record → List ℕ → Heard → StepOutcome
on_heard r image (refusal n) = refusing n
on_heard r image (announced a) = on_announced r a
on_heard r image (arrived d) = on_arrived r image d

-- 1: "record breaks its rule (carousel calls)", before all others
unfoldable pub outcome_of : Carousel → (s image : List ℕ) → StepOutcome
outcome_of c s image = cond (ruled_of c) (on_heard (record_of c) image (heard_of s)) (refusing (refused 1))

-- what it answers, and what it leaves of the record as the code holds it, of what the record says, and of the image
abbrev pub Answered : Type 0
Answered = Result Answer Refusal

abbrev pub answer_of : StepOutcome → Answered
answer_of (refusing n) = Err n
answer_of (new a) = Ok answer.New
answer_of same = Ok answer.Same
answer_of repeated = Ok answer.Repeated
answer_of (stored k at bytes) = Ok answer.Stored

abbrev pub carousel_after : Carousel → StepOutcome → Carousel
carousel_after c (refusing n) = c
carousel_after c (new a) = made_afresh c a
carousel_after c same = c
carousel_after c repeated = c
carousel_after c (stored k at bytes) = with_mark c k

abbrev pub record_after : Record → StepOutcome → Record
record_after r (refusing n) = r
record_after r (new a) = afresh r a
record_after r same = r
record_after r repeated = r
record_after r (stored k at bytes) = marking r k

abbrev pub image_after : List ℕ → StepOutcome → List ℕ
image_after image (refusing n) = image
image_after image (new a) = image
image_after image same = image
image_after image repeated = image
image_after image (stored k at bytes) = overwrite image at bytes

-- what a step returns, and the image after it
abbrev pub returning : Carousel → StepOutcome → Stepped
returning c o = record { answer = answer_of o; state = carousel_after c o }

unfoldable pub stepped_of : Carousel → (s image : List ℕ) → Stepped
stepped_of c s image = returning c (outcome_of c s image)

unfoldable pub image_of : Carousel → (s image : List ℕ) → List ℕ
image_of c s image = image_after image (outcome_of c s image)

-- the paper's number of an answer; 0 is no refusal
abbrev pub number_of_answer : Answered → ℕ
number_of_answer (Err r) = r.number
number_of_answer (Ok answer.New) = 0
number_of_answer (Ok answer.Same) = 0
number_of_answer (Ok answer.Stored) = 0
number_of_answer (Ok answer.Repeated) = 0

-- 17: "block marked, bytes differ"
abbrev pub meets17 : Record → List ℕ → Arrived → Bool
meets17 r image d = received r (place_of r.announced d.number) d.block && bytes_differ r image (place_of r.announced d.number) d

-- what a record holds against what was heard: 12 to 17 for a data section, and nothing for any other
abbrev pub heard_tests : Record → List ℕ → Heard → Tests
heard_tests r image (refusal n) = []
heard_tests r image (announced a) = []
heard_tests r image (arrived d) = block_tests r.announced (length image) d ++ ((17, meets17 r image d) ∷ [])

-- The paper's table for one section, in its order: 1, then 2 to 11 of the section itself (with the paper's exception), then 12 to 17.
abbrev pub step_tests : Carousel → (s image : List ℕ) → Tests
step_tests c s image = (1, not (ruled_of c)) ∷ (carousel_tests s ++ heard_tests (record_of c) image (heard_of s))
