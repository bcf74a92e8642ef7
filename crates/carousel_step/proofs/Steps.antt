-- What a step changes: by a refusal, "same" and "repeated" nothing, by "new" the record alone, by "stored" one mark and the bytes at one place.
use Prim.Native.Nat.{ℕ, ◌+◌, ◌/◌, ◌≤◌, ◌<◌}
use mathlib.Core.Path.{◌≡◌, refl, sym, ap, ◌∙◌}
use mathlib.Core.Bool.{Bool, true, false, cond}
use mathlib.Core.List.{List}
use mathlib.Core.Logic.{◌⊎◌}
use native.Mathlib.Omega.{arith}
use Rattle.std.proofs.Common.{Ok, Err}
use lib.Dec.{eqb}
use lib.ListN.{length, get_or, take, drop}
use borrow.Author.Tests.{eqb-true}
use Rattle.wire.proofs.Laws.Tests.{clash}
use Rattle.wire.specs.Copies.{overwrite}
use Rattle.section.specs.declared.Refusal.{Refusal}
use Rattle.section.specs.Answer.{refused}
use Rattle.carousel_messages.specs.Heard.{Announced, Arrived, Heard, refusal, announced, arrived, heard_of}
use Rattle.carousel_record.specs.declared.Carousel.{Carousel}
use Rattle.carousel_step.specs.declared.Answer.TheVariants as answer
use Rattle.carousel_record.specs.Marks.{mark_of, is_marked, marks_with}
use Rattle.carousel_record.specs.Record.{Record, announced_by, record_of, place_of, received, block_at, ruled_of}
use Rattle.carousel_record.specs.Changes.{made_afresh, with_mark}
use Rattle.carousel_step.specs.Step.{Answered, block_refusal, bytes_differ, same_announced, StepOutcome, refusing, new, same, repeated, stored, matched, on_arrived, on_announced, on_heard, outcome_of}
use Rattle.carousel_step.specs.Step.{answer_of, carousel_after, image_after, stepped_of, image_of}
use Rattle.carousel_step.proofs.Views.{is_new}
use Rattle.carousel_record.proofs.Laws.Marks.{mark-same, mark-other}
use Rattle.carousel_step.proofs.Laws.Images.{length_over, over-same, over-outside}
use Rattle.carousel_record.proofs.Laws.Rule.{Kept, kept, in_words, ruled-says}
use Rattle.carousel_step.proofs.View.{Fits, fits, fits_in, arrived_old}
use Rattle.carousel_step.proofs.Simulation.{outcome-ruled}

-- whether an answer is "new" or "stored"; the others change nothing
abbrev changing : Answered → Bool
changing (Err n) = false
changing (Ok answer.New) = true
changing (Ok answer.Same) = false
changing (Ok answer.Stored) = true
changing (Ok answer.Repeated) = false

quiet : (c : Carousel) (image : List ℕ) (o : StepOutcome) → changing (answer_of o) ≡ false → (carousel_after c o ≡ c) × (image_after image o ≡ image)
quiet c image (refusing n) e = (refl, refl)
quiet c image (new a) e = absurd (clash _ refl e)
quiet c image same e = (refl, refl)
quiet c image repeated e = (refl, refl)
quiet c image (stored k at bytes) e = absurd (clash _ refl e)

module _ (c : Carousel) (s image : List ℕ) where
  step-quiet : changing (stepped_of c s image).answer ≡ false → ((stepped_of c s image).state ≡ c) × (image_of c s image ≡ image)
  unfolding stepped_of image_of
  step-quiet e = quiet c image (outcome_of c s image) e

  -- A REFUSAL CHANGES NOTHING, and so do "same" and "repeated".
  pub refusal_changes-nothing : (n : Refusal) → (stepped_of c s image).answer ≡ Err n → ((stepped_of c s image).state ≡ c) × (image_of c s image ≡ image)
  refusal_changes-nothing n e = step-quiet (ap changing e)

  pub same_changes-nothing : (stepped_of c s image).answer ≡ (Ok answer.Same) → ((stepped_of c s image).state ≡ c) × (image_of c s image ≡ image)
  same_changes-nothing e = step-quiet (ap changing e)

  pub repeated_changes-nothing : (stepped_of c s image).answer ≡ (Ok answer.Repeated) → ((stepped_of c s image).state ≡ c) × (image_of c s image ≡ image)
  repeated_changes-nothing e = step-quiet (ap changing e)

  -- 1: a record that breaks its rule is refused before all else
  pub broken-refused : ruled_of c ≡ false → (stepped_of c s image).answer ≡ Err (refused 1)
  unfolding stepped_of outcome_of
  broken-refused e = rw e

-- What came of what was heard, where the answer is "new" or "stored".
record Made (r : Record) (image : List ℕ) (h : Heard) : Type 0 where
  told : Announced
  heard : h ≡ announced told
  came : on_heard r image h ≡ new told

record Put (r : Record) (image : List ℕ) (h : Heard) : Type 0 where
  block : Arrived
  heard : h ≡ arrived block
  fitting : Fits r.announced (length image) block
  clear : received r (place_of r.announced block.number) block.block ≡ false
  came : on_heard r image h ≡ stored (mark_of (place_of r.announced block.number) block.block) (block_at r (place_of r.announced block.number) block.block) block.bytes

abbrev is_stored : Answered → Bool
is_stored (Err n) = false
is_stored (Ok answer.New) = false
is_stored (Ok answer.Same) = false
is_stored (Ok answer.Stored) = true
is_stored (Ok answer.Repeated) = false

abbrev is_made : Answered → Bool
is_made (Err n) = false
is_made (Ok answer.New) = true
is_made (Ok answer.Same) = false
is_made (Ok answer.Stored) = false
is_made (Ok answer.Repeated) = false

made-new : (o : StepOutcome) → is_made (answer_of o) ≡ is_new o
unfolding is_new
made-new (refusing n) = refl
made-new (new a) = refl
made-new same = refl
made-new repeated = refl
made-new (stored k at bytes) = refl

module _ (r : Record) (image : List ℕ) where
  made : (h : Heard) → is_made (answer_of (on_heard r image h)) ≡ true → Made r image h
  unfolding on_heard on_announced
  made (refusal n) e = absurd (clash _ e refl)
  made (announced a) e = go (same_announced r.announced a) refl e
    where
      go : (t : Bool) → same_announced r.announced a ≡ t → is_made (answer_of (cond t same (new a))) ≡ true → Made r image (announced a)
      go true f e = absurd (clash _ e refl)
      go false f e = record { told = a; heard = refl; came = rw f }
  made (arrived d) e = absurd (clash _ e (made-new (on_arrived r image d) ∙ arrived_old r image d))

  put : (h : Heard) → is_stored (answer_of (on_heard r image h)) ≡ true → Put r image h
  unfolding on_heard on_announced on_arrived matched
  put (refusal n) e = absurd (clash _ e refl)
  put (announced a) e = go (same_announced r.announced a) e
    where
      go : (t : Bool) → is_stored (answer_of (cond t same (new a))) ≡ true → Put r image (announced a)
      go true e = absurd (clash _ e refl)
      go false e = absurd (clash _ e refl)
  put (arrived d) e =
      go (eqb (block_refusal r.announced (length image) d) 0) (received r (place_of r.announced d.number) d.block) (bytes_differ r image (place_of r.announced d.number) d)
      refl refl e
    where
      go : (t u w : Bool) → eqb (block_refusal r.announced (length image) d) 0 ≡ t → received r (place_of r.announced d.number) d.block ≡ u
          → is_stored (answer_of (cond t (cond u (cond w (refusing (refused 17)) repeated)
          (stored (mark_of (place_of r.announced d.number) d.block) (block_at r (place_of r.announced d.number) d.block) d.bytes))
          (refusing (refused (block_refusal r.announced (length image) d))))) ≡ true
          → Put r image (arrived d)
      go true true true f g e = absurd (clash _ e refl)
      go true true false f g e = absurd (clash _ e refl)
      go true false w f g e = record { block = d; heard = refl; fitting = fits _ _ d (eqb-true _ _ f); clear = g; came = rw (f, g) }
      go false u w f g e = absurd (clash _ e refl)

-- the mark and the place of a data section's block, in a record
abbrev pub its_mark : Carousel → Arrived → ℕ
its_mark c d = mark_of (place_of (announced_by c) d.number) d.block

abbrev pub its_place : Carousel → Arrived → ℕ
its_place c d = block_at (record_of c) (place_of (announced_by c) d.number) d.block

-- "NEW": an announcement was heard, the record is made afresh from it, and the image is left.
pub record Renewing (c : Carousel) (s image : List ℕ) : Type 0 where
  pub told : Announced
  pub heard : heard_of s ≡ announced told
  pub ruled : ruled_of c ≡ true
  pub state : (stepped_of c s image).state ≡ made_afresh c told
  pub left : image_of c s image ≡ image

-- "STORED": a data section was heard that none of 12 to 16 meets, its block had no mark, its mark is set and its bytes are at its place.
pub record Storing (c : Carousel) (s image : List ℕ) : Type 0 where
  pub block : Arrived
  pub heard : heard_of s ≡ arrived block
  pub ruled : ruled_of c ≡ true
  pub fitting : Fits (announced_by c) (length image) block
  pub clear : is_marked c.marks (its_mark c block) ≡ false
  pub state : (stepped_of c s image).state ≡ with_mark c (its_mark c block)
  pub left : image_of c s image ≡ overwrite image (its_place c block) block.bytes

module _ (c : Carousel) (s image : List ℕ) where
  -- an answer that changes something is given where the record keeps its rule
  was-ruled : changing (stepped_of c s image).answer ≡ true → ruled_of c ≡ true
  was-ruled e = go (ruled_of c) refl
    where
      go : (t : Bool) → ruled_of c ≡ t → ruled_of c ≡ true
      go true f = f
      go false f = absurd (clash _ e (ap changing (broken-refused c s image f)))

  heard-answer : ruled_of c ≡ true → (stepped_of c s image).answer ≡ answer_of (on_heard (record_of c) image (heard_of s))
  unfolding stepped_of
  heard-answer e = ap (λ (o : StepOutcome). answer_of o) (outcome-ruled c s image e)

  pub new_changes : (stepped_of c s image).answer ≡ (Ok answer.New) → Renewing c s image
  unfolding stepped_of image_of
  new_changes e =
      let u = was-ruled (ap changing e) in
      let m = made (record_of c) image (heard_of s) (ap is_made (sym (heard-answer u) ∙ e)) in
      let o = outcome-ruled c s image u ∙ m.came in
      record { told = m.told; heard = m.heard; ruled = u; state = ap (λ (o : StepOutcome). carousel_after c o) o; left = ap (λ (o : StepOutcome). image_after image o) o }

  pub new-leaves-image : (stepped_of c s image).answer ≡ (Ok answer.New) → image_of c s image ≡ image
  new-leaves-image e = (new_changes e).left

  pub stored_changes : (stepped_of c s image).answer ≡ (Ok answer.Stored) → Storing c s image
  unfolding stepped_of image_of announced_by
  stored_changes e =
      let u = was-ruled (ap changing e) in
      let p = put (record_of c) image (heard_of s) (ap is_stored (sym (heard-answer u) ∙ e)) in
      let o = outcome-ruled c s image u ∙ p.came in
      record {
        block = p.block;
        heard = p.heard;
        ruled = u;
        fitting = p.fitting;
        clear = p.clear;
        state = ap (λ (o : StepOutcome). carousel_after c o) o;
        left = ap (λ (o : StepOutcome). image_after image o) o;
      }

  -- of a stored block: what is there, and what is elsewhere
  module _ (w : Storing c s image) where
    abbrev at : ℕ
    at = its_place c w.block

    its-kept : Kept (record_of c)
    its-kept = let u = w.fitting.found in kept (record_of c) (omega arith) (ruled-says c w.ruled)

    room : at + length w.block.bytes ≤ length image
    room = fits_in (record { says = record_of c; image = image }) its-kept w.block w.fitting

    marks-after : (stepped_of c s image).state.marks ≡ marks_with c.marks (its_mark c w.block)
    unfolding with_mark
    marks-after = ap (λ (d : Carousel). d.marks) w.state

    word : its_mark c w.block / 32 < length c.marks
    word = in_words (record_of c) its-kept (place_of (announced_by c) w.block.number) w.block.block w.fitting.found w.fitting.within

    pub stored_there : (is_marked (stepped_of c s image).state.marks (its_mark c w.block) ≡ true)
        × (take (length w.block.bytes) (drop (its_place c w.block) (image_of c s image)) ≡ w.block.bytes)
    stored_there = (
      ap (λ (ws : List ℕ). is_marked ws (its_mark c w.block)) marks-after ∙ mark-same c.marks (its_mark c w.block) word,
      ap (λ (l : List ℕ). take (length w.block.bytes) (drop at l)) w.left ∙ over-same image at w.block.bytes room,
    )

    pub stored_elsewhere : ((m : ℕ) → (m ≡ its_mark c w.block → ⊥) → is_marked (stepped_of c s image).state.marks m ≡ is_marked c.marks m)
        × ((p : ℕ) → (p < its_place c w.block) ⊎ (its_place c w.block + length w.block.bytes ≤ p) → get_or (image_of c s image) p 0 ≡ get_or image p 0)
    stored_elsewhere = (
      (λ m n. ap (λ (ws : List ℕ). is_marked ws m) marks-after ∙ mark-other c.marks (its_mark c w.block) m word n),
      (λ p h. ap (λ (l : List ℕ). get_or l p 0) w.left ∙ over-outside image at w.block.bytes room p h),
    )

    stored_length : length (image_of c s image) ≡ length image
    stored_length = ap (λ (l : List ℕ). length l) w.left ∙ length_over image at w.block.bytes room

  -- no step changes the image's length
  pub image_length : length (image_of c s image) ≡ length image
  image_length = go (stepped_of c s image).answer refl
    where
      go : (r : Answered) → (stepped_of c s image).answer ≡ r → length (image_of c s image) ≡ length image
      go (Err n) e = ap (λ (l : List ℕ). length l) (refusal_changes-nothing c s image n e).1
      go (Ok answer.New) e = ap (λ (l : List ℕ). length l) (new-leaves-image e)
      go (Ok answer.Same) e = ap (λ (l : List ℕ). length l) (same_changes-nothing c s image e).1
      go (Ok answer.Stored) e = stored_length (stored_changes e)
      go (Ok answer.Repeated) e = ap (λ (l : List ℕ). length l) (repeated_changes-nothing c s image e).1
