-- Each public call of this crate leaves one answer, one record and one image.
use Prim.Native.Nat.{ℕ}
use mathlib.Core.Path.{◌≡◌, sym, ap, ◌∙◌}
use mathlib.Core.List.{List}
use contract.Lifetimes.{Lfts}
use borrow.Fn.Kinds.{Dens, res_t, ended_of}
use denote.Triple.Clauses.{AtExit}
use Rattle.wire.proofs.Once.{OneAnswer}
use Rattle.carousel_record.specs.declared.Carousel.{Carousel}
use Rattle.carousel_step.specs.declared.Stepped.{Stepped}
use Rattle.carousel_step.specs.Step.{Answered, stepped_of, image_of}
use Rattle.carousel_step.proofs.store.take_block.Kinds as take-block-kinds
use Rattle.carousel_step.proofs.store.take_block.Reads as take-block-reads
use Rattle.carousel_step.proofs.step.Kinds as step-kinds
use Rattle.carousel_step.proofs.step.Reads as step-reads

step : OneAnswer 2 step-kinds.ps step-kinds.r step-reads.Post
step κs a x y s t p q = p.0 ∙ sym q.0

-- and the image
step-image : (κs : Lfts 2) (a : Dens κs step-kinds.ps) (x y : (res_t step-kinds.r κs).Denot) (s t : AtExit (ended_of 2 step-kinds.ps step-kinds.r) κs)
    → step-reads.Post κs a x s → step-reads.Post κs a y t → s.1.1.0.now ≡ t.1.1.0.now
step-image κs a x y s t p q = p.1 ∙ sym q.1

-- a block for a record that is held in parts: its answer, the marks and the image
take-block : OneAnswer 3 take-block-kinds.ps take-block-kinds.r take-block-reads.Post
take-block κs a x y s t p q = p.0 ∙ sym q.0

take-block-marks : (κs : Lfts 3) (a : Dens κs take-block-kinds.ps) (x y : (res_t take-block-kinds.r κs).Denot) (s t : AtExit (ended_of 3 take-block-kinds.ps take-block-kinds.r) κs)
    → take-block-reads.Post κs a x s → take-block-reads.Post κs a y t → (s.1.1.1.1.0.now ≡ t.1.1.1.1.0.now) × (s.1.1.1.1.1.0.now ≡ t.1.1.1.1.1.0.now)
take-block-marks κs a x y s t p q = (p.1 ∙ sym q.1, p.2 ∙ sym q.2)

-- The entry in place. Its proof is a walk by hand, for which the prover has no reading of the kind above; this is over the equations of its contract: any two answers,
-- records and images that meet them coincide, and are those of the step by value.
pub in_place : (c : Carousel) (s image : List ℕ) (r r' : Answered) (d d' : Carousel) (l l' : List ℕ)
    → (r ≡ (stepped_of c s image).answer) × (d ≡ (stepped_of c s image).state) × (l ≡ image_of c s image)
    → (r' ≡ (stepped_of c s image).answer) × (d' ≡ (stepped_of c s image).state) × (l' ≡ image_of c s image) → (r ≡ r') × (d ≡ d') × (l ≡ l')
in_place c s image r r' d d' l l' p q = (p.0 ∙ sym q.0, p.1 ∙ sym q.1, p.2 ∙ sym q.2)

pub in-place-by-value : (c : Carousel) (s image : List ℕ) (r : Answered) (d : Carousel) (l : List ℕ) (x : Stepped) (m : List ℕ)
    → (r ≡ (stepped_of c s image).answer) × (d ≡ (stepped_of c s image).state) × (l ≡ image_of c s image) → (x ≡ stepped_of c s image) × (m ≡ image_of c s image)
    → (r ≡ x.answer) × (d ≡ x.state) × (l ≡ m)
in-place-by-value c s image r d l x m p q =
    (p.0 ∙ sym (ap (λ (y : Stepped). y.answer) q.0), p.1 ∙ sym (ap (λ (y : Stepped). y.state) q.0), p.2 ∙ sym q.1)
