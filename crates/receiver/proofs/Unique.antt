-- Each public call of this crate leaves one answer, one record and one image.
use Prim.Native.Nat.{ℕ}
use mathlib.Core.Path.{◌≡◌, sym, ap, ◌∙◌}
use mathlib.Core.List.{List}
use contract.Lifetimes.{Lfts}
use borrow.Fn.Kinds.{Dens, res_t, ended_of}
use denote.Triple.Clauses.{AtExit}
use Rattle.wire.proofs.Once.{OneAnswer}
use Rattle.carousel_record.specs.declared.Carousel.{Carousel}
use Rattle.receiver.specs.declared.Passage.{Passage}
use Rattle.receiver.specs.declared.Ran.{Ran}
use Rattle.receiver.specs.Run.{ran_of, image_ran}
use Rattle.receiver.proofs.take.Kinds as take-kinds
use Rattle.receiver.proofs.take.Reads as take-reads
use Rattle.receiver.proofs.carousel_fate.Kinds as carousel-fate-kinds
use Rattle.receiver.proofs.carousel_fate.Reads as carousel-fate-reads
use Rattle.receiver.proofs.fate_number.Kinds as fate-number-kinds
use Rattle.receiver.proofs.fate_number.Reads as fate-number-reads
use Rattle.receiver.proofs.fate_place.Kinds as fate-place-kinds
use Rattle.receiver.proofs.fate_place.Reads as fate-place-reads
use Rattle.receiver.proofs.kind_number.Kinds as kind-number-kinds
use Rattle.receiver.proofs.kind_number.Reads as kind-number-reads
use Rattle.receiver.proofs.stop_number.Kinds as stop-number-kinds
use Rattle.receiver.proofs.stop_number.Reads as stop-number-reads
use Rattle.receiver.proofs.run.Kinds as run-kinds
use Rattle.receiver.proofs.run.Reads as run-reads

take : OneAnswer 2 take-kinds.ps take-kinds.r take-reads.Post
take κs a x y s t p q = p.0 ∙ sym q.0

take-image : (κs : Lfts 2) (a : Dens κs take-kinds.ps) (x y : (res_t take-kinds.r κs).Denot) (s t : AtExit (ended_of 2 take-kinds.ps take-kinds.r) κs)
    → take-reads.Post κs a x s → take-reads.Post κs a y t → s.1.1.0.now ≡ t.1.1.0.now
take-image κs a x y s t p q = p.1 ∙ sym q.1

carousel_fate_lem : OneAnswer 0 carousel-fate-kinds.ps carousel-fate-kinds.r carousel-fate-reads.Post
carousel_fate_lem κs a x y s t p q = p ∙ sym q

fate-number : OneAnswer 0 fate-number-kinds.ps fate-number-kinds.r fate-number-reads.Post
fate-number κs a x y s t p q = p ∙ sym q

fate-place : OneAnswer 0 fate-place-kinds.ps fate-place-kinds.r fate-place-reads.Post
fate-place κs a x y s t p q = p ∙ sym q

kind-number : OneAnswer 0 kind-number-kinds.ps kind-number-kinds.r kind-number-reads.Post
kind-number κs a x y s t p q = p ∙ sym q

stop-number : OneAnswer 0 stop-number-kinds.ps stop-number-kinds.r stop-number-reads.Post
stop-number κs a x y s t p q = p ∙ sym q

run : OneAnswer 2 run-kinds.ps run-kinds.r run-reads.Post
run κs a x y s t p q = p.0 ∙ sym q.0

run-image : (κs : Lfts 2) (a : Dens κs run-kinds.ps) (x y : (res_t run-kinds.r κs).Denot) (s t : AtExit (ended_of 2 run-kinds.ps run-kinds.r) κs)
    → run-reads.Post κs a x s → run-reads.Post κs a y t → s.1.1.0.now ≡ t.1.1.0.now
run-image κs a x y s t p q = p.1 ∙ sym q.1

-- The run in place. Its proof is a walk by hand, for which the prover has no reading of the kind above; this is over the equations of its contract: any two answers,
-- records and images that meet them coincide, and are those of the run by value.
pub in_place : (c : Carousel) (s image : List ℕ) (budget : ℕ) (r r' : Passage) (d d' : Carousel) (l l' : List ℕ)
    → (r ≡ (ran_of c s image budget).passage) × (d ≡ (ran_of c s image budget).state) × (l ≡ image_ran c s image budget)
    → (r' ≡ (ran_of c s image budget).passage) × (d' ≡ (ran_of c s image budget).state) × (l' ≡ image_ran c s image budget) → (r ≡ r') × (d ≡ d') × (l ≡ l')
in_place c s image budget r r' d d' l l' p q = (p.0 ∙ sym q.0, p.1 ∙ sym q.1, p.2 ∙ sym q.2)

pub in-place-by-value : (c : Carousel) (s image : List ℕ) (budget : ℕ) (r : Passage) (d : Carousel) (l : List ℕ) (x : Ran) (m : List ℕ)
    → (r ≡ (ran_of c s image budget).passage) × (d ≡ (ran_of c s image budget).state) × (l ≡ image_ran c s image budget) → (x ≡ ran_of c s image budget) × (m ≡ image_ran c s image budget)
    → (r ≡ x.passage) × (d ≡ x.state) × (l ≡ m)
in-place-by-value c s image budget r d l x m p q =
    (p.0 ∙ sym (ap (λ (y : Ran). y.passage) q.0), p.1 ∙ sym (ap (λ (y : Ran). y.state) q.0), p.2 ∙ sym q.1)
