-- A refusal of the step is its number and its place: the section's as it was judged, and the record's own, 1 and 12 to 17, with none.
use Prim.Native.Nat.{ℕ, ◌<◌}
use mathlib.Core.Path.{◌≡◌, refl, ap}
use mathlib.Core.Bool.{Bool, true, false, cond}
use mathlib.Core.List.{List}
use native.Mathlib.Omega.{arith}
use Rattle.std.proofs.Common.{Ok, Err}
use lib.Dec.{eqb, lit≤, lit<}
use lib.ListN.{length}
use borrow.Author.Tests.{eqb-false}
use Rattle.wire.proofs.Laws.Tests.{met-within}
use Rattle.section.specs.declared.Rules.TheVariants.{Carousel as Carousels}
use Rattle.section.specs.declared.Refusal.{Refusal}
use Rattle.section.specs.Answer.{refused, Told}
use Rattle.section.proofs.Laws.Places.{above-told, broken-told}
use Rattle.carousel_messages.specs.Heard.{Announced, Arrived, Heard, refusal, announced, arrived, heard_of}
use Rattle.carousel_messages.proofs.Told.{heard-told}
use Rattle.carousel_record.specs.declared.Carousel.{Carousel}
use Rattle.carousel_record.specs.Record.{Record, record_of, place_of, received, ruled_of}
use Rattle.carousel_step.specs.declared.Answer.TheVariants as answer
use Rattle.carousel_step.specs.Step.{block_tests, block_refusal, bytes_differ, same_announced, StepOutcome, refusing, new, same, repeated, stored, matched, on_arrived}
use Rattle.carousel_step.specs.Step.{on_announced, on_heard, outcome_of, answer_of, stepped_of}

-- a block's own are 12 to 16, and 17
block-above : (a : Announced) (n : ℕ) (d : Arrived) → (block_refusal a n d ≡ 0 → ⊥) → 6 < block_refusal a n d
unfolding block_refusal
block-above a n d z =
    let w = met-within 12 16 (block_tests a n d) (lit≤ tt, lit≤ tt, (lit≤ tt, lit≤ tt, (lit≤ tt, lit≤ tt, (lit≤ tt, lit≤ tt, (lit≤ tt, lit≤ tt, tt))))) z in omega (arith, w.0)

module _ (s : List ℕ) (r : Refusal) where
  arrived-told : (c : Record) (image : List ℕ) (d : Arrived) → on_arrived c image d ≡ refusing r → Told Carousels s r
  unfolding on_arrived matched
  arrived-told c image d e = go (eqb (block_refusal c.announced (length image) d) 0) refl
      (received c (place_of c.announced d.number) d.block) (bytes_differ c image (place_of c.announced d.number) d) _ _ e
    where
      go : (t : Bool) → eqb (block_refusal c.announced (length image) d) 0 ≡ t → (u w : Bool) (k at : ℕ)
          → cond t (cond u (cond w (refusing (refused 17)) repeated) (stored k at d.bytes)) (refusing (refused (block_refusal c.announced (length image) d))) ≡ refusing r
          → Told Carousels s r
      go true f true true k at e = let q : refused 17 ≡ r = cc in rw (← q) (above-told Carousels s 17 (lit< tt))
      go true f true false k at e = let w : ◌≡◌ {A = ℕ} 0 1 = cc in absurd (omega arith)
      go true f false w k at e = let v : ◌≡◌ {A = ℕ} 0 1 = cc in absurd (omega arith)
      go false f u w k at e = let q : refused (block_refusal c.announced (length image) d) ≡ r = cc in rw (← q) (above-told Carousels s _ (block-above _ _ d (eqb-false _ _ f)))

  pub step-told : (c : Carousel) (image : List ℕ) → (stepped_of c s image).answer ≡ Err r → Told Carousels s r
  unfolding stepped_of outcome_of on_heard on_announced
  step-told c image e = go (ruled_of c) (heard_of s) refl e
    where
      by : (o : StepOutcome) → answer_of o ≡ Err r → o ≡ refusing r
      by (refusing n) e = let q : n ≡ r = cc in ap refusing q
      by (new a) e = let w : ◌≡◌ {A = ℕ} 0 1 = cc in absurd (omega arith)
      by same e = let w : ◌≡◌ {A = ℕ} 0 1 = cc in absurd (omega arith)
      by repeated e = let w : ◌≡◌ {A = ℕ} 0 1 = cc in absurd (omega arith)
      by (stored k at bytes) e = let w : ◌≡◌ {A = ℕ} 0 1 = cc in absurd (omega arith)

      no-refusal : (t : Bool) (a : Announced) → cond t same (new a) ≡ refusing r → ⊥
      no-refusal true a e = let w : ◌≡◌ {A = ℕ} 0 1 = cc in omega arith
      no-refusal false a e = let w : ◌≡◌ {A = ℕ} 0 1 = cc in omega arith

      go : (t : Bool) (h : Heard) → heard_of s ≡ h → answer_of (cond t (on_heard (record_of c) image h) (refusing (refused 1))) ≡ Err r → Told Carousels s r
      go false h f e = let q : refused 1 ≡ r = cc in rw (← q) (broken-told Carousels s)
      go true (refusal n) f e = let q : n ≡ r = cc in heard-told s r (rw (← q) f)
      go true (announced a) f e = absurd (no-refusal (same_announced (record_of c).announced a) a (by (cond (same_announced (record_of c).announced a) same (new a)) e))
      go true (arrived d) f e = arrived-told (record_of c) image d (by (on_arrived (record_of c) image d) e)
