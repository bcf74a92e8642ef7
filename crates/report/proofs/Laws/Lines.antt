-- The text of a run from a place on, one answer of `take` at a time.
use Prim.Native.Nat.{ℕ, suc, ◌+◌, ◌-◌, ◌≤◌, ◌<◌}
use mathlib.Core.Path.{◌≡◌, refl, sym, ap, ap₂, ◌∙◌}
use mathlib.Core.Bool.{true}
use mathlib.Core.List.{List, [], ◌∷◌, ◌++◌, append_assoc}
use native.Mathlib.Omega.{arith}
use lib.ListN.{length, drop, length-drop}
use lib.Seq.{drop-drop}
use Rattle.carousel_record.specs.declared.Carousel.{Carousel}
use Rattle.carousel_record.specs.Record.{ruled_of}
use Rattle.carousel_record.specs.Changes.{empty_record}
use Rattle.carousel_step.proofs.Simulation.{empty-ruled}
use Rattle.receiver.specs.declared.Stop.{Stop}
use Rattle.receiver.specs.declared.Section.{Section}
use Rattle.receiver.specs.declared.Took.{Took}
use Rattle.receiver.specs.Run.{took_of, image_took, image_ran, runs, fates_of, RunOutcome}
use Rattle.receiver.proofs.Laws.Runs.{run-ruled}
use Rattle.receiver.proofs.Laws.Takes.{ends, goes_on}
use Rattle.report.specs.Report.{header, line_of, lines_from, last_line, budget, printed}
use Rattle.std.proofs.Common.{Ok, Err}
use Rattle.receiver.specs.Run.{Fate}

-- the lines of what is taken from here on, the first of them with this index, and the stop's
abbrev pub text_from : (budget index : ℕ) → Carousel → (s image : List ℕ) → List ℕ
text_from budget index c s image = lines_from index (fates_of budget c s image) ++ last_line (runs budget c s image).stop

no_lines : (index : ℕ) → lines_from index [] ≡ []
unfolding lines_from
no_lines index = refl

more-lines : (index : ℕ) (f : Fate) (fs : List Fate) → lines_from index (f ∷ fs) ≡ line_of index f ++ lines_from (suc index) fs
unfolding lines_from
more-lines index f fs = refl

module _ (c : Carousel) (s image : List ℕ) (r : ruled_of c ≡ true) (budget index : ℕ) where
  -- where `take` stops, the stop's line is left
  pub text-ends : (x : Stop) → (took_of c s image budget).what ≡ Err x
      → (text_from budget index c s image ≡ last_line x) × ((runs budget c s image).image ≡ image) × (image_took c s image budget ≡ image)
  text-ends x e =
      let p = ends c s image r budget x e in (
        ap₂ (λ (fs : List Fate) (o : RunOutcome). lines_from index fs ++ last_line o.stop) p.0 p.1 ∙ ap (λ (l : List ℕ). l ++ last_line x) (no_lines index),
        ap (λ (o : RunOutcome). o.image) p.1,
        p.2,
      )

  -- where it takes a section, that section's line and then the text behind it
  pub text-goes-on : (x : Section) → (took_of c s image budget).what ≡ Ok x → let d = (took_of c s image budget).state in let l = image_took c s image budget in
      (text_from budget index c s image ≡ line_of index x.fate ++ text_from (budget - 1) (suc index) d (drop x.length s) l)
      × ((runs budget c s image).image ≡ (runs (budget - 1) d (drop x.length s) l).image)
  text-goes-on x e =
      let p = goes_on c s image r budget x e in
      let d = (took_of c s image budget).state in
      let l = image_took c s image budget in
      let fs = fates_of (budget - 1) d (drop x.length s) l in
      let last = last_line (runs (budget - 1) d (drop x.length s) l).stop in (
        ap₂ (λ (gs : List Fate) (o : RunOutcome). lines_from index gs ++ last_line o.stop) p.3 p.4
            ∙ ap (λ (m : List ℕ). m ++ last) (more-lines index x.fate fs)
            ∙ append_assoc (line_of index x.fate) (lines_from (suc index) fs) last,
        ap (λ (o : RunOutcome). o.image) p.4,
      )

-- a turn of the loop, at byte p of a stretch and with this index, from what code has in hand
abbrev pub Turned : (stretch image : List ℕ) (c : Carousel) (i p : ℕ) → Section → Carousel → List ℕ → Type 0
Turned stretch image c i p x d l =
    (i < budget) × (p + x.length ≤ length stretch) × (ruled_of d ≡ true)
    × (text_from (budget - i) i c (drop p stretch) image ≡ line_of i x.fate ++ text_from (budget - (i + 1)) (i + 1) d (drop (p + x.length) stretch) l)
    × ((runs (budget - i) c (drop p stretch) image).image ≡ (runs (budget - (i + 1)) d (drop (p + x.length) stretch) l).image)

pub turned : (stretch image : List ℕ) (c : Carousel) (i p : ℕ) (x : Section) (t : Took) (l : List ℕ) → ruled_of c ≡ true → p ≤ length stretch
    → t ≡ took_of c (drop p stretch) image (budget - i) → l ≡ image_took c (drop p stretch) image (budget - i) → t.what ≡ Ok x → Turned stretch image c i p x t.state l
turned stretch image c i p x t l r h e f w =
    let s = drop p stretch in
    let b = budget - i in
    let v = ap (λ (y : Took). y.what) (sym e) ∙ w in
    let q = goes_on c s image r b x v in
    let g = text-goes-on c s image r b i x v in
    let n = length-drop p stretch in
    let k : budget - (i + 1) ≡ b - 1 = omega arith in
    let j : i + 1 ≡ suc i = omega arith in
    rw (e, f, k, j, ← drop-drop x.length p stretch) (omega (arith, q.0), omega (arith, q.1), q.2, g.0, g.1)

-- THE WHOLE TEXT: the header, and then the text from the start on; and the image that the run leaves
pub printed-is : (c : Carousel) (s image : List ℕ) → c ≡ empty_record → header ++ text_from budget 0 c s image ≡ printed s image
unfolding printed
printed-is c s image e =
    ap (λ (d : Carousel). header ++ text_from budget 0 d s image) e
    ∙ sym (append_assoc header (lines_from 0 (fates_of budget empty_record s image)) (last_line (runs budget empty_record s image).stop))
    ∙ ap (λ (o : RunOutcome). header ++ lines_from 0 (fates_of budget empty_record s image) ++ last_line o.stop) (sym (run-ruled empty_record s image budget empty-ruled))

pub image-is : (c : Carousel) (s image : List ℕ) → c ≡ empty_record → (runs budget c s image).image ≡ image_ran empty_record s image budget
image-is c s image e = ap (λ (d : Carousel). (runs budget d s image).image) e ∙ ap (λ (o : RunOutcome). o.image) (sym (run-ruled empty_record s image budget empty-ruled))
