-- 02 §8 IN THE PROGRAM: "the program keeps its 65,536-byte image and so answers 15 beyond that". A size of 65,537 is announced, "new", and its block gives 15.
use Prim.Native.Nat.{ℕ, suc, ◌-◌, ◌<◌}
use mathlib.Core.Path.{◌≡◌, refl, sym, ap, ap₂, ◌∙◌}
use mathlib.Core.Bool.{true, false}
use mathlib.Core.List.{List, [], ◌++◌}
use native.Mathlib.Omega.{arith}
use lib.Dec.{eqb, lit<}
use lib.ListN.{length, take, drop}
use Rattle.wire.specs.Fields.{byte_at, field_at}
use Rattle.section.specs.Header.{application_table}
use Rattle.section.specs.Answer.{refused}
use Rattle.text.specs.Text.{codes, digits_in}
use Rattle.carousel_messages.proofs.Soundings.{wide, wide_block}
use Rattle.carousel_record.specs.declared.Carousel.{Carousel}
use Rattle.carousel_record.specs.Record.{ruled_of}
use Rattle.carousel_record.specs.Changes.{empty_record}
use Rattle.carousel_step.specs.declared.Stepped.{Stepped}
use Rattle.carousel_step.specs.Step.{stepped_of, image_of}
use Rattle.carousel_step.proofs.Simulation.{empty-ruled}
use Rattle.carousel_step.proofs.Soundings.{left-ruled}
use Rattle.carousel_step.proofs.Steps.{new-leaves-image, refusal_changes-nothing}
use Rattle.carousel_step.proofs.Charts.{widened, beyond_the-image}
use Rattle.receiver.specs.declared.Took.{Took}
use Rattle.receiver.specs.declared.Stop.TheVariants as stop
use Rattle.section.specs.Whole.{whole_at}
use Rattle.receiver.specs.Run.{stop_at, carousel_fate, given_of, image_given}
use Rattle.receiver.proofs.Laws.Runs.{took-stop, took_one_lem}
use Rattle.report.specs.Report.{kind_name, stop_name, place_field, header, line_of, last_line, budget, printed}
use Rattle.report.proofs.Laws.Lines.{text_from, text-ends, text-goes-on, printed-is}
use Rattle.std.proofs.Common.{Ok, Err}
use Rattle.carousel_step.specs.Step.{Answered as Answer}
use Rattle.carousel_step.specs.declared.Answer.TheVariants as answer

-- a carousel section of n bytes at the head of a stretch, by what the step answers: its line, and then the text of the rest
line_of_lem : (c d : Carousel) (s whole rest image : List ℕ) (n left index : ℕ) (a : Answer) → ruled_of c ≡ true → 0 < left → whole_at s ≡ n → 0 < n → take n s ≡ whole → drop n s ≡ rest
    → eqb (byte_at whole 0) application_table ≡ false → stepped_of c whole image ≡ record { answer = a; state = d } → image_of c whole image ≡ image
    → text_from left index c s image ≡ line_of index (carousel_fate a) ++ text_from (left - 1) (suc index) d rest image
unfolding given_of image_given
line_of_lem c d s whole rest image n left index a r l w p t q b e f =
    let o = took_one_lem c s image left r (λ z. omega arith) (λ z. omega arith) in
    let k : take (whole_at s) s ≡ whole = ap (λ (m : ℕ). take m s) w ∙ t in
    let g = (text-goes-on c s image r left index _ (ap (λ (x : Took). x.what) o.0)).0 in
    g ∙ rw (o.0, o.1, k, b, e, f, w, q)

-- the announcement has 54 bytes, its block 95, and then the stretch ends
lengths : (whole_at (wide ++ wide_block) ≡ 54) × (whole_at wide_block ≡ 95) × (whole_at [] ≡ 0) × (stop_at [] ≡ stop.End)
unfolding whole_at stop_at field_at
lengths = (refl, refl, refl, refl)

lines : (line_of 0 (carousel_fate (Ok answer.New)) ≡ codes "0,0,new,\n") × (line_of 1 (carousel_fate (Err (refused 15))) ≡ codes "1,15,none,\n")
    × (last_line (stop_at []) ≡ codes "stop,end\n")
unfolding carousel_fate kind_name stop_name place_field stop_at digits_in
lines = (refl, refl, refl)

module _ (image : List ℕ) (h : length image < 65537) where
  told : stepped_of empty_record wide image ≡ record { answer = Ok answer.New; state = widened }
  told = (beyond_the-image image).0

  kept : ruled_of widened ≡ true
  kept = left-ruled empty_record wide image _ empty-ruled told

  short : stepped_of widened wide_block image ≡ record { answer = Err (refused 15); state = widened }
  short = (beyond_the-image image).1 h

  text : text_from budget 0 empty_record (wide ++ wide_block) image ≡ codes "0,0,new,\n" ++ (codes "1,15,none,\n" ++ codes "stop,end\n")
  unfolding field_at
  text =
      let first = line_of_lem empty_record widened (wide ++ wide_block) wide wide_block image 54 budget 0 (Ok answer.New) empty-ruled (lit< tt) lengths.0 (lit< tt) refl refl refl told
      (new-leaves-image empty_record wide image (ap (λ (x : Stepped). x.answer) told)) in
      let second = line_of_lem widened widened wide_block wide_block [] image 95 (budget - 1) 1 (Err (refused 15)) kept (lit< tt) lengths.1 (lit< tt) refl refl refl short
      (refusal_changes-nothing widened wide_block image _ (ap (λ (x : Stepped). x.answer) short)).1 in
      let last = (text-ends widened [] image kept (budget - 2) 2 (stop_at []) (ap (λ (x : Took). x.what) (took-stop widened [] image (budget - 2) kept lengths.2).0)).0 in
      first ∙ ap₂ (λ (l m : List ℕ). l ++ m) lines.0 (second ∙ ap₂ (λ (l m : List ℕ). l ++ m) lines.1 (last ∙ lines.2))

-- "A size of 65,537 is announced ("new") and its block gives 15 in the program."
pub wide-printed : (image : List ℕ) → length image ≡ 65536 → printed (wide ++ wide_block) image ≡ codes "index,answer,kind,place\n0,0,new,\n1,15,none,\nstop,end\n"
wide-printed image e = sym (printed-is empty_record (wide ++ wide_block) image refl) ∙ ap (λ (l : List ℕ). header ++ l) (text image (omega arith))
