-- `inspect` stays within the stretch: what `take` takes fits into what is left.
use Rattle.std.proofs.Common.{ℕ, List, ◌≡◌, ◌+◌, ◌-◌, ◌≤◌, Ok, true, arith, sym, ap, ◌∙◌, length, take, drop}
use lib.ListN.{length-drop}
use Rattle.wire.proofs.Laws.Loops.{tail}
use Rattle.carousel_record.specs.declared.Carousel.{Carousel}
use Rattle.carousel_record.specs.Record.{ruled_of}
use Rattle.carousel_step.proofs.Simulation.{empty-ruled}
use Rattle.receiver.specs.declared.Section.{Section}
use Rattle.receiver.specs.declared.Took.{Took}
use Rattle.receiver.specs.Run.{took_of}
use Rattle.receiver.proofs.Laws.Takes.{goes_on}
use Rattle.inspect.proofs.inspect.Goals as goal

-- a turn at byte p of the stretch, from what code has in hand
turned : (stretch image : List ℕ) (c : Carousel) (i p : ℕ) (x : Section) (t : Took) → ruled_of c ≡ true → p ≤ length stretch
    → t ≡ took_of c (take (length stretch - p) (drop p stretch)) image (65536 - i) → t.what ≡ Ok x → (p + x.length ≤ length stretch) × (ruled_of t.state ≡ true)
turned stretch image c i p x t r h e w =
    let s = take (length stretch - p) (drop p stretch) in
    let q = goes_on c s image r (65536 - i) x (ap (λ (y : Took). y.what) (sym e) ∙ w) in
    let n : length s ≡ length stretch - p = ap length (tail stretch p) ∙ length-drop p stretch in
    (omega (arith, q.1), ap (λ (y : Took). ruled_of y.state) e ∙ q.2)

pub loop-index-init : goal.loop-index-init
loop-index-init g c = (omega arith, ap ruled_of c.empty-c.ensures ∙ empty-ruled)

pub overflow_add-next : goal.overflow_add-next
overflow_add-next g c =
    let l = c.loop-index in
    let p = turned c.args.stretch.now l.image l.c l.index l.passed c.in-Ok.section _ l.invariant.1 l.invariant.0 c.take-took.ensures.0 c.in-Ok.is in
    record { fits = omega (arith, p.0) }

pub slice_bounds-put_section-end : goal.slice_bounds-put_section-end
slice_bounds-put_section-end g c =
    let l = c.loop-index in
    let p = turned c.args.stretch.now l.image l.c l.index l.passed c.in-Ok.section _ l.invariant.1 l.invariant.0 c.take-took.ensures.0 c.in-Ok.is in
    p.0

pub loop-index-preserved : goal.loop-index-preserved
loop-index-preserved g c =
    let l = c.loop-index in
    turned c.args.stretch.now l.image l.c l.index l.passed c.in-Ok.section _ l.invariant.1 l.invariant.0 c.take-took.ensures.0 c.in-Ok.is
