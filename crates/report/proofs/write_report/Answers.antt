-- `write_report` meets its contract. The invariant: what is still to be put, put from here on, leaves what the whole text leaves.
use borrow.Author.Rules.{rules}
use Prim.Native.Nat.{ℕ, ◌+◌, ◌-◌}
use mathlib.Core.Path.{◌≡◌, refl, sym, ap, ◌∙◌}
use mathlib.Core.List.{List, ◌++◌}
use native.Mathlib.Omega.{arith}
use native.Mathlib.Nat.{lt_of_le_of_lt}
use lib.ListN.{length, take, drop}
use Rattle.wire.proofs.Laws.Loops.{tail}
use Rattle.carousel_record.specs.Record.{ruled_of}
use Rattle.carousel_step.proofs.Simulation.{empty-ruled}
use Rattle.receiver.specs.declared.Took.{Took}
use Rattle.receiver.specs.Run.{took_of, image_took}
use Rattle.text.proofs.Laws.Puts.{puts_then, puts-same, writing-on, writing-ends}
use Rattle.report.specs.Report.{budget, header, line_of, printed}
use Rattle.report.proofs.Laws.Lines.{text_from, printed-is, image-is, text-ends, Turned, turned}
use Rattle.report.proofs.write_report.Goals as goal
use Rattle.report.proofs.write_report.Goals.{After-take-took, At-loop-stop, In-Err, In-Ok}
use Rattle.std.proofs.Common.{Err}

-- the stretch, and what is left of it at the loop's head
abbrev stretch-at : At-loop-stop → List ℕ
stretch-at c = c.args.stretch.now

abbrev left_at : At-loop-stop → List ℕ
left_at c = drop c.loop-stop.passed (stretch-at c)

rest : (c : At-loop-stop) → take (length (stretch-at c) - c.loop-stop.passed) (left_at c) ≡ left_at c
rest c = tail (stretch-at c) c.loop-stop.passed

-- what `take` answers there, and the image after it
took : (c : After-take-took) → let l = c.loop-stop in c.take-took.result ≡ took_of l.c (left_at (goal.at.After-take-took c).At-loop-stop) l.image (budget - l.index)
took c = let l = c.loop-stop in c.take-took.ensures.0 ∙ ap (λ (x : List ℕ). took_of l.c x l.image (budget - l.index)) (rest (goal.at.After-take-took c).At-loop-stop)

left : (c : After-take-took) → let l = c.loop-stop in c.take-took.new.image ≡ image_took l.c (left_at (goal.at.After-take-took c).At-loop-stop) l.image (budget - l.index)
left c = let l = c.loop-stop in c.take-took.ensures.1 ∙ ap (λ (x : List ℕ). image_took l.c x l.image (budget - l.index)) (rest (goal.at.After-take-took c).At-loop-stop)

-- it stopped
stopped : (c : In-Err) → let l = c.loop-stop in
    (took_of l.c (left_at (goal.at.In-Err c).At-loop-stop) l.image (budget - l.index)).what ≡ Err c.in-Err.stop
stopped c = ap (λ (x : Took). x.what) (sym (took (goal.at.In-Err c).After-take-took)) ∙ c.in-Err.is

-- it took a section
taken : (c : In-Ok) → let l = c.loop-stop in
    Turned (stretch-at (goal.at.In-Ok c).At-loop-stop) l.image l.c l.index l.passed c.in-Ok.section c.take-took.result.state c.take-took.new.image
taken c =
    let l = c.loop-stop in
    turned (stretch-at (goal.at.In-Ok c).At-loop-stop) l.image l.c l.index l.passed c.in-Ok.section _ _ l.invariant.4 l.invariant.0 (took (goal.at.In-Ok c).After-take-took) (left
    (goal.at.In-Ok c).After-take-took) c.in-Ok.is

pub loop-stop-init : goal.loop-stop-init
loop-stop-init c =
    let ruled = ap ruled_of c.empty-c.ensures ∙ empty-ruled in
    (omega arith, omega arith, refl, refl, ruled, (refl, refl), refl)

pub returns-in-Err : goal.returns-in-Err
returns-in-Err c =
    let l = c.loop-stop in
    let a = c.args in
    let put = c.put-at in
    let empty = c.empty-c in
    let p = text-ends l.c (left_at (goal.at.returns-in-Err c).At-loop-stop) l.image l.invariant.4 (budget - l.index) l.index _ (stopped (goal.at.returns-in-Err c).In-Err) in
    let whole = text_from budget 0 empty.result a.stretch.now a.image.now in
    let w = writing-ends l.out l.at _ put.new.out put.result whole _ _ _ l.invariant.5 p.0 c.put_stop.ensures in
    let q = puts_then a.out.now 0 header whole _ _ _ _ put.ensures w in
    let r = puts-same a.out.now 0 (header ++ whole) (printed a.stretch.now a.image.now) _ _ (printed-is _ a.stretch.now a.image.now empty.ensures) q in
    (r.0, r.1, left (goal.at.returns-in-Err c).After-take-took ∙ p.2 ∙ sym p.1 ∙ l.invariant.6 ∙ image-is _ a.stretch.now a.image.now empty.ensures)

pub overflow_add-passed : goal.overflow_add-passed
overflow_add-passed c = record { fits = lt_of_le_of_lt (taken (goal.at.overflow_add-passed c).In-Ok).1 (search rules) }

pub loop-stop-smaller : goal.loop-stop-smaller
loop-stop-smaller c = let p = taken (goal.at.loop-stop-smaller c).In-Ok in omega (arith, p.0)

pub loop-stop-preserved : goal.loop-stop-preserved
loop-stop-preserved c =
    let l = c.loop-stop in
    let a = c.args in
    let put = c.put-at in
    let line = c.put_line-at in
    let x = c.in-Ok.section in
    let whole = text_from budget 0 c.empty-c.result a.stretch.now a.image.now in
    let rest = text_from (budget - (l.index + 1)) (l.index + 1) c.take-took.result.state (drop (l.passed + x.length) a.stretch.now) c.take-took.new.image in
    let p = taken (goal.at.loop-stop-preserved c).In-Ok in (
      p.1,
      omega (arith, p.0),
      c.take-took.auto.image ∙ l.invariant.2,
      line.auto.out ∙ l.invariant.3,
      p.2,
      writing-on l.out l.at _ put.new.out put.result whole (line_of l.index x.fate) rest _ _ l.invariant.5 p.3 line.ensures,
      sym p.4 ∙ l.invariant.6,
    )
