-- `drift_list::judge::judge_list` meets its contract: the loop asks of each record in turn.
use Prim.Native.Nat.{ℕ, suc, ◌+◌, ◌-◌, ◌*◌}
use mathlib.Core.Path.{◌≡◌, refl, sym, ap, ◌∙◌}
use mathlib.Core.List.{List}
use native.Mathlib.Omega.{arith}
use Rattle.std.proofs.lemmas.Result.{err_from_is_err_and}
use Rattle.wire.specs.Outcomes.{passed}
use Rattle.wire.proofs.Laws.Outcomes.{refused_by_lem, not_refused}
use lib.ListN.{length}
use Rattle.drift_list.specs.declared.Fields.{Fields}
use Rattle.drift_list.specs.Values.{buoy_before, first_fault}
use Rattle.drift_list.specs.Reading.{fields_from, count_of, fix_at}
use Rattle.drift_list.proofs.Laws.Faults.{turn-done, turn_hit, turn_on}
use Rattle.drift_list.proofs.Exact.{refused_at, exact_answers, inexact_answers, count-sixteen}
use Rattle.drift_list.proofs.Laws.Words.{part, part_record}
use Rattle.drift_list.proofs.Answers.{asked, refused-with}
use Rattle.drift_list.proofs.judge.judge_list.Goals as goal
use Rattle.drift_list.proofs.judge.judge_list.Goals.{After-sixteen_at-count, In-loop-k}

next-buoy : (s : List ℕ) (k last : ℕ) → last ≡ (fields_from (part s k) 0).buoy → last ≡ buoy_before (fix_at s) (k + 1)
next-buoy s k last e = e ∙ ap (λ (f : Fields). f.buoy) (part_record s k) ∙ ap (buoy_before (fix_at s)) o
  where
    o : suc k ≡ k + 1
    o = omega arith

-- the count that was read
counted : (c : After-sixteen_at-count) → c.sixteen_at-count.result ≡ count_of c.args.s.now
counted c = c.sixteen_at-count.ensures.0 ∙ sym (count-sixteen c.args.s.now (λ k. (c.shared_slice_known-1.given k).fits))

abbrev here : In-loop-k → List ℕ
here c = c.args.s.now

pub returns-then-s-size : goal.returns-then-s-size
returns-then-s-size c = ap passed (sym (inexact_answers _ (λ e. c.if-s-size.true (e ∙ ap (λ (n : ℕ). 4 + 12 * n) (sym (counted (goal.at.returns-then-s-size c).After-sixteen_at-count))))))

pub loop-k-init : goal.loop-k-init
loop-k-init c =
    let n = counted (goal.at.loop-k-init c).After-sixteen_at-count in
    let s = c.args.s.now in
    let x : length s ≡ 4 + 12 * count_of s = c.if-s-size.false ∙ ap (λ (m : ℕ). 4 + 12 * m) n in
    let z : c.sixteen_at-count.result - 0 ≡ count_of s = omega arith in
    (n, c.if-s-size.false, refl, ap (λ (m : ℕ). first_fault m 0 (refused_at s)) z ∙ sym (exact_answers s x))

pub returns-in_err-judge_record : goal.returns-in_err-judge_record
returns-in_err-judge_record c =
    let p = err_from_is_err_and c.from_residual.result c.from_residual.ensures.1 in
    let s = here (goal.at.returns-in_err-judge_record c).In-loop-k in
    let l = c.loop-k in
    let w = refused_by_lem _ _ tt c.in_err-judge_record.ensures in
    let e = asked s l.k l.last _ l.invariant.2 refl in
    let h = turn_hit _ l.k (refused_at s) c.loop-k-test.true (λ z. w.1 (e ∙ z)) in
    rw (p.1, p.2) (refused-with _ _ tt (w.0 ∙ e ∙ sym h ∙ l.invariant.3) (λ z. w.1 (sym w.0 ∙ z)))

pub loop-k-preserved : goal.loop-k-preserved
loop-k-preserved c =
    let s = here (goal.at.loop-k-preserved c).In-loop-k in
    let l = c.loop-k in
    let e = asked s l.k l.last _ l.invariant.2 refl in
    let z = not_refused _ tt _ c.in_ok-judge_record.ensures in (
      l.invariant.0,
      l.invariant.1,
      next-buoy s l.k _ c.buoy_of-last.ensures,
      turn_on _ l.k (refused_at s) c.loop-k-test.true (sym e ∙ z) ∙ l.invariant.3,
    )

pub returns : goal.returns
returns c =
    let l = c.loop-k in
    ap passed (sym (turn-done _ l.k (refused_at c.args.s.now) c.loop-k-test.false) ∙ l.invariant.3)
