-- `drift_list::write` meets its contract.
use Prim.Native.Nat.{ℕ, ◌+◌, ◌*◌, ◌<◌}
use mathlib.Core.Path.{◌≡◌, refl, sym, ap, subst, ◌∙◌}
use mathlib.Core.List.{List}
use Rattle.std.proofs.lemmas.Result.{err_from_is_err_and}
use Rattle.wire.proofs.Laws.Outcomes.{refused_by_lem, not_refused}
use native.Mathlib.Omega.{arith}
use lib.ListN.{length}
use lib.Seq.{length-sets}
use Rattle.wire.specs.Fields.{spelled}
use Rattle.drift_list.specs.Reading.{FitsFix, spell_fix}
use Rattle.drift_list.specs.Writing.{Draft, draft, write_refusal}
use Rattle.drift_list.proofs.Laws.Cells.{fix-rest}
use Rattle.drift_list.proofs.Left.{none-begun, onward, fits, place_in, head_in_lem, numbers_in, issue-small, count_small, left_is, answer-is, kept-is}
use Rattle.drift_list.proofs.write.Goals as goal
use Rattle.drift_list.proofs.write.Goals.{After-put_four, In_ok-judge_draft, In-loop-k}

abbrev given : In_ok-judge_draft → Draft
given c = let a = c.args in draft a.issue a.count a.numbers.now

abbrev lent : In_ok-judge_draft → List ℕ
lent c = c.args.out.now

accepted : (c : In_ok-judge_draft) → write_refusal (given c) (length (lent c)) ≡ 0
accepted c = not_refused _ tt _ c.in_ok-judge_draft.ensures

room-kept : (c : After-put_four) → length c.put_four.new.out ≡ length (lent (goal.at.After-put_four c).In_ok-judge_draft)
room-kept c =
    let d = given (goal.at.After-put_four c).In_ok-judge_draft in
    ap length c.put_four.ensures ∙ length-sets (lent (goal.at.After-put_four c).In_ok-judge_draft) 0 (spelled 4 (d.issue * 65536 + d.count))

among : (c : In-loop-k) → c.loop-k.k < (given ((goal.at.In-loop-k c).In_ok-judge_draft)).count
among c = omega arith

pub returns-in_err-judge_draft : goal.returns-in_err-judge_draft
returns-in_err-judge_draft c =
    let a = c.args in
    let p = err_from_is_err_and c.from_residual.result c.from_residual.ensures.1 in
    let w = refused_by_lem _ _ tt c.in_err-judge_draft.ensures in
    let k = kept-is (draft a.issue a.count a.numbers.now) a.out.now _ w.0 (λ z. w.1 (sym w.0 ∙ z)) in
    (rw (p.1, p.2) k.0, k.1)

pub overflow_mul-issue : goal.overflow_mul-issue
overflow_mul-issue c = let i = issue-small (given (goal.at.overflow_mul-issue c).In_ok-judge_draft) (lent (goal.at.overflow_mul-issue c).In_ok-judge_draft) (accepted
    (goal.at.overflow_mul-issue c).In_ok-judge_draft) in record { fits = omega arith }

pub overflow_add-issue : goal.overflow_add-issue
overflow_add-issue c =
    let i = issue-small (given (goal.at.overflow_add-issue c).In_ok-judge_draft) (lent (goal.at.overflow_add-issue c).In_ok-judge_draft) (accepted (goal.at.overflow_add-issue c).In_ok-judge_draft) in
    let n = count_small (given (goal.at.overflow_add-issue c).In_ok-judge_draft) (lent (goal.at.overflow_add-issue c).In_ok-judge_draft) (accepted (goal.at.overflow_add-issue c).In_ok-judge_draft) in
    record { fits = omega arith }

pub put_four-requires : goal.put_four-requires
put_four-requires c =
    head_in_lem (given (goal.at.put_four-requires c).In_ok-judge_draft) (lent (goal.at.put_four-requires c).In_ok-judge_draft) (accepted (goal.at.put_four-requires c).In_ok-judge_draft)

pub loop-k-init : goal.loop-k-init
loop-k-init c = (refl, none-begun _ _)

pub slice_bounds-fields_in-count : goal.slice_bounds-fields_in-count
slice_bounds-fields_in-count c = numbers_in (given ((goal.at.slice_bounds-fields_in-count c).In_ok-judge_draft)) (lent ((goal.at.slice_bounds-fields_in-count c).In_ok-judge_draft)) (accepted
    ((goal.at.slice_bounds-fields_in-count c).In_ok-judge_draft)) c.loop-k.k (among (goal.at.slice_bounds-fields_in-count c).In-loop-k)

pub slice_bounds-fields_in-start : goal.slice_bounds-fields_in-start
slice_bounds-fields_in-start c = numbers_in (given ((goal.at.slice_bounds-fields_in-start c).In_ok-judge_draft)) (lent ((goal.at.slice_bounds-fields_in-start c).In_ok-judge_draft)) (accepted
    ((goal.at.slice_bounds-fields_in-start c).In_ok-judge_draft)) c.loop-k.k (among (goal.at.slice_bounds-fields_in-start c).In-loop-k)

pub put_fix-requires : goal.put_fix-requires
put_fix-requires c =
    let l = c.loop-k in
    let d = given ((goal.at.put_fix-requires c).In_ok-judge_draft) in
    let a = accepted ((goal.at.put_fix-requires c).In_ok-judge_draft) in
    let p = place_in d (lent ((goal.at.put_fix-requires c).In_ok-judge_draft)) a l.k (among (goal.at.put_fix-requires c).In-loop-k) in
    let m = l.invariant.0 in
    let r = room-kept (goal.at.put_fix-requires c).After-put_four in (
      omega arith,
      subst FitsFix (sym (c.fields_in.ensures ∙ fix-rest d.numbers (5 * l.k))) (fits d (lent ((goal.at.put_fix-requires c).In_ok-judge_draft)) a l.k
          (among (goal.at.put_fix-requires c).In-loop-k)),
    )

pub loop-k-preserved : goal.loop-k-preserved
loop-k-preserved c =
    let l = c.loop-k in
    let d = given ((goal.at.loop-k-preserved c).In_ok-judge_draft) in
    let e = c.put_fix.ensures in
    let u = among (goal.at.loop-k-preserved c).In-loop-k in (
      ap length e ∙ length-sets l.out (4 + 12 * l.k) (spell_fix c.fields_in.result) ∙ l.invariant.0,
      onward d.numbers l.k _ l.out _ c.fields_in.result l.invariant.1 (c.fields_in.ensures ∙ fix-rest d.numbers (5 * l.k)) e,
    )

pub shape_of-out : goal.shape_of-out
shape_of-out c = c.loop-k.invariant.0 ∙ room-kept (goal.at.shape_of-out c).After-put_four

pub returns : goal.returns
returns c =
    let l = c.loop-k in (
      answer-is (given (goal.at.returns c).In_ok-judge_draft) (lent (goal.at.returns c).In_ok-judge_draft) (accepted (goal.at.returns c).In_ok-judge_draft),
      left_is (given (goal.at.returns c).In_ok-judge_draft) (lent
          (goal.at.returns c).In_ok-judge_draft) (accepted (goal.at.returns c).In_ok-judge_draft) l.k _ _ (omega arith) c.put_four.ensures l.invariant.1,
    )
