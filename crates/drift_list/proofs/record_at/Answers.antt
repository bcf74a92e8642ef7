-- `drift_list::record_at` meets its contract.
use Prim.Native.Nat.{ℕ, ◌+◌, ◌*◌, ◌<◌, ◌≤◌}
use mathlib.Core.Path.{◌≡◌, refl, sym, ap, subst, ◌∙◌}
use lib.ListN.{length}
use Rattle.std.proofs.lemmas.Result.{err_from_is_err_and}
use Rattle.std.proofs.Common.{Ok}
use Rattle.wire.proofs.Laws.Outcomes.{refused_by_lem, not_refused}
use Rattle.drift_list.specs.Values.{fix_of}
use Rattle.drift_list.specs.Reading.{count_of, fix_at}
use Rattle.drift_list.proofs.Answers.{fix-refused, fix-past, fix-there, place-within}
use Rattle.drift_list.proofs.Exact.{count-sixteen}
use Rattle.drift_list.proofs.Laws.Words.{part_record}
use Rattle.drift_list.proofs.record_at.Goals as goal
use Rattle.drift_list.proofs.record_at.Goals.{After-sixteen_at-count, Else-count-k}

-- the count that was read
counted : (c : After-sixteen_at-count) → c.sixteen_at-count.result ≡ count_of c.args.list.now
counted c =
    c.sixteen_at-count.ensures.0 ∙ sym (count-sixteen c.args.list.now (λ k. (c.shared_slice_known-1.given k).fits))

among : (c : Else-count-k) → c.args.k < count_of c.args.list.now
among c = subst (λ (m : ℕ). c.args.k < m) (counted (goal.at.Else-count-k c).After-sixteen_at-count) c.if-count-k.false

within : (c : Else-count-k) → 4 + 12 * c.args.k ≤ length c.args.list.now
within c = place-within _ _ refl _ (not_refused _ tt _ c.in_ok-judge_list.ensures) (among c)

pub returns-in_err-judge_list : goal.returns-in_err-judge_list
returns-in_err-judge_list c =
    let p = err_from_is_err_and c.from_residual.result c.from_residual.ensures.1 in
    let w = refused_by_lem _ _ tt c.in_err-judge_list.ensures in
    rw (p.1, p.2) (fix-refused _ _ w.0 _ (λ z. w.1 (sym w.0 ∙ z)))

pub returns-then-count-k : goal.returns-then-count-k
returns-then-count-k c =
    let n = counted (goal.at.returns-then-count-k c).After-sixteen_at-count in
    fix-past _ _ refl _ (not_refused _ tt _ c.in_ok-judge_list.ensures) (subst (λ (m : ℕ). m ≤ c.args.k) n c.if-count-k.true)

pub slice_bounds-fields_of-count : goal.slice_bounds-fields_of-count
slice_bounds-fields_of-count c = within (goal.at.slice_bounds-fields_of-count c).Else-count-k

pub slice_bounds-fields_of-start : goal.slice_bounds-fields_of-start
slice_bounds-fields_of-start c = within (goal.at.slice_bounds-fields_of-start c).Else-count-k

pub returns : goal.returns
returns c =
    let e : c.from.result ≡ fix_of (fix_at _ _) = c.from.ensures ∙ ap fix_of (c.fields_of.ensures ∙ part_record _ _) in
    ap Ok e ∙ fix-there _ _ refl _ (not_refused _ tt _ c.in_ok-judge_list.ensures) (among (goal.at.returns c).Else-count-k)
