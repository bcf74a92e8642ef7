-- `drift_list::walk_at` meets its contract.
use Prim.Native.Nat.{◌+◌, ◌*◌, ◌<◌, ◌≤◌}
use mathlib.Core.Path.{◌≡◌, sym, ap, ◌∙◌}
use native.Mathlib.Omega.{arith}
use lib.ListN.{length}
use Rattle.std.proofs.lemmas.Result.{err_from_is_err_and}
use Rattle.std.proofs.Common.{Ok}
use Rattle.wire.proofs.Laws.Outcomes.{refused_by_lem, not_refused}
use Rattle.drift_list.specs.Values.{fix_of}
use Rattle.drift_list.specs.Reading.{fix_at}
use Rattle.wire.proofs.Laws.Bits.{bits_at_lt}
use Rattle.drift_list.proofs.Answers.{walk_refused, walk-there, walk-within}
use Rattle.drift_list.proofs.Laws.Words.{part_record}
use Rattle.drift_list.proofs.walk_at.Goals as goal
use Rattle.drift_list.proofs.walk_at.Goals.{In_ok-judge_walk}

within : (c : In_ok-judge_walk) → 4 + 12 * c.args.k ≤ length c.args.list.now
within c =
    let w = walk-within _ _ (not_refused _ tt _ c.in_ok-judge_walk.ensures) in
    let e = w.0 in
    let l = w.1 in
    omega (arith, e, l)

small : (c : In_ok-judge_walk) → c.args.k < 65536
small c =
    let w = walk-within _ _ (not_refused _ tt _ c.in_ok-judge_walk.ensures) in
    let l = w.1 in
    let b = bits_at_lt 16 c.args.list.now 16 in
    omega (arith, l, b)

pub returns-in_err-judge_walk : goal.returns-in_err-judge_walk
returns-in_err-judge_walk c =
    let p = err_from_is_err_and c.from_residual.result c.from_residual.ensures.1 in
    let w = refused_by_lem _ _ tt c.in_err-judge_walk.ensures in
    rw (p.1, p.2) (walk_refused _ _ _ w.0 (λ z. w.1 (sym w.0 ∙ z)))

pub overflow_mul-k : goal.overflow_mul-k
overflow_mul-k c = let l = small (goal.at.overflow_mul-k c).In_ok-judge_walk in record { fits = omega (arith, l) }

pub overflow_add-k : goal.overflow_add-k
overflow_add-k c = let l = small (goal.at.overflow_add-k c).In_ok-judge_walk in record { fits = omega (arith, l) }

pub slice_bounds-fields_of-count : goal.slice_bounds-fields_of-count
slice_bounds-fields_of-count c = within (goal.at.slice_bounds-fields_of-count c).In_ok-judge_walk

pub slice_bounds-fields_of-start : goal.slice_bounds-fields_of-start
slice_bounds-fields_of-start c = within (goal.at.slice_bounds-fields_of-start c).In_ok-judge_walk

pub returns : goal.returns
returns c =
    let e : c.from.result ≡ fix_of (fix_at _ _) = c.from.ensures ∙ ap fix_of (c.fields_of.ensures ∙ part_record _ _) in
    ap Ok e ∙ walk-there _ _ (not_refused _ tt _ c.in_ok-judge_walk.ensures)
