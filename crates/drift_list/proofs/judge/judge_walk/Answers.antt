-- `drift_list::judge::judge_walk` meets its contract.
use Prim.Native.Nat.{ℕ, ◌+◌, ◌*◌, ◌<◌, ◌≤◌}
use mathlib.Core.Path.{◌≡◌, refl, sym, ap, subst, ◌∙◌}
use native.Mathlib.Omega.{arith}
use Rattle.wire.specs.Outcomes.{passed}
use lib.ListN.{length}
use Rattle.drift_list.specs.Reading.{count_of}
use Rattle.drift_list.proofs.Exact.{count-sixteen}
use Rattle.drift_list.proofs.Answers.{asked, walk-30, walk-19, walk-own}
use Rattle.drift_list.proofs.judge.judge_walk.Goals as goal
use Rattle.drift_list.proofs.judge.judge_walk.Goals.{After-sixteen_at-count, Else-count-k, Else-s-count}

-- the count that was read
counted : (c : After-sixteen_at-count) → c.sixteen_at-count.result ≡ count_of c.args.s.now
counted c = c.sixteen_at-count.ensures.0 ∙ sym (count-sixteen c.args.s.now (λ k. (c.shared_slice_known-1.given k).fits))

-- the length is right, and the record among them
exact : (c : Else-s-count) → length c.args.s.now ≡ 4 + 12 * count_of c.args.s.now
exact c = c.if-s-count.false ∙ ap (λ (n : ℕ). 4 + 12 * n) (counted (goal.at.Else-s-count c).After-sixteen_at-count)

among : (c : Else-count-k) → c.args.k < count_of c.args.s.now
among c = subst (λ (m : ℕ). c.args.k < m) (counted (goal.at.Else-count-k c).After-sixteen_at-count) c.if-count-k.false

within : (c : Else-count-k) → 4 + 12 * c.args.k ≤ length c.args.s.now
within c = let e = exact (goal.at.Else-count-k c).Else-s-count in let l = among c in omega (arith, e, l)

pub returns-then-s-count : goal.returns-then-s-count
returns-then-s-count c = ap passed (sym (walk-30 _ _ (λ e. c.if-s-count.true (e ∙ ap (λ (n : ℕ). 4 + 12 * n) (sym (counted (goal.at.returns-then-s-count c).After-sixteen_at-count))))))

pub returns-then-count-k : goal.returns-then-count-k
returns-then-count-k c = ap passed (sym (walk-19 _ _ (exact (goal.at.returns-then-count-k c).Else-s-count) (subst (λ (m : ℕ). m ≤ c.args.k)
    (counted (goal.at.returns-then-count-k c).After-sixteen_at-count) c.if-count-k.true)))

pub buoy_before-requires : goal.buoy_before-requires
buoy_before-requires c = within (goal.at.buoy_before-requires c).Else-count-k

pub slice_bounds-judge_record-count : goal.slice_bounds-judge_record-count
slice_bounds-judge_record-count c = within (goal.at.slice_bounds-judge_record-count c).Else-count-k

pub slice_bounds-judge_record-start : goal.slice_bounds-judge_record-start
slice_bounds-judge_record-start c = within (goal.at.slice_bounds-judge_record-start c).Else-count-k

pub returns : goal.returns
returns c =
    c.judge_record.ensures
    ∙ ap passed (asked _ _ _ _ c.buoy_before.ensures refl ∙ sym (walk-own _ _ (exact (goal.at.returns c).Else-s-count) (among (goal.at.returns c).Else-count-k)))
