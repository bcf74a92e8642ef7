-- `ait_body::applications_refusal` meets its contract: the invariant is `Judging`.
use mathlib.Core.Path.{◌≡◌, refl, sym, ap, ◌∙◌}
use mathlib.Core.Logic.{inl}
use native.Mathlib.Omega.{arith}
use Prim.Native.Nat.{◌+◌, ◌≤◌}
use lib.ListN.{length, take, drop}
use Rattle.wire.specs.Items.{sized}
use Rattle.wire.specs.Outcomes.{passed}
use Rattle.wire.proofs.Laws.Frames.{rest_in}
use Rattle.wire.proofs.Laws.Sizes.{sized-has, sized-none}
use Rattle.wire.proofs.Laws.Outcomes.{refused_by_lem, not_refused}
use Rattle.wire.proofs.Laws.Loops.{tail, item-fits}
use Rattle.ait_descriptors.specs.Kinds.{application, size_of}
use Rattle.ait_descriptors.proofs.Laws.Kinds.{application_kind, application-least}
use Rattle.ait_body.specs.Body.{own_loop, own_refusal}
use Rattle.ait_body.proofs.Laws.Body.{eighteen_else}
use Rattle.ait_body.proofs.Laws.Applications.{judge_open, judge_bad, judge_eighteen, judge-turn, judge-done}
use Rattle.ait_body.proofs.applications_refusal.Goals as goal
use Rattle.ait_body.proofs.applications_refusal.Goals.{In-Some, After-own_refusal}

pub loop-n-init : goal.loop-n-init
loop-n-init c = (((omega arith, refl), (omega arith, refl)), inl (refl, (omega arith, refl)))

-- what the call answered: the size of the application at i, that it ends within the slice and has its nine bytes
size : (c : In-Some) → (c.in-Some.n ≡ application (drop c.loop-n.i c.args.s.now)) × (c.in-Some.n ≡ 0 → ⊥)
unfolding size_of
size c = sized-has _ _ (c.in-Some.ensures ∙ ap (λ l. sized (application l)) (tail c.args.s.now c.loop-n.i))

within : (c : In-Some) → c.loop-n.i + c.in-Some.n ≤ length c.args.s.now
within c = item-fits application application_kind c.args.s.now c.loop-n.i _ (size c).0 (omega arith)

nine : (c : In-Some) → 9 ≤ c.in-Some.n
nine c = let h = application-least _ (λ z. (size c).1 ((size c).0 ∙ z)) in omega (arith, (size c).0)

-- and what is said of its own loop
own : (c : After-own_refusal) → c.own_refusal.result ≡ passed (own_refusal (own_loop (take c.in-Some.n (drop c.loop-n.i c.args.s.now))))
own c =
    let q = (goal.at.After-own_refusal c).In-Some in
    c.own_refusal.ensures ∙ ap (λ l. passed (own_refusal l)) (rest_in c.args.s.now c.loop-n.i 9 c.in-Some.n (nine q) (within q))

pub overflow_add-e : goal.overflow_add-e
overflow_add-e c = omega (arith, within (goal.at.overflow_add-e c).In-Some)

pub slice_bounds-own_refusal-count : goal.slice_bounds-own_refusal-count
slice_bounds-own_refusal-count c = omega (arith, nine (goal.at.slice_bounds-own_refusal-count c).In-Some)

pub slice_bounds-own_refusal-start : goal.slice_bounds-own_refusal-start
slice_bounds-own_refusal-start c = omega (arith, nine (goal.at.slice_bounds-own_refusal-start c).In-Some)

pub slice_bounds-own_refusal-end : goal.slice_bounds-own_refusal-end
slice_bounds-own_refusal-end c = omega (arith, within (goal.at.slice_bounds-own_refusal-end c).In-Some)

pub returns-in-Err-eq7 : goal.returns-in-Err-eq7
returns-in-Err-eq7 c =
    let q = size (goal.at.returns-in-Err-eq7 c).In-Some in
    let k = refused_by_lem _ _ tt (sym c.in-Err-eq7.is ∙ own (goal.at.returns-in-Err-eq7 c).After-own_refusal) in
    ap passed (judge_bad _ _ _ q.0 _ c.loop-n.invariant q.1 _ k.0 c.in-Err-eq7.field-0-test)

pub loop-n-smaller-in-Err : goal.loop-n-smaller-in-Err
loop-n-smaller-in-Err c = let q = (goal.at.loop-n-smaller-in-Err c).In-Some in omega (arith, within q, nine q)

pub loop-n-preserved-in-Err : goal.loop-n-preserved-in-Err
loop-n-preserved-in-Err c =
    let q = size (goal.at.loop-n-preserved-in-Err c).In-Some in
    let k = refused_by_lem _ _ tt (sym c.in-Err.is ∙ own (goal.at.loop-n-preserved-in-Err c).After-own_refusal) in
    let e = eighteen_else _ _ k.0 (λ z. k.1 (sym k.0 ∙ z)) c.in-Err.k-test.1 in
    judge_eighteen _ _ _ q.0 _ c.loop-n.invariant q.1 _ k.0 c.in-Err.k-test.1 e

pub loop-n-smaller : goal.loop-n-smaller
loop-n-smaller c = let q = (goal.at.loop-n-smaller c).In-Some in omega (arith, within q, nine q)

pub loop-n-preserved : goal.loop-n-preserved
loop-n-preserved c =
    let q = size (goal.at.loop-n-preserved c).In-Some in
    let k = not_refused _ tt _ (sym c.in-Ok.is ∙ own (goal.at.loop-n-preserved c).After-own_refusal) in
    judge-turn _ _ _ q.0 _ c.loop-n.invariant q.1 0 (sym k) (omega arith) (omega arith)

pub returns-then-i-s : goal.returns-then-i-s
unfolding size_of
returns-then-i-s c =
    let z = sym (sized-none _ (c.in_default.ensures ∙ ap (λ l. sized (application l)) (tail c.args.s.now c.loop-n.i))) in
    ap passed (judge_open _ _ _ z _ c.loop-n.invariant (omega arith) refl)

pub returns : goal.returns
returns c = judge-done c.args.s.now c.loop-n.i _ (omega arith) c.loop-n.invariant
