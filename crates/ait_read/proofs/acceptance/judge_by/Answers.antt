-- `ait_read::acceptance::judge_by` meets its contract.
use mathlib.Core.Path.{◌≡◌, sym, ap, ◌∙◌}
use Rattle.std.proofs.Common.{rules, Ok, Err}
use native.Mathlib.Omega.{arith}
use Prim.Native.Nat.{ℕ, ◌≤◌}
use lib.ListN.{length}
use Rattle.wire.specs.Outcomes.{passed}
use Rattle.wire.proofs.Laws.Outcomes.{refused_by_lem, not_refused}
use Rattle.section.proofs.Laws.Exact.{accepted-long, body_part}
use Rattle.section.specs.Header.{body_of}
use Rattle.section.specs.declared.Rules.TheVariants.{Application}
use Rattle.section.specs.Answer.{refused, checked_by}
use Rattle.ait_body.specs.Body.{body_refusal}
use Rattle.ait_read.proofs.Laws.Acceptance.{judged-refused, judged_bad, judged-good}
use Rattle.ait_read.proofs.acceptance.judge_by.Goals as goal
use Rattle.ait_read.proofs.acceptance.judge_by.Goals.{In_ok-header, After-body_refusal}

-- what the calls answered
told : (c : In_ok-header) → checked_by c.args.register Application c.args.s.now ≡ Ok c.in_ok-header.header
told c = sym c.check_by.ensures.0 ∙ c.in_ok-header.was

long : (c : In_ok-header) → 12 ≤ length c.args.s.now
long c = accepted-long _ Application _ _ (told c)

body : (c : After-body_refusal) → c.body_refusal.result ≡ passed (body_refusal (body_of c.args.s.now))
body c = c.body_refusal.ensures ∙ ap (λ b. passed (body_refusal b)) (body_part c.args.s.now)

pub returns-in_err-header : goal.returns-in_err-header
returns-in_err-header c =
    let r : c.from_residual.result ≡ Err c.in_err-header.field-0.0 = search rules in
    r ∙ judged-refused _ _ _ (sym c.check_by.ensures.0 ∙ c.in_err-header.was)

pub overflow_sub-e : goal.overflow_sub-e
overflow_sub-e c = omega (arith, long (goal.at.overflow_sub-e c).In_ok-header)

pub slice_bounds-body_refusal-count : goal.slice_bounds-body_refusal-count
slice_bounds-body_refusal-count c = omega (arith, long (goal.at.slice_bounds-body_refusal-count c).In_ok-header)

pub slice_bounds-body_refusal-start : goal.slice_bounds-body_refusal-start
slice_bounds-body_refusal-start c = omega (arith, long (goal.at.slice_bounds-body_refusal-start c).In_ok-header)

pub returns-in-Err : goal.returns-in-Err
returns-in-Err c =
    let b = refused_by_lem _ _ tt (sym c.in-Err.is ∙ body (goal.at.returns-in-Err c).After-body_refusal) in
    ap (λ (n : ℕ). Err (refused n)) b.0 ∙ judged_bad _ _ _ (told (goal.at.returns-in-Err c).In_ok-header) b.1

pub returns : goal.returns
returns c =
    let z = not_refused _ tt _ (sym c.in_default.is ∙ body (goal.at.returns c).After-body_refusal) in
    judged-good _ _ _ (told (goal.at.returns c).In_ok-header) z
