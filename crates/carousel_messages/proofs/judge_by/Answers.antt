-- `carousel_messages::judge_by` meets its contract.
use mathlib.Core.Path.{◌≡◌, sym, ap, ◌∙◌}
use native.Mathlib.Omega.{arith}
use Rattle.std.proofs.Common.{Ok, Err, rules}
use Prim.Native.Nat.{◌≤◌}
use lib.ListN.{length}
use Rattle.section.specs.declared.Rules.TheVariants.{Carousel}
use Rattle.section.specs.Answer.{checked_by}
use Rattle.section.proofs.Laws.Exact.{accepted-long, body_part}
use Rattle.carousel_messages.specs.Judged.{message_judged}
use Rattle.carousel_messages.proofs.Laws.Refusals.{judged-refused, judged-message}
use Rattle.carousel_messages.proofs.judge_by.Goals as goal
use Rattle.carousel_messages.proofs.judge_by.Goals.{In_ok-header}

-- what the check answered
told : (c : In_ok-header) → checked_by c.args.register Carousel c.args.s.now ≡ Ok c.in_ok-header.header
told c = sym c.check_by.ensures.0 ∙ c.in_ok-header.was

long : (c : In_ok-header) → 12 ≤ length c.args.s.now
long c = accepted-long _ Carousel _ _ (told c)

pub overflow_sub-e : goal.overflow_sub-e
overflow_sub-e c = omega (arith, long (goal.at.overflow_sub-e c).In_ok-header)

pub slice_bounds-judge_message-count : goal.slice_bounds-judge_message-count
slice_bounds-judge_message-count c = omega (arith, long (goal.at.slice_bounds-judge_message-count c).In_ok-header)

pub slice_bounds-judge_message-start : goal.slice_bounds-judge_message-start
slice_bounds-judge_message-start c = omega (arith, long (goal.at.slice_bounds-judge_message-start c).In_ok-header)

pub returns-in_err-header : goal.returns-in_err-header
returns-in_err-header c =
    let r : c.from_residual.result ≡ Err c.in_err-header.field-0.0 = search rules in
    r ∙ judged-refused _ _ _ (sym c.check_by.ensures.0 ∙ c.in_err-header.was)

pub returns : goal.returns
returns c =
    let s = c.args.s.now in
    c.judge_message.ensures ∙ ap (message_judged _ _) (body_part s) ∙ judged-message _ s _ (told (goal.at.returns c).In_ok-header)
