-- `transport::judge::judge_after` meets its contract: a repeat, in step, or a break.
use Prim.Native.Nat.{◌+◌, ◌%◌}
use mathlib.Core.Path.{◌≡◌, sym, ap, ap₂, ◌∙◌}
use mathlib.Core.Bool.{Bool, cond}
use lib.Dec.{eqb}
use Rattle.transport.specs.declared.Answer.{Answer}
use Rattle.transport.specs.declared.Answer.TheVariants as answer
use Rattle.transport.specs.Packet.{counter_of, view_of}
use Rattle.transport.specs.Feed.{weight}
use Rattle.transport.specs.Pieces.{judged_after}
use Rattle.transport.proofs.Laws.Judged.{after-some}
use Rattle.transport.proofs.judge.judge_after.Goals as goal
use Rattle.transport.proofs.judge.judge_after.Goals.{After-is_in_step, Start}

abbrev by-step : Start → Answer
by-step s = cond (eqb (counter_of s.args.p.now) ((counter_of s.args.last.now + weight (view_of s.args.p.now)) % 16)) answer.Taken answer.Broken

pub returns-then-is_repeat : goal.returns-then-is_repeat
returns-then-is_repeat c =
    sym (after-some c.args.p.now c.args.last.now c.requires ∙ ap (λ (t : Bool). cond t answer.Repeated (by-step (goal.at.returns-then-is_repeat c).Start)) (sym c.is_repeat.ensures
    ∙ c.if-is_repeat.true))

-- no repeat, and in step or not
told : (c : After-is_in_step) → (t : Bool) → c.is_in_step.result ≡ t → cond t answer.Taken answer.Broken ≡ judged_after c.args.last.now c.args.p.now
told c t e =
    sym
    (after-some c.args.p.now c.args.last.now c.requires
    ∙ ap₂ (λ (u w : Bool). cond u answer.Repeated (cond w answer.Taken answer.Broken)) (sym c.is_repeat.ensures ∙ c.if-is_repeat.false) (sym c.is_in_step.ensures ∙ e))

pub returns-then-is_in_step : goal.returns-then-is_in_step
returns-then-is_in_step c = told (goal.at.returns-then-is_in_step c).After-is_in_step _ c.if-is_in_step.true

pub returns : goal.returns
returns c = told (goal.at.returns c).After-is_in_step _ c.if-is_in_step.false
