-- `receiver::take` meets its contract: "state" first, then the stops, then one section.
use mathlib.Core.Path.{◌≡◌, sym, ap, ◌∙◌}
use mathlib.Core.Bool.{true}
use lib.ListN.{take}
use lib.Seq.{length-take-le}
use Rattle.wire.proofs.Laws.Sizes.{sized-none, sized-has}
use Rattle.carousel_record.specs.Record.{ruled_of}
use Rattle.receiver.specs.Run.{stopped_by, image_given}
use Rattle.receiver.specs.declared.Stop.{Stop}
use Rattle.receiver.proofs.Laws.Runs.{took-state, took-stop, took-budget, took_one_lem, taken_is}
use Rattle.receiver.proofs.Laws.Takes.{took-said}
use Rattle.receiver.proofs.take.Goals as goal
use Rattle.receiver.proofs.take.Goals.{Else-not-is_ruled}

ruled : (c : Else-not-is_ruled) → ruled_of c.args.c ≡ true
ruled c = sym c.is_ruled.ensures ∙ c.if-not-is_ruled.false

pub returns-then-not-is_ruled : goal.returns-then-not-is_ruled
returns-then-not-is_ruled c =
    let s = c.args in
    let p = took-state s.c s.stretch.now s.image.now s.budget (sym c.is_ruled.ensures ∙ c.if-not-is_ruled.true) in
    took-said s.c s.stretch.now s.image.now s.budget _ _ (c.stopped.ensures ∙ sym p.0, sym p.1)

pub returns-in_default : goal.returns-in_default
returns-in_default c =
    let s = c.args in
    let p = took-stop s.c s.stretch.now s.image.now s.budget (ruled (goal.at.returns-in_default c).Else-not-is_ruled) (sized-none _ c.in_default.ensures.0) in
    took-said s.c s.stretch.now s.image.now s.budget _ _ (c.stopped-in_default.ensures ∙ ap (λ (x : Stop). stopped_by s.c x) c.stop_at.ensures ∙ sym p.0, sym p.1)

pub returns-then-budget-eq0 : goal.returns-then-budget-eq0
returns-then-budget-eq0 c =
    let s = c.args in
    let n = sized-has _ _ c.in-Some.ensures.0 in
    let p = took-budget s.c s.stretch.now s.image.now s.budget (ruled (goal.at.returns-then-budget-eq0 c).Else-not-is_ruled)
    (λ z. n.1 (n.0 ∙ z)) c.if-budget-eq0.true in
    took-said s.c s.stretch.now s.image.now s.budget _ _ (c.stopped-then-budget-eq0.ensures ∙ ap (λ (x : Stop). stopped_by s.c x) c.stop_at-then-budget-eq0.ensures ∙ sym p.0, sym p.1)

pub slice_bounds-give-end : goal.slice_bounds-give-end
slice_bounds-give-end c = sym (length-take-le _ _ c.in-Some.ensures.1)

pub returns : goal.returns
returns c =
    let s = c.args in
    let e = sized-has _ _ c.in-Some.ensures.0 in
    let g = c.give-g.ensures in
    let p = took_one_lem s.c s.stretch.now s.image.now s.budget (ruled (goal.at.returns c).Else-not-is_ruled) (λ z. e.1 (e.0 ∙ z)) c.if-budget-eq0.false in
    took-said s.c s.stretch.now s.image.now s.budget _ _ (
      taken_is s.c s.stretch.now s.image.now _ _ _ _ e.0 g.0 p.0,
      g.1
          ∙ ap (λ n. image_given s.c (take n s.stretch.now) s.image.now) e.0 ∙ sym p.1,
    )
