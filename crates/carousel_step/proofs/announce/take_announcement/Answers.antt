-- `carousel_step::announce::take_announcement` meets its contract: "same" changes nothing, "new" makes the record afresh.
use mathlib.Core.Path.{sym, ap, ◌∙◌}
use Rattle.carousel_messages.specs.Heard.{announced_in}
use Rattle.carousel_record.specs.Record.{record_of}
use Rattle.carousel_step.specs.Step.{StepOutcome, returning}
use Rattle.carousel_step.proofs.Laws.Outcomes.{announced-same, announced-new}
use Rattle.carousel_step.proofs.announce.take_announcement.Goals as goal

pub returns-then-is_same : goal.returns-then-is_same
returns-then-is_same c =
    sym (ap (λ (o : StepOutcome). returning c.args.c o)
    (announced-same (record_of c.args.c) (announced_in c.args.a c.args.list.now) (sym c.is_same.ensures ∙ c.if-is_same.true)))

pub returns : goal.returns
returns c =
    let o = announced-new (record_of c.args.c) (announced_in c.args.a c.args.list.now) (sym c.is_same.ensures ∙ c.if-is_same.false) in
    rw (o, c.made_afresh-next.ensures)
