-- `carousel_step::announce::made_afresh` meets its contract: the bare record, with the marks that are kept.
use mathlib.Core.Path.{◌≡◌, ap}
use native.Mathlib.Omega.{arith}
use lib.ListN.{length}
use Rattle.carousel_messages.specs.Heard.{list_of, announced_in}
use Rattle.carousel_record.specs.declared.Carousel.{Carousel}
use Rattle.carousel_record.specs.Changes.{bare_record}
use Rattle.carousel_step.proofs.Laws.Afresh.{made_so}
use Rattle.carousel_step.proofs.announce.made_afresh.Goals as goal

pub kept_marks-marks-requires : goal.kept_marks-marks-requires
unfolding bare_record announced_in
kept_marks-marks-requires c =
    let n : c.bare-next.result.count ≡ length (list_of c.args.list.now) = ap (λ (r : Carousel). r.count) c.bare-next.ensures in
    (c.requires.0, omega (arith, c.requires.1, c.requires.2))

pub returns : goal.returns
returns c =
    made_so c.args.c (announced_in c.args.a c.args.list.now) _ _ c.bare-next.ensures c.kept_marks-marks.ensures
