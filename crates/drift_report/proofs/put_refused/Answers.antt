-- `drift_report::put_refused` meets its contract, by whether the number is 20.
use mathlib.Core.Path.{ap}
use Rattle.text.specs.Text.{codes, decimal}
use Rattle.carousel_handout.specs.Calls.{report_of}
use Rattle.drift_report.specs.Page.{lack_text}
use Rattle.text.proofs.Laws.Written.{first, then, then_as, said}
use Rattle.drift_report.proofs.Laws.Pages.{refused-other, refused_twenty}
use Rattle.drift_report.proofs.put_refused.Goals as goal

pub returns-then-n-ne20 : goal.returns-then-n-ne20
returns-then-n-ne20 c =
    let a = c.args in
    let p = then (first (codes "handout,") c.put-end.ensures) (decimal a.n) c.put_decimal-end.ensures in
    said (then p (codes "\n") c.put.ensures) (refused-other a.c a.number a.n c.if-n-ne20.true)

pub returns : goal.returns
returns c =
    let a = c.args in
    let p = then (first (codes "handout,") c.put-end.ensures) (decimal a.n) c.put_decimal-end.ensures in
    let q = then_as p _ (lack_text (report_of a.c a.number)) (ap lack_text c.missing.ensures.0) c.put_lack-end.ensures in
    said (then q (codes "\n") c.put-2.ensures) (refused_twenty a.c a.number a.n c.if-n-ne20.false)
