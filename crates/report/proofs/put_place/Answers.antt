-- `put_place` meets its contract: a comma and, where there is one, the byte's number.
use mathlib.Core.Path.{sym, ap}
use Rattle.text.specs.Text.{codes, decimal}
use Rattle.text.proofs.Laws.Written.{first, then, said}
use Rattle.report.specs.Report.{place_field}
use Rattle.report.proofs.put_place.Goals as goal

pub returns-in-None : goal.returns-in-None
unfolding place_field
returns-in-None c =
    let put = c.put.ensures in
    said (first (codes ",") (put.0, put.1)) (sym (ap place_field c.in-None.is))

pub returns-in-Some : goal.returns-in-Some
unfolding place_field
returns-in-Some c =
    let put = c.put_decimal.ensures in
    let both = then (first (codes ",") c.put-end.ensures) (decimal c.in-Some.p) (put.0, put.1) in
    said both (sym (ap place_field c.in-Some.is))
