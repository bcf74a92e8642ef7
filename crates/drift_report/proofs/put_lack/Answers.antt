-- `drift_report::put_lack` meets its contract: four pieces, one after another; nothing where no block is missing.
use mathlib.Core.Path.{ap, sym, ◌∙◌}
use Rattle.std.proofs.Common.{Ok}
use Rattle.text.specs.Text.{codes, decimal}
use Rattle.drift_report.specs.Page.{lack_text}
use Rattle.text.proofs.Laws.Written.{first, then, said, nothing}
use Rattle.drift_report.proofs.put_lack.Goals as goal

pub returns-in-Err : goal.returns-in-Err
unfolding lack_text
returns-in-Err c =
    let a = c.args in
    nothing a.out.now a.at (lack_text a.report) (ap lack_text c.in-Err.is)

pub returns-in-Ok-None : goal.returns-in-Ok-None
unfolding lack_text
returns-in-Ok-None c =
    let a = c.args in
    nothing a.out.now a.at (lack_text a.report) (ap lack_text (c.in-Ok-None.is ∙ ap Ok (rw c.in-Ok-None.is at c.in-Ok-None.field-0-is)))

pub returns-in-Ok-Some : goal.returns-in-Ok-Some
unfolding lack_text
returns-in-Ok-Some c =
    let lack = c.in-Ok-Some.lack in
    let p = first (codes ",") c.put-end.ensures in
    let q = then p (decimal lack.count) c.put_decimal-end.ensures in
    let r = then q (codes ",") c.put-end-in-Ok-Some.ensures in
    let told = c.put_decimal.ensures in
    let s = then r (decimal lack.lowest) (told.0, told.1) in
    said s (sym (ap lack_text (c.in-Ok-Some.is ∙ ap Ok (rw c.in-Ok-Some.is at c.in-Ok-Some.field-0-is))))
