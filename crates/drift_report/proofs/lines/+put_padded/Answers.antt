-- `drift_report::lines::put_padded` meets its contract: the digits of a tenth, and then the last.
use Prim.Native.Nat.{◌-◌, ◌/◌, ◌%◌}
use mathlib.Core.Path.{sym}
use Rattle.text.specs.Text.{decimal}
use Rattle.drift_report.specs.Lines.{padded}
use Rattle.text.proofs.Laws.Written.{first, then, said, nothing}
use Rattle.drift_report.proofs.Laws.Numbers.{padded-none, padded-more}
use Rattle.drift_report.proofs.lines.+put_padded.Goals as goal

pub returns-then-width-eq0 : goal.returns-then-width-eq0
returns-then-width-eq0 t c =
    let a = c.args in
    nothing a.out.now a.at (padded a.width a.n) (padded-none a.width a.n c.if-width-eq0.true)

pub returns : goal.returns
returns t c =
    let a = c.args in
    let w = then (first (padded (a.width - 1) (a.n / 10)) c.put_padded-end.ensures) (decimal (a.n % 10)) c.put_decimal.ensures in
    said w (sym (padded-more a.width a.n c.if-width-eq0.false))
