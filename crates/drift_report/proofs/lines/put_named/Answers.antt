-- `drift_report::lines::put_named` meets its contract: four pieces, one after another.
use Prim.Native.Nat.{ℕ}
use mathlib.Core.Path.{ap, ◌∙◌}
use Rattle.text.specs.Text.{codes, word_at, decimal}
use Rattle.drift_report.specs.Lines.{state_name}
use Rattle.text.proofs.Laws.Written.{first, then, then_as}
use Rattle.drift_report.proofs.Laws.Lines.{state-word}
use Rattle.drift_report.proofs.lines.put_named.Goals as goal

pub returns : goal.returns
returns c =
    let f = c.args.f in
    let name = ap (λ (k : ℕ). word_at k (codes "none fix last")) c.state_number.ensures ∙ state-word f.state in
    let p = then (first (decimal f.buoy) c.put_decimal-end.ensures) (codes ",") c.put-end.ensures in
    (then (then_as p _ (state_name f.state) name c.put_word-end.ensures) (codes ",") c.put.ensures).puts
