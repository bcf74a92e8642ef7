-- `put_stop` meets its contract: three pieces, one after another.
use Prim.Native.Nat.{ℕ}
use mathlib.Core.Path.{ap, ◌∙◌}
use mathlib.Core.List.{◌++◌}
use Rattle.text.specs.Text.{codes, word_at}
use Rattle.text.proofs.Laws.Puts.{puts_then, puts-same}
use Rattle.report.specs.Report.{stop_name}
use Rattle.report.proofs.Laws.Names.{stop-word}
use Rattle.report.proofs.put_stop.Goals as goal

pub returns : goal.returns
returns c =
    let a = c.args in
    let p = c.put-end in
    let w = c.put_word-end in
    let said = ap (λ (k : ℕ). word_at k (codes "- end stuffing short budget state")) c.stop_number-number.ensures ∙ stop-word a.stop in
    let name = puts-same p.new.out p.result _ (stop_name a.stop) w.new.out w.result said w.ensures in
    let rest = puts_then p.new.out p.result (stop_name a.stop) (codes "\n") w.new.out _ w.result _ name c.put.ensures in
    puts_then a.out.now a.at (codes "stop,") (stop_name a.stop ++ codes "\n") p.new.out _ p.result _ p.ensures rest
