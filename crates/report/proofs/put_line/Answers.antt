-- `put_line` meets its contract: seven pieces, one after another.
use Prim.Native.Nat.{ℕ}
use mathlib.Core.Path.{ap, ◌∙◌}
use Rattle.text.specs.Text.{codes, word_at, decimal}
use Rattle.receiver.specs.Run.{number_of_fate, place_of_fate}
use Rattle.report.specs.Report.{kind_name, place_field}
use Rattle.text.proofs.Laws.Written.{first, then, then_as}
use Rattle.report.proofs.Laws.Names.{kind-word}
use Rattle.report.proofs.put_line.Goals as goal

pub returns : goal.returns
returns c =
    let a = c.args in
    let said = ap (λ (k : ℕ). word_at k (codes "none table new same stored repeated")) c.kind_number-kind.ensures ∙ kind-word a.fate in
    let o = first (decimal a.index) c.put_decimal-end.ensures in
    let p = then o (codes ",") c.put-end.ensures in
    let q = then_as p _ (decimal (number_of_fate a.fate)) (ap decimal c.fate_number-number.ensures) c.put_decimal-end-2.ensures in
    let r = then q (codes ",") c.put-end-2.ensures in
    let s = then_as r _ (kind_name a.fate) said c.put_word-end.ensures in
    let t = then_as s _ (place_field (place_of_fate a.fate)) (ap place_field c.fate_place.ensures) c.put_place-end.ensures in
    let told = c.put.ensures in
    (then t (codes "\n") (told.0, told.1)).puts
