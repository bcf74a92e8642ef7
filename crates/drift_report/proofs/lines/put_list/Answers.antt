-- `drift_report::lines::put_list` meets its contract: three pieces, or five, one after another.
use Prim.Native.Nat.{ℕ}
use mathlib.Core.Path.{◌≡◌, ap, sym, ◌∙◌}
use mathlib.Core.List.{List}
use Rattle.text.specs.Text.{codes, decimal}
use Rattle.std.proofs.Common.{Ok}
use Rattle.drift_list.specs.declared.Heading.{Heading}
use Rattle.drift_list.specs.Values.{fix_of}
use Rattle.drift_list.specs.Reading.{fix_at}
use Rattle.drift_list.specs.Answers.{list_answer}
use Rattle.drift_report.specs.Lines.{list_header, fix_lines}
use Rattle.text.proofs.Laws.Written.{first, then, said}
use Rattle.drift_report.proofs.Laws.Pages.{heading-told, list-refused, list_read}
use Rattle.drift_report.proofs.lines.put_list.Goals as goal
use Rattle.drift_report.proofs.lines.put_list.Goals.{After-read, In-Ok}

-- the list
abbrev list_at_lem : After-read → List ℕ
list_at_lem c = c.args.list.now

-- it is read
read : (c : In-Ok) → list_answer (list_at_lem (goal.at.In-Ok c).After-read) ≡ Ok c.in-Ok.heading
read c = sym c.read.ensures ∙ c.in-Ok.is

pub put_fixes-requires : goal.put_fixes-requires
put_fixes-requires c =
    let t = heading-told (list_at_lem (goal.at.put_fixes-requires c).After-read) _ (read (goal.at.put_fixes-requires c).In-Ok) in
    (t.0, ap (λ (h : Heading). h.count) t.1)

pub returns-in-Err : goal.returns-in-Err
returns-in-Err c =
    let w = then (then (first (codes "list,") c.put-end.ensures) (decimal c.in-Err.n) c.put_decimal-end.ensures) (codes "\n") c.put.ensures in
    said w (list-refused (list_at_lem (goal.at.returns-in-Err c).After-read) c.in-Err.n (sym c.read.ensures ∙ c.in-Err.is))

pub returns-in-Ok : goal.returns-in-Ok
returns-in-Ok c =
    let s = list_at_lem (goal.at.returns-in-Ok c).After-read in
    let i = c.in-Ok.heading.issue in
    let n = c.in-Ok.heading.count in
    let p = then (first (codes "issue,") c.put-end-in-Ok.ensures) (decimal i) c.put_decimal-end-in-Ok.ensures in
    let q = then (then p (codes "\n") c.put-end-in-Ok-2.ensures) list_header c.put-end-in-Ok-3.ensures in
    said (then q (fix_lines n 0 (λ k. fix_of (fix_at s k))) c.put_fixes.ensures) (list_read s c.in-Ok.heading (read (goal.at.returns-in-Ok c).In-Ok))
