-- `drift_report::lines::put_fixes` meets its contract. The invariant: the lines of the records that are left, put from here on, leave what all of them leave.
use Prim.Native.Nat.{◌+◌, ◌-◌, ◌<◌}
use mathlib.Core.Path.{◌≡◌, refl, sym, ap, ◌∙◌}
use native.Mathlib.Omega.{arith}
use Rattle.std.proofs.Common.{Ok}
use Rattle.drift_list.specs.Reading.{count_of}
use Rattle.text.proofs.Laws.Puts.{puts-same, writing-on, writing-done}
use Rattle.drift_list.proofs.Walk.{walk-found}
use Rattle.drift_report.specs.Lines.{fix_line, fix_lines}
use Rattle.text.proofs.Laws.Written.{starts}
use Rattle.drift_list.proofs.Answers.{found-same}
use Rattle.drift_report.proofs.Laws.Lines.{lines-all, lines-done, lines-on}
use Rattle.drift_report.proofs.lines.put_fixes.Invariants.{fixes}
use Rattle.drift_report.proofs.lines.put_fixes.Goals as goal
use Rattle.drift_report.proofs.lines.put_fixes.Goals.{After-walk_at}

-- the walk finds the record
found : (c : After-walk_at) → c.walk_at.result ≡ Ok (fixes c.args.list.now c.loop-k.k)
found c =
    let l = c.loop-k in
    let h : l.k < count_of c.args.list.now = omega (arith, c.loop-k-test.true, c.requires.1) in
    c.walk_at.ensures ∙ walk-found c.args.list.now l.k c.requires.0 h

pub loop-k-init : goal.loop-k-init
loop-k-init c = let a = c.args in (refl, starts a.out.now a.at _ _ (lines-all a.count (fixes a.list.now)))

pub returns-in_default : goal.returns-in_default
returns-in_default c = absurd (c.in_default.not-Ok _ (found (goal.at.returns-in_default c).After-walk_at))

pub loop-k-preserved : goal.loop-k-preserved
loop-k-preserved c =
    let l = c.loop-k in
    let a = c.args in
    let s = a.list.now in
    let same = found-same _ _ (sym (found (goal.at.loop-k-preserved c).After-walk_at) ∙ c.in-Ok.is) in
    let line = puts-same l.out l.end (fix_line c.in-Ok.fix) (fix_line (fixes s l.k)) _ _ (ap fix_line (sym same)) c.put_fix-end.ensures in
    let all = fix_lines a.count 0 (fixes s) in
    let rest = fix_lines (a.count - (l.k + 1)) (l.k + 1) (fixes s) in
    let next = lines-on a.count l.k (fixes s) (omega (arith, c.loop-k-test.true)) in (
      c.put_fix-end.auto.out ∙ l.invariant.0,
      writing-on l.out l.end _ a.out.now a.at all (fix_line (fixes s l.k)) rest _ _ l.invariant.1 next line,
    )

pub shape_of-out : goal.shape_of-out
shape_of-out c = c.loop-k.invariant.0

pub returns : goal.returns
returns c =
    let a = c.args in
    let l = c.loop-k in
    let s = a.list.now in
    writing-done l.out l.end _ a.out.now a.at (fix_lines a.count 0 (fixes s)) l.invariant.1 (lines-done a.count l.k (fixes s) (omega arith))
