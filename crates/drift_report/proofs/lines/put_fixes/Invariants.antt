-- `drift_report::lines::put_fixes` meets its contract. The invariant: the lines of the records that are left, put from here on, leave what all of them leave.
use Prim.Native.Nat.{ℕ, ◌-◌}
use mathlib.Core.Path.{◌≡◌}
use mathlib.Core.List.{List}
use lib.ListN.{length}
use Rattle.drift_list.specs.declared.Fix.{Fix}
use Rattle.drift_list.specs.Values.{fix_of}
use Rattle.drift_list.specs.Reading.{fix_at}
use Rattle.text.proofs.Laws.Puts.{Writing}
use Rattle.drift_report.specs.Lines.{fix_lines}
use Rattle.drift_report.proofs.lines.put_fixes.Given as goal

-- the records of a list, by number
abbrev pub fixes : List ℕ → ℕ → Fix
fixes s k = fix_of (fix_at s k)

abbrev pub invariant-loop-k : goal.invariant-loop-k
invariant-loop-k l = (length l.out ≡ length l.initial.out) × Writing l.out l.end (fix_lines (l.count - l.k) l.k (fixes l.list)) l.initial.out l.at (fix_lines l.count 0
    (fixes l.list))
