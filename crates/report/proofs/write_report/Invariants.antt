-- `write_report` meets its contract. The invariant: what is still to be put, put from here on, leaves what the whole text leaves.
use Prim.Native.Nat.{◌-◌, ◌≤◌}
use mathlib.Core.Path.{◌≡◌}
use mathlib.Core.Bool.{true}
use lib.ListN.{length, drop}
use Rattle.carousel_record.specs.Record.{ruled_of}
use Rattle.receiver.specs.Run.{runs}
use Rattle.text.proofs.Laws.Puts.{Writing}
use Rattle.report.specs.Report.{budget}
use Rattle.report.proofs.Laws.Lines.{text_from}
use Rattle.report.proofs.write_report.Given as goal

abbrev pub invariant-loop-stop : goal.invariant-loop-stop
invariant-loop-stop l =
    (l.passed ≤ length l.stretch) × (l.index ≤ budget) × (length l.image ≡ length l.initial.image) × (length l.out ≡ length l.initial.out) × (ruled_of l.c ≡ true)
    × Writing l.out l.at (text_from (budget - l.index) l.index l.c (drop l.passed l.stretch) l.image) l.initial.out l.initial.at (text_from budget 0 l.initial.c l.stretch l.initial.image)
    × ((runs (budget - l.index) l.c (drop l.passed l.stretch) l.image).image ≡ (runs budget l.initial.c l.stretch l.initial.image).image)

abbrev pub decreases-loop-stop : goal.decreases-loop-stop
decreases-loop-stop l = budget - l.index
