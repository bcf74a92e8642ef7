-- `receiver::run` meets its contract. The invariant: the record in its parts is whole and keeps its rule, and the run from here on, after what was taken and passed, is the run of the
-- whole.
use Prim.Native.Nat.{◌-◌, ◌≤◌}
use mathlib.Core.Path.{◌≡◌}
use lib.ListN.{length, drop}
use Rattle.carousel_record.specs.Record.{joined_of}
use Rattle.receiver.specs.Run.{runs}
use Rattle.receiver.proofs.Laws.Runs.{ahead}
use Rattle.receiver.proofs.Laws.Held.{Whole}
use Rattle.receiver.proofs.run.Given as goal

abbrev pub invariant-loop-taken : goal.invariant-loop-taken
invariant-loop-taken l =
    (l.passed ≤ length l.stretch)
    × (l.taken ≤ l.budget)
    × (length l.image ≡ length l.initial.image)
    × (Whole l.h l.ms l.numbers l.marks)
    × (ahead l.taken l.passed (runs (l.budget - l.taken) (joined_of l.h l.ms l.marks) (drop l.passed l.stretch) l.image) ≡ runs l.budget
    (joined_of l.initial.h l.initial.ms l.initial.marks) l.stretch l.initial.image)
