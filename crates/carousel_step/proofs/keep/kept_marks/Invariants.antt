-- `carousel_step::keep::kept_marks` meets its contract. The invariant: the first j places have the words that are theirs, and all others none.
use mathlib.Core.Path.{◌≡◌}
use Rattle.carousel_record.specs.Record.{record_of}
use Rattle.carousel_step.proofs.Laws.Keeping.{kept_so_far}
use Rattle.carousel_step.proofs.keep.kept_marks.Given as goal

abbrev pub invariant-loop-j : goal.invariant-loop-j
invariant-loop-j l = l.marks ≡ kept_so_far (record_of l.fn.c) (record_of l.fn.next) l.j
