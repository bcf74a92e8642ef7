-- `carousel_record::marks::is_clear_from` meets its contract. The invariant: the words left have no mark from what is left of n on just where all have none from n on.
use mathlib.Core.Path.{◌≡◌}
use lib.ListN.{drop}
use Rattle.carousel_record.specs.Marks.{clear_from}
use Rattle.carousel_record.proofs.marks.is_clear_from.Given as goal

abbrev pub invariant-loop-i : goal.invariant-loop-i
invariant-loop-i l = clear_from l.left (drop l.i l.words) ≡ clear_from l.n l.words
