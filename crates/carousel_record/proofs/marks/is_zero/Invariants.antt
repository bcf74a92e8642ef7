-- `carousel_record::marks::is_zero` meets its contract. The invariant: nothing is set in the words so far, taken together, nor in those left, just where all are clear.
use mathlib.Core.Path.{◌≡◌}
use mathlib.Core.Bool.{◌&&◌}
use lib.Dec.{eqb}
use lib.ListN.{drop}
use Rattle.carousel_record.specs.Marks.{clear_from}
use Rattle.carousel_record.proofs.marks.is_zero.Given as goal

abbrev pub invariant-loop-w : goal.invariant-loop-w
invariant-loop-w l = (eqb l.all 0 && clear_from 0 (drop l.w-index l.words)) ≡ clear_from 0 l.words
