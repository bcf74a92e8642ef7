-- `carousel_step::announce::bare` meets its contract. The invariant: the record has the first i modules, `sum` is their sizes together, and the others begin at byte `at`.
use mathlib.Core.Path.{◌≡◌}
use Rattle.carousel_messages.specs.Heard.{list_of}
use Rattle.carousel_messages.proofs.Laws.Reading.{Reading}
use Rattle.carousel_step.proofs.Laws.Afresh.{filled, before}
use Rattle.carousel_step.proofs.announce.bare.Given as goal

abbrev pub invariant-loop-i : goal.invariant-loop-i
invariant-loop-i l = (l.sum ≡ before (list_of l.list) l.i) × (l.next ≡ filled l.fn.a (list_of l.list) l.i) × (Reading l.list l.i l.at)
