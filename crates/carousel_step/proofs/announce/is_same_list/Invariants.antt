-- `carousel_step::announce::is_same_list` meets its contract. The invariant: what is left is the same just where all is, and the announced modules that are left begin at byte `at`.
use mathlib.Core.Path.{◌≡◌}
use mathlib.Core.List.{map}
use lib.ListN.{drop, take}
use Rattle.carousel_messages.specs.Heard.{list_of}
use Rattle.carousel_messages.proofs.Laws.Reading.{Reading}
use Rattle.carousel_record.specs.Record.{listed_in}
use Rattle.carousel_step.specs.Step.{same_modules}
use Rattle.carousel_step.proofs.announce.is_same_list.Given as goal

abbrev pub invariant-loop-i : goal.invariant-loop-i
invariant-loop-i l =
    (same_modules (drop l.i (map listed_in (take l.n l.ms))) (drop l.i (list_of l.list)) ≡ same_modules (map listed_in (take l.n l.ms)) (list_of l.list)) × (Reading l.list l.i l.at)
