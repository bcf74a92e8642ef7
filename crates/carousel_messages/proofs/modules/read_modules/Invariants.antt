-- `carousel_messages::modules::read_modules` meets its contract. The invariant: the first i are those of the list, and the others begin at byte `at`.
use mathlib.Core.Path.{◌≡◌}
use lib.ListN.{length, take}
use Rattle.carousel_messages.specs.Limits.{most_modules}
use Rattle.carousel_messages.specs.Heard.{list_of}
use Rattle.carousel_messages.proofs.Laws.Reading.{Reading}
use Rattle.carousel_messages.proofs.modules.read_modules.Given as goal

abbrev pub invariant-loop-i : goal.invariant-loop-i
invariant-loop-i l = (length l.ms ≡ most_modules) × (take l.i l.ms ≡ take l.i (list_of l.list)) × (Reading l.list l.i l.at)
