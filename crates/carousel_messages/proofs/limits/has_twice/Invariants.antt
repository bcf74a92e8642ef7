-- `carousel_messages::limits::has_twice` meets its contract. The invariant: of the numbers left one comes twice just where one of all does.
use mathlib.Core.Path.{◌≡◌}
use lib.ListN.{drop}
use Rattle.carousel_messages.specs.Limits.{twice11}
use Rattle.carousel_messages.specs.Heard.{numbers_of}
use Rattle.carousel_messages.proofs.limits.has_twice.Given as goal

abbrev pub invariant-loop-i : goal.invariant-loop-i
invariant-loop-i l = twice11 (numbers_of (drop l.i l.modules)) ≡ twice11 (numbers_of l.modules)
