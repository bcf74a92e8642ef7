-- `carousel_messages::limits::place_from` meets its contract. The invariant: the place of the number among those left, from here on, is the same as at the start.
use mathlib.Core.Path.{◌≡◌}
use Prim.Native.Nat.{◌+◌}
use lib.ListN.{drop}
use Rattle.carousel_messages.specs.Heard.{place_in}
use Rattle.carousel_messages.proofs.limits.place_from.Given as goal

abbrev pub invariant-loop-i : goal.invariant-loop-i
invariant-loop-i l = l.i + place_in l.number (drop l.i l.modules) ≡ l.from + place_in l.number (drop l.from l.modules)
