-- `carousel_record::entries::place_in` meets its contract. The invariant: the place of the number among those left, from here on, is the same as at the start.
use mathlib.Core.Path.{◌≡◌}
use Prim.Native.Nat.{◌+◌}
use lib.ListN.{drop}
use Rattle.carousel_record.specs.Record.{place_among}
use Rattle.carousel_record.proofs.entries.place_in.Given as goal

abbrev pub invariant-loop-i : goal.invariant-loop-i
invariant-loop-i l = l.i + place_among l.number (drop l.i l.used) ≡ place_among l.number l.used
