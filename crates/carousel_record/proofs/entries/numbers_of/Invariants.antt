-- `carousel_record::entries::numbers_of` meets its contract. The invariant: the first i are those of the entries.
use mathlib.Core.Path.{◌≡◌}
use mathlib.Core.List.{map}
use lib.ListN.{length, take}
use Rattle.carousel_messages.specs.Limits.{most_modules}
use Rattle.carousel_record.specs.Record.{number_in}
use Rattle.carousel_record.proofs.entries.numbers_of.Given as goal

abbrev pub invariant-loop-i : goal.invariant-loop-i
invariant-loop-i l = (length l.ns ≡ most_modules) × (take l.i l.ns ≡ take l.i (map number_in l.ms))
