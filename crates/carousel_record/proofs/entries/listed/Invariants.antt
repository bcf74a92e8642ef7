-- `carousel_record::entries::listed` meets its contract. The invariant: the first i are those of the entries.
use mathlib.Core.Path.{◌≡◌}
use mathlib.Core.List.{map}
use lib.ListN.{length, take}
use Rattle.carousel_messages.specs.Limits.{most_modules}
use Rattle.carousel_record.specs.Record.{listed_in}
use Rattle.carousel_record.proofs.entries.listed.Given as goal

abbrev pub invariant-loop-i : goal.invariant-loop-i
invariant-loop-i l = (length l.ls ≡ most_modules) × (take l.i l.ls ≡ take l.i (map listed_in l.ms))
