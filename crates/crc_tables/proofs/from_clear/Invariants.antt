-- `crc_tables::from_clear` meets its contract. The invariant: what is added so far, with what the rest leaves, is what all of it leaves.
use mathlib.Core.Path.{◌≡◌}
use lib.ListN.{drop}
use Rattle.crc_tables.specs.By.{◌⊕◌, from_clear}
use Rattle.crc_tables.proofs.from_clear.Given as goal

abbrev pub invariant-loop-i : goal.invariant-loop-i
invariant-loop-i l = l.x ⊕ from_clear l.t (drop l.i l.s) ≡ from_clear l.t l.s
