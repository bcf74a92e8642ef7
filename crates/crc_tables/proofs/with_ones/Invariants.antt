-- `crc_tables::with_ones` meets its contract. The invariant: the register so far, carried over what is left, is what all of it leaves.
use mathlib.Core.Path.{◌≡◌}
use lib.ListN.{drop}
use Rattle.crc_tables.specs.By.{ones}
use Rattle.crc_tables.proofs.with_ones.Given as goal

abbrev pub invariant-loop-b : goal.invariant-loop-b
invariant-loop-b l = ones l.t l.x (drop l.b-index l.s) ≡ ones l.t l.r l.s
