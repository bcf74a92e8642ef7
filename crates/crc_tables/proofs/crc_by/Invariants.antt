-- `crc_tables::crc_by` meets its contract. The invariant: the register so far, carried over what is left, is what all of it leaves.
use Prim.Native.Nat.{◌/◌}
use mathlib.Core.Path.{◌≡◌}
use lib.ListN.{length}
use Rattle.crc_tables.specs.By.{groups, crc_by}
use Rattle.crc_tables.proofs.crc_by.Given as goal

abbrev pub invariant-loop-rest : goal.invariant-loop-rest
invariant-loop-rest l = groups l.tables (length l.rest / 16) l.r l.rest ≡ crc_by l.tables l.s

abbrev pub decreases-loop-rest : goal.decreases-loop-rest
decreases-loop-rest l = length l.rest
