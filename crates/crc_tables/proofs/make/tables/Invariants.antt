-- `crc_tables::make::tables` meets its contract. The invariant: the tables below stand, and x is entry 1 of the one to make.
use Prim.Native.Nat.{◌*◌}
use mathlib.Core.Path.{◌≡◌}
use lib.ListN.{length}
use Rattle.crc_tables.specs.Tables.{left}
use Rattle.crc_tables.proofs.Laws.Made.{Made}
use Rattle.crc_tables.proofs.make.tables.Given as goal

abbrev pub invariant-loop-k : goal.invariant-loop-k
invariant-loop-k l = (length l.t ≡ 4096) × Made l.t (l.k * 256) × (l.x ≡ left l.k 1)
