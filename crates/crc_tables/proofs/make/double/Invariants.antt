-- `crc_tables::make::double` meets its contract. The invariant: so many entries stand.
use Prim.Native.Nat.{◌+◌}
use mathlib.Core.Path.{◌≡◌}
use lib.ListN.{length}
use Rattle.crc_tables.proofs.Laws.Made.{Made}
use Rattle.crc_tables.proofs.make.double.Given as goal

abbrev pub invariant-loop-j : goal.invariant-loop-j
invariant-loop-j l = (length l.t ≡ length l.initial.t) × Made l.t (l.at + l.w + l.j)
