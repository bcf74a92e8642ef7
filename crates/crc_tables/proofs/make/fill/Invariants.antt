-- `crc_tables::make::fill` meets its contract. The invariant: the entries below the bit n stand, and x is what the bit adds.
use Prim.Native.Nat.{◌+◌, ◌/◌, ◌^◌}
use mathlib.Core.Path.{◌≡◌}
use lib.ListN.{length}
use Rattle.crc_tables.proofs.Laws.Made.{Next, Made}
use Rattle.crc_tables.proofs.make.fill.Given as goal

abbrev pub invariant-loop-n : goal.invariant-loop-n
invariant-loop-n l = (length l.t ≡ length l.initial.t) × Made l.t (l.at + 2 ^ l.n) × Next (l.at / 256) (2 ^ l.n) l.x
