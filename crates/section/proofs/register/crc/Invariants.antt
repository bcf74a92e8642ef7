-- `section::register::crc` meets its contract. The invariant: the register so far, carried over the bytes that are left, is the CRC of all.
use mathlib.Core.Path.{◌≡◌}
use lib.ListN.{drop}
use Rattle.section.specs.Crc.{crc_from, crc_of}
use Rattle.section.proofs.register.crc.Given as goal

abbrev pub invariant-loop-b : goal.invariant-loop-b
invariant-loop-b l = crc_from l.r (drop l.b-index l.s) ≡ crc_of l.s
