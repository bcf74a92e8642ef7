-- `section::register::with_byte` meets its contract. The invariant: the register so far, carried over the n bits that are left, is that after all eight.
use Prim.Native.Nat.{◌≤◌}
use mathlib.Core.Path.{◌≡◌}
use Rattle.section.specs.Crc.{crc_bits, crc_byte}
use Rattle.section.proofs.register.with_byte.Given as goal

abbrev pub invariant-loop-n : goal.invariant-loop-n
invariant-loop-n l = (l.n ≤ 8) × (crc_bits l.n l.b l.x ≡ crc_byte l.r l.b)
