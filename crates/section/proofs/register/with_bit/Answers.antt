-- `section::register::with_bit` meets its contract.
use mathlib.Core.Path.{sym}
use Rattle.section.proofs.Laws.Crc.{bit-same, bit-other}
use Rattle.section.proofs.register.with_bit.Goals as goal

pub returns-then-r-d : goal.returns-then-r-d
returns-then-r-d c = sym (bit-same _ _ c.if-r-d.true)

pub returns : goal.returns
returns c = sym (bit-other _ _ c.if-r-d.false)
