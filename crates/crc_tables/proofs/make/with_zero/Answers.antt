-- `crc_tables::make::with_zero` meets its contract.
use mathlib.Core.Path.{sym}
use Rattle.section.proofs.Laws.Crc.{bit-same, bit-other}
use Rattle.crc_tables.proofs.make.with_zero.Goals as goal

pub returns-then-r-eq0 : goal.returns-then-r-eq0
returns-then-r-eq0 c = sym (bit-same c.args.r 0 c.if-r-eq0.true)

pub returns : goal.returns
returns c = sym (bit-other c.args.r 0 c.if-r-eq0.false)
