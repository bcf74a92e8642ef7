-- Each public call of this crate leaves one answer.
use mathlib.Core.Path.{sym, ◌∙◌}
use Rattle.wire.proofs.Once.{OneAnswer}
use Rattle.crc_tables.proofs.make.tables.Kinds as tables-kinds
use Rattle.crc_tables.proofs.make.tables.Reads as tables-reads
use Rattle.crc_tables.proofs.crc_by.Kinds as crc-by-kinds
use Rattle.crc_tables.proofs.crc_by.Reads as crc-by-reads
use Rattle.crc_tables.proofs.crc_of.Kinds as crc-of-kinds
use Rattle.crc_tables.proofs.crc_of.Reads as crc-of-reads

tables : OneAnswer 0 tables-kinds.ps tables-kinds.r tables-reads.Post
tables κs a x y s t p q = p ∙ sym q

crc-by : OneAnswer 2 crc-by-kinds.ps crc-by-kinds.r crc-by-reads.Post
crc-by κs a x y s t p q = p ∙ sym q

crc_of_lem : OneAnswer 1 crc-of-kinds.ps crc-of-kinds.r crc-of-reads.Post
crc_of_lem κs a x y s t p q = p ∙ sym q
