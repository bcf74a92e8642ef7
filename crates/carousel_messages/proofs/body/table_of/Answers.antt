-- `carousel_messages::body::table_of` meets its contract.
use borrow.Author.Tests.{eq-eqb, ne_eqb}
use Rattle.carousel_messages.proofs.body.table_of.Goals as goal

pub returns-then-table-eq-ANNOUNCEMENT_TABLE : goal.returns-then-table-eq-ANNOUNCEMENT_TABLE
returns-then-table-eq-ANNOUNCEMENT_TABLE c = rw (eq-eqb c.args.table 0x3B c.if-table-eq-ANNOUNCEMENT_TABLE.true)

pub returns : goal.returns
returns c = rw (ne_eqb c.args.table 0x3B c.if-table-eq-ANNOUNCEMENT_TABLE.false)
