-- `crc_tables::crc_of` meets its contract.
use Rattle.crc_tables.proofs.Laws.Right.{lent}
use Rattle.crc_tables.proofs.crc_of.Goals as goal

pub returns-then-s-lt-PAYS : goal.returns-then-s-lt-PAYS
returns-then-s-lt-PAYS c = c.crc.ensures

pub returns : goal.returns
returns c =
    lent _ _ _ c.tables-t.ensures (λ i. (c.shared_slice_known-1.given i).fits) c.crc_by.ensures
