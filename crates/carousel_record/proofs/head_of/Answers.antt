-- `carousel_record::head_of` meets its contract.
use Rattle.carousel_record.proofs.head_of.Goals as goal

pub returns : goal.returns
returns c =
    let a = c.args.c in
    λ i. record { download = a.download; block_size = a.block_size; count = a.count; bytes = c.bytes_of.ensures i }
