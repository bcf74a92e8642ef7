-- `carousel_handout::lacks::with_block` meets its contract.
use Rattle.carousel_handout.proofs.lacks.with_block.Goals as goal

pub returns : goal.returns
returns c = rw c.if-here.false
