-- `section::header_of` meets its contract: each field is what its reader answers.
use Rattle.wire.proofs.Laws.Fields.{masked}
use Rattle.section.proofs.header_of.Goals as goal

pub returns : goal.returns
returns c =
    rw (
      c.byte_at.ensures.0,
      c.sixteen_at.ensures.0,
      masked 1 5 c.byte_at-2.result,
      c.byte_at-2.ensures.0,
      c.byte_at-3.ensures.0,
      c.byte_at-4.ensures.0,
    )
