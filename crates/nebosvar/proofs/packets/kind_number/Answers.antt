-- `nebosvar::packets::kind_number` meets its contract, case by case.
use mathlib.Core.Path.{sym, ap, ◌∙◌}
use Rattle.std.proofs.Common.{Ok}
use Rattle.nebosvar.specs.Packets.{kind_of_packet}
use Rattle.nebosvar.proofs.packets.kind_number.Goals as goal

pub returns-in-Err : goal.returns-in-Err
unfolding kind_of_packet
returns-in-Err c = sym (ap kind_of_packet c.in-Err.is)

pub returns-in-Ok-Taken : goal.returns-in-Ok-Taken
unfolding kind_of_packet
returns-in-Ok-Taken c = sym (ap kind_of_packet (c.in-Ok-Taken.is ∙ ap Ok (rw c.in-Ok-Taken.is at c.in-Ok-Taken.field-0-is)))

pub returns-in-Ok-Broken : goal.returns-in-Ok-Broken
unfolding kind_of_packet
returns-in-Ok-Broken c = sym (ap kind_of_packet (c.in-Ok-Broken.is ∙ ap Ok (rw c.in-Ok-Broken.is at c.in-Ok-Broken.field-0-is)))

pub returns-in-Ok-Repeated : goal.returns-in-Ok-Repeated
unfolding kind_of_packet
returns-in-Ok-Repeated c = sym (ap kind_of_packet (c.in-Ok-Repeated.is ∙ ap Ok (rw c.in-Ok-Repeated.is at c.in-Ok-Repeated.field-0-is)))
