-- `ait_read::records::application_of` meets its contract: each field is what its reader answers.
use mathlib.Core.Path.{ap, ◌∙◌}
use Rattle.ait_read.specs.Records.{class_of, control_of, application_of}
use Rattle.ait_read.proofs.records.application_of.Goals as goal

pub returns : goal.returns
unfolding application_of
returns c =
    let number = c.sixteen_at-number.ensures.0 in
    let code = c.byte_at-code.ensures.0 in
    λ i. record {
      organisation = c.thirty_two_at.ensures.0 i;
      number = number i;
      class = (c.class_of-class.ensures ∙ ap class_of number) i;
      code = code i;
      control = (c.control_of-control.ensures ∙ ap control_of code) i;
      descriptors = c.own_count.ensures i;
    }
