-- 0x05 as numbers: kind 7, and so its identifiers, each number beside its class.
use Rattle.std.specs.Prelude.{ℕ}
use Rattle.ait_descriptors.specs.declared.tag05.Identifier.{Identifier}
use Rattle.ait_read.specs.Records.{class_of}
use Rattle.ait_numbers.specs.declared.DescriptorOut.{DescriptorOut}
use Rattle.ait_numbers.specs.declared.ItemOut.{ItemOut}
use Rattle.ait_numbers.specs.Classes.{class_number}
use Rattle.ait_numbers.specs.Shapes.{nowhere, counted_by}

abbrev pub identifiers_out : ℕ → DescriptorOut
identifiers_out identifiers = counted_by 7 0x05 0 0 identifiers

abbrev pub identifier_out : Identifier → ItemOut
identifier_out i =
    record {
      at = 0;
      length = 0;
      extensions = 0;
      organisation = i.organisation;
      number = i.number;
      class_number = class_number (class_of i.number);
      kind = 7;
      label = 0;
      major = 0;
      minor = 0;
      micro = 0;
      priority = i.priority;
      first = 0;
      second = 0;
      third = 0;
      refused_at = nowhere;
      refusal = 0;
    }
