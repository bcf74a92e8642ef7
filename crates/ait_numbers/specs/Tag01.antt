-- 0x01 as numbers: kind 2, and so its names.
use Rattle.std.specs.Prelude.{ℕ}
use Rattle.ait_descriptors.specs.declared.tag01.Name.{Name}
use Rattle.ait_numbers.specs.declared.DescriptorOut.{DescriptorOut}
use Rattle.ait_numbers.specs.declared.ItemOut.{ItemOut}
use Rattle.ait_numbers.specs.Shapes.{nowhere, counted_by}

abbrev pub names_out : ℕ → DescriptorOut
names_out names = counted_by 2 0x01 0 0 names

abbrev pub name_out : Name → ItemOut
name_out n =
    record {
      at = n.text.start;
      length = n.text.size;
      extensions = 0;
      organisation = 0;
      number = 0;
      class_number = 0;
      kind = 2;
      label = 0;
      major = 0;
      minor = 0;
      micro = 0;
      priority = 0;
      first = n.first;
      second = n.second;
      third = n.third;
      refused_at = nowhere;
      refusal = 0;
    }
