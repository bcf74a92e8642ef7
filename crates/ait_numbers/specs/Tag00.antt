-- 0x00 as numbers: kind 1. Its profiles are items of kind 1, its labels of kind 10, which is no descriptor's.
use Rattle.std.specs.Prelude.{ℕ}
use Rattle.ait_descriptors.specs.declared.tag00.ApplicationDescriptor.{ApplicationDescriptor}
use Rattle.ait_descriptors.specs.declared.tag00.Profile.{Profile}
use Rattle.ait_numbers.specs.declared.DescriptorOut.{DescriptorOut}
use Rattle.ait_numbers.specs.declared.ItemOut.{ItemOut}
use Rattle.ait_numbers.specs.Shapes.{nowhere}

abbrev pub application_descriptor_out : ApplicationDescriptor → DescriptorOut
application_descriptor_out x =
    record {
      count = x.profiles;
      labels = x.labels;
      at = 0;
      length = 0;
      protocol = 0;
      network = 0;
      transport = 0;
      service = 0;
      kind = 1;
      tag = 0x00;
      label = 0;
      component = 0;
      bound = x.bound;
      visibility = x.visibility;
      priority = x.priority;
      refused_at = nowhere;
      refusal = 0;
    }

abbrev pub profile_out : Profile → ItemOut
profile_out p =
    record {
      at = 0;
      length = 0;
      extensions = 0;
      organisation = 0;
      number = p.number;
      class_number = 0;
      kind = 1;
      label = 0;
      major = p.major;
      minor = p.minor;
      micro = p.micro;
      priority = 0;
      first = 0;
      second = 0;
      third = 0;
      refused_at = nowhere;
      refusal = 0;
    }

abbrev pub label_item_out : ℕ → ItemOut
label_item_out l =
    record {
      at = 0;
      length = 0;
      extensions = 0;
      organisation = 0;
      number = 0;
      class_number = 0;
      kind = 10;
      label = l;
      major = 0;
      minor = 0;
      micro = 0;
      priority = 0;
      first = 0;
      second = 0;
      third = 0;
      refused_at = nowhere;
      refusal = 0;
    }
