-- 0x02 as numbers, by its protocol: a local carousel is of kind 3, a remote one 4, bases 5, and so each base, any other selector 6.
use Rattle.ait_descriptors.specs.declared.tag02.Local.{Local}
use Rattle.ait_descriptors.specs.declared.tag02.Remote.{Remote}
use Rattle.ait_descriptors.specs.declared.tag02.Bases.{Bases}
use Rattle.ait_descriptors.specs.declared.tag02.Selector.{Selector}
use Rattle.ait_descriptors.specs.declared.tag02.Base.{Base}
use Rattle.ait_numbers.specs.declared.DescriptorOut.{DescriptorOut}
use Rattle.ait_numbers.specs.declared.ItemOut.{ItemOut}
use Rattle.ait_numbers.specs.Shapes.{nowhere, counted_by, placed_by}

abbrev pub local_out : Local → DescriptorOut
local_out x =
    record {
      count = 0;
      labels = 0;
      at = 0;
      length = 0;
      protocol = 1;
      network = 0;
      transport = 0;
      service = 0;
      kind = 3;
      tag = 0x02;
      label = x.label;
      component = x.component;
      bound = 0;
      visibility = 0;
      priority = 0;
      refused_at = nowhere;
      refusal = 0;
    }

abbrev pub remote_out : Remote → DescriptorOut
remote_out x =
    record {
      count = 0;
      labels = 0;
      at = 0;
      length = 0;
      protocol = 1;
      network = x.network;
      transport = x.transport;
      service = x.service;
      kind = 4;
      tag = 0x02;
      label = x.label;
      component = x.component;
      bound = 0;
      visibility = 0;
      priority = 0;
      refused_at = nowhere;
      refusal = 0;
    }

abbrev pub bases_out : Bases → DescriptorOut
bases_out x = counted_by 5 0x02 3 x.label x.bases

abbrev pub selector_out : Selector → DescriptorOut
selector_out x = placed_by 6 0x02 x.protocol x.label x.selector

abbrev pub base_out : Base → ItemOut
base_out b =
    record {
      at = b.text.start;
      length = b.text.size;
      extensions = b.extensions;
      organisation = 0;
      number = 0;
      class_number = 0;
      kind = 5;
      label = 0;
      major = 0;
      minor = 0;
      micro = 0;
      priority = 0;
      first = 0;
      second = 0;
      third = 0;
      refused_at = nowhere;
      refusal = 0;
    }
