-- Descriptors and items as structs of numbers, whatever their kind. What a kind does not have is 0.
use Rattle.std.specs.Prelude.{Some, None, ℕ}
use Rattle.section.specs.Refusals.{Spot}
use Rattle.section.specs.declared.Refusal.{Refusal}
use Rattle.wire.specs.declared.Span.{Span}
use Rattle.ait_numbers.specs.declared.DescriptorOut.{DescriptorOut}
use Rattle.ait_numbers.specs.declared.ItemOut.{ItemOut}

-- A refusal's place as a number. All ones stands for none: no section that can be lent is so long, so it is nobody's place.
abbrev pub nowhere : ℕ
nowhere = 0xFFFFFFFFFFFFFFFF

unfoldable pub spot_number : Spot → ℕ
spot_number None = nowhere
spot_number (Some p) = p

abbrev pub no_descriptor : Refusal → DescriptorOut
no_descriptor r =
    record {
      count = 0;
      labels = 0;
      at = 0;
      length = 0;
      protocol = 0;
      network = 0;
      transport = 0;
      service = 0;
      kind = 0;
      tag = 0;
      label = 0;
      component = 0;
      bound = 0;
      visibility = 0;
      priority = 0;
      refused_at = spot_number r.place;
      refusal = r.number;
    }

-- a descriptor of so many items
abbrev pub counted_by : (kind tag protocol label count : ℕ) → DescriptorOut
counted_by kind tag protocol label count =
    record {
      count = count;
      labels = 0;
      at = 0;
      length = 0;
      protocol = protocol;
      network = 0;
      transport = 0;
      service = 0;
      kind = kind;
      tag = tag;
      label = label;
      component = 0;
      bound = 0;
      visibility = 0;
      priority = 0;
      refused_at = nowhere;
      refusal = 0;
    }

-- a descriptor that names a part of the section
abbrev pub placed_by : (kind tag protocol label : ℕ) → Span → DescriptorOut
placed_by kind tag protocol label part =
    record {
      count = 0;
      labels = 0;
      at = part.start;
      length = part.size;
      protocol = protocol;
      network = 0;
      transport = 0;
      service = 0;
      kind = kind;
      tag = tag;
      label = label;
      component = 0;
      bound = 0;
      visibility = 0;
      priority = 0;
      refused_at = nowhere;
      refusal = 0;
    }

abbrev pub no_item : Refusal → ItemOut
no_item r =
    record {
      at = 0;
      length = 0;
      extensions = 0;
      organisation = 0;
      number = 0;
      class_number = 0;
      kind = 0;
      label = 0;
      major = 0;
      minor = 0;
      micro = 0;
      priority = 0;
      first = 0;
      second = 0;
      third = 0;
      refused_at = spot_number r.place;
      refusal = r.number;
    }
