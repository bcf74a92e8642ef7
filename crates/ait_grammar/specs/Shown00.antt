-- What the calls by place show of a 0x00's values.
use Rattle.std.specs.Prelude.{length}
use Rattle.ait_descriptors.specs.declared.tag00.ApplicationDescriptor.{ApplicationDescriptor}
use Rattle.ait_descriptors.specs.declared.Item.{Item}
use Rattle.ait_descriptors.specs.declared.Item.TheVariants as item
use Rattle.ait_grammar.specs.Tag00.{ProfileValue, Value00}

abbrev pub shown00 : Value00 → ApplicationDescriptor
shown00 v =
    record {
      profiles = length v.profiles;
      bound = v.bound;
      visibility = v.visibility;
      priority = v.priority;
      labels = length v.labels;
    }

-- its items
abbrev pub profile_shown : ProfileValue → Item
profile_shown p = item.Profile (record { number = p.profile; major = p.major; minor = p.minor; micro = p.micro })
