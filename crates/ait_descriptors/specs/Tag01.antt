-- 0x01, the application name descriptor. 01, "The application section"; 001, 5.3.5.6.1, table 24: "repeated: language 3 bytes, length, name"
use Rattle.std.specs.Prelude.{ℕ, Bool, List}
use Rattle.wire.specs.Fields.{byte_at}
use Rattle.wire.specs.Items.{Size, measured, fills, count}
use Rattle.wire.specs.Places.{Finder, part_at}
use Rattle.ait_descriptors.specs.declared.tag01.Name.{Name}
use Rattle.ait_descriptors.specs.declared.Described.{Described}
use Rattle.ait_descriptors.specs.declared.Described.TheVariants as described
use Rattle.ait_descriptors.specs.Descriptor.{tagged_rest, rest_of}

-- ITS ITEMS: a name
abbrev pub name : Size
name = measured 4 3

-- WELL FORMED: of the contents
unfoldable pub good01 : List ℕ → Bool
good01 c = fills name c

unfoldable pub names_in : Finder
names_in d = tagged_rest 0x01 2 d

unfoldable pub name_of : List ℕ → ℕ → Name
name_of x a = record { first = byte_at x 0; second = byte_at x 1; third = byte_at x 2; text = rest_of 4 x a }

-- ITS FIELDS
unfoldable pub described01 : List ℕ → Described
described01 d = described.Names (count name (part_at (names_in d) d))
