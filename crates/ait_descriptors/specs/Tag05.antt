-- 0x05, the external application authorisation descriptor. 01, "The application section"; 001, 5.3.5.7, table 26: "repeated 7 bytes: identifier 6, priority 1";
-- an identifier is organisation 32, application 16
use Rattle.std.specs.Prelude.{ℕ, Bool, List}
use Rattle.wire.specs.Fields.{byte_at, sixteen_at, thirty_two_at}
use Rattle.wire.specs.Items.{Size, fixed, fills, count}
use Rattle.wire.specs.Places.{Finder, part_at}
use Rattle.ait_descriptors.specs.declared.tag05.Identifier.{Identifier}
use Rattle.ait_descriptors.specs.declared.Described.{Described}
use Rattle.ait_descriptors.specs.declared.Described.TheVariants as described
use Rattle.ait_descriptors.specs.Descriptor.{tagged_rest}

-- ITS ITEMS: an identifier with its priority
abbrev pub identifier : Size
identifier = fixed 7

-- WELL FORMED: of the contents
unfoldable pub good05 : List ℕ → Bool
good05 c = fills identifier c

unfoldable pub identifiers_in : Finder
identifiers_in d = tagged_rest 0x05 2 d

unfoldable pub identifier_of : List ℕ → Identifier
identifier_of x = record { organisation = thirty_two_at x 0; number = sixteen_at x 4; priority = byte_at x 6 }

-- ITS FIELDS
unfoldable pub described05 : List ℕ → Described
described05 d = described.Identifiers (count identifier (part_at (identifiers_in d) d))
