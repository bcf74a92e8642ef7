-- 0x00, the application descriptor. 01, "The application section"; 001, 5.3.5.3, table 20:
-- "profile length P, a multiple of 5; profiles (16, 8, 8, 8 bits); bound flag 1, visibility 2, reserved 5; priority 8; the rest are transport labels"
use Rattle.std.specs.Prelude.{None, ℕ, ◌+◌, ◌%◌, Bool, cond, ◌&&◌, List, leb, eqb, length}
use Rattle.wire.specs.Fields.{byte_at, sixteen_at, bits}
use Rattle.wire.specs.Items.{Size, fixed, count}
use Rattle.wire.specs.Places.{Finder, bytes, part_at}
use Rattle.ait_descriptors.specs.declared.tag00.Profile.{Profile}
use Rattle.ait_descriptors.specs.declared.Described.{Described}
use Rattle.ait_descriptors.specs.declared.Described.TheVariants as described
use Rattle.ait_descriptors.specs.Descriptor.{tag_of, tagged_rest}

-- WELL FORMED: of the contents
abbrev pub profiles_length : List ℕ → ℕ
profiles_length c = byte_at c 0

unfoldable pub good00 : List ℕ → Bool
good00 c = eqb (profiles_length c % 5) 0 && leb (3 + profiles_length c) (length c)

-- ITS ITEMS: a profile, a label
abbrev pub profile : Size
profile = fixed 5

abbrev pub label : Size
label = fixed 1

-- where they lie in the descriptor: after tag, length, P; then after a byte of flags and the priority
unfoldable pub profiles_in : Finder
profiles_in d = cond (eqb (tag_of d) 0x00) (bytes 3 (byte_at d 2) d) None

unfoldable pub labels_in : Finder
labels_in d = tagged_rest 0x00 (5 + byte_at d 2) d

unfoldable pub profile_of : List ℕ → Profile
profile_of x = record { number = sixteen_at x 0; major = byte_at x 2; minor = byte_at x 3; micro = byte_at x 4 }

-- ITS FIELDS
unfoldable pub described00 : List ℕ → Described
described00 d =
    described.Application
    (record {
      profiles = count profile (part_at (profiles_in d) d);
      bound = bits 7 1 (byte_at d (3 + byte_at d 2));
      visibility = bits 5 2 (byte_at d (3 + byte_at d 2));
      priority = byte_at d (4 + byte_at d 2);
      labels = count label (part_at (labels_in d) d);
    })
