-- Descriptors by their tag, a line for each tag in each definition; what a tag's line says is in its own file, `Tag00` and so on.
-- "Known contents must be well formed; other tags are kept raw." 01, "The application section".
use Rattle.std.specs.Prelude.{Option, Some, None, ℕ, Bool, true, not, cond, ◌&&◌, List, eqb}
use Rattle.wire.specs.Fields.{byte_at}
use Rattle.wire.specs.Items.{items, fills, every, number}
use Rattle.wire.specs.Places.{Finder}
use Rattle.ait_descriptors.specs.declared.Kind.{Kind}
use Rattle.ait_descriptors.specs.declared.Kind.TheVariants as kind
use Rattle.ait_descriptors.specs.declared.Test.{Test}
use Rattle.ait_descriptors.specs.declared.Test.TheVariants.{Malformed, Tagged, Labelled}
use Rattle.ait_descriptors.specs.declared.Repeated.{Repeated}
use Rattle.ait_descriptors.specs.declared.Repeated.TheVariants.{Profiles, Labels, Names, Bases, Identifiers}
use Rattle.ait_descriptors.specs.declared.Raw.{Raw}
use Rattle.ait_descriptors.specs.declared.Described.{Described}
use Rattle.ait_descriptors.specs.declared.Described.TheVariants as described
use Rattle.ait_descriptors.specs.declared.Item.{Item}
use Rattle.ait_descriptors.specs.declared.Item.TheVariants as item
use Rattle.ait_descriptors.specs.Descriptor.{descriptor, tag_of, contents_of, rest_of}
use Rattle.ait_descriptors.specs.Tag00.{good00, profiles_in, labels_in, profile_of, described00}
use Rattle.ait_descriptors.specs.Tag01.{good01, names_in, name_of, described01}
use Rattle.ait_descriptors.specs.Tag02.{good02, bases_in, base_of, described02, labelled}
use Rattle.ait_descriptors.specs.Tag05.{good05, identifiers_in, identifier_of, described05}
use Rattle.ait_descriptors.specs.Tag15.{described15}
use Rattle.ait_descriptors.specs.Kinds.{count_at}

-- whether the contents that go with a tag are well formed; of 0x15 and other tags there is nothing to be malformed
unfoldable pub contents_good : ℕ → List ℕ → Bool
contents_good tag c =
    cond (eqb tag 0x00) (good00 c)
    (cond (eqb tag 0x01) (good01 c)
    (cond (eqb tag 0x02) (good02 c)
    (cond (eqb tag 0x05) (good05 c)
    true)))

abbrev pub well_made : List ℕ → Bool
well_made d = contents_good (tag_of d) (contents_of d)

-- "other tags are kept raw": the tag, and all that follows the length
abbrev pub raw_fields : List ℕ → ℕ → Raw
raw_fields d a = record { tag = tag_of d; contents = rest_of 2 d a }

-- "A descriptor answer is an enum whose cases carry fields and places, one case for raw": what is read of a descriptor that begins at a, by its tag
unfoldable pub described_as : (tag : ℕ) → List ℕ → ℕ → Described
described_as tag d a =
    cond (eqb tag 0x00) (described00 d)
    (cond (eqb tag 0x01) (described01 d)
    (cond (eqb tag 0x02) (described02 d a)
    (cond (eqb tag 0x05) (described05 d)
    (cond (eqb tag 0x15) (described15 d a)
    (described.Raw (raw_fields d a))))))

abbrev pub described_of : List ℕ → ℕ → Described
described_of d a = described_as (tag_of d) d a

-- "the items repeated within a descriptor (in 0x00 profiles and labels apart; ..)": where they lie in it; their kind; and what is read of one that
-- begins at a. A descriptor of another tag has no such items.
unfoldable pub list_in : Repeated → Finder
list_in Profiles d = profiles_in d
list_in Labels d = labels_in d
list_in Names d = names_in d
list_in Bases d = bases_in d
list_in Identifiers d = identifiers_in d

unfoldable pub kind_of : Repeated → Kind
kind_of Profiles = kind.Profile
kind_of Labels = kind.Label
kind_of Names = kind.Name
kind_of Bases = kind.Base
kind_of Identifiers = kind.Identifier

unfoldable pub item_of : Repeated → List ℕ → ℕ → Item
item_of Profiles x a = item.Profile (profile_of x)
-- "the rest are transport labels", a byte each
item_of Labels x a = item.Label (byte_at x 0)
item_of Names x a = item.Name (name_of x a)
item_of Bases x a = item.Base (base_of x a)
item_of Identifiers x a = item.Identifier (identifier_of x)

-- how many items of a sort a descriptor has
unfoldable pub repeated_count : Repeated → List ℕ → ℕ
repeated_count what d = count_at (kind_of what) (list_in what d) d

-- what a descriptor may be asked: whether known contents are malformed; whether it has a tag; whether it is a 0x02 with a label
unfoldable pub test_of : Test → List ℕ → Bool
test_of Malformed d = not (well_made d)
test_of (Tagged t) d = eqb (tag_of d) t
test_of (Labelled l) d = labelled l d

-- what one walk over a loop finds: where descriptors end exactly with it, each well made, how many of them have the tag 0x00
unfoldable pub walked_of : List ℕ → Option ℕ
walked_of l =
    cond (fills descriptor l && every well_made (items descriptor l))
    (Some (number (λ d. eqb (tag_of d) 0x00) (items descriptor l)))
    None
