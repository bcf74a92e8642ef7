-- What `part` hands back of the spans that answers carry.
use Rattle.std.specs.Prelude.{ℕ, ◌≡◌, take, drop}
use mathlib.Core.List as L
use Rattle.wire.specs.Fields.{byte_at}
use Rattle.wire.specs.declared.Span.{Span}
use Rattle.ait_descriptors.specs.declared.Described.{Described}
use Rattle.ait_descriptors.specs.declared.Described.TheVariants as described
use Rattle.ait_descriptors.specs.declared.Item.{Item}
use Rattle.ait_descriptors.specs.declared.Item.TheVariants as item
use Rattle.ait_read.specs.Answers.{span_part}

-- what `part` hands back of a span
abbrev pub handed : L.List ℕ → Span → L.List ℕ
handed s x = span_part s x.start x.size

-- of a descriptor d: 0x15 "path, any bytes" and a raw one after tag and length; a selector after tag, length, "protocol 16, label 8"
abbrev pub OfDescriptor : L.List ℕ → L.List ℕ → Described → Type 0
OfDescriptor s d (described.Application x) = Unit {0}
OfDescriptor s d (described.Names k) = Unit {0}
OfDescriptor s d (described.Local x) = Unit {0}
OfDescriptor s d (described.Remote x) = Unit {0}
OfDescriptor s d (described.Bases x) = Unit {0}
OfDescriptor s d (described.Selector x) = handed s x.selector ≡ drop 5 d
OfDescriptor s d (described.Identifiers k) = Unit {0}
OfDescriptor s d (described.Path x) = handed s x ≡ drop 2 d
OfDescriptor s d (described.Raw x) = handed s x.contents ≡ drop 2 d

-- of an item x: a name after "language 3 bytes, length"; a base after its length, as long as that says
abbrev pub OfItem : L.List ℕ → L.List ℕ → Item → Type 0
OfItem s x (item.Profile p) = Unit {0}
OfItem s x (item.Label l) = Unit {0}
OfItem s x (item.Name n) = handed s n.text ≡ drop 4 x
OfItem s x (item.Base b) = handed s b.text ≡ take (byte_at x 0) (drop 1 x)
OfItem s x (item.Identifier i) = Unit {0}
