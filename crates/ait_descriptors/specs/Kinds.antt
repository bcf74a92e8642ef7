-- The kinds of item that repeat in an application section, a line each. 01, "The application section"; 001, 5.3.4.6, 5.3.5 and 5.3.6.
-- "'Repeated' means none or more, ending exactly": see wire, `Items`.
use Rattle.std.specs.Prelude.{ℕ, List}
use Rattle.wire.specs.Fields.{twelve_at}
use Rattle.wire.specs.Items.{Size, framed, count}
use Rattle.wire.specs.Places.{Place, part_at}
use Rattle.ait_descriptors.specs.declared.Kind.{Kind}
use Rattle.ait_descriptors.specs.declared.Kind.TheVariants.{Application, Descriptor, Profile, Label, Name, Base, Extension, Identifier}
use Rattle.ait_descriptors.specs.Descriptor.{descriptor}
use Rattle.ait_descriptors.specs.Tag00.{profile, label}
use Rattle.ait_descriptors.specs.Tag01.{name}
use Rattle.ait_descriptors.specs.Tag02.{base, extension}
use Rattle.ait_descriptors.specs.Tag05.{identifier}

-- "An application: organisation 32, application 16, control code 8, 4 reserved, length 12, descriptors."
abbrev pub application : Size
application = framed 9 (λ h. twelve_at h 7)

unfoldable pub size_of : Kind → Size
size_of Application = application
size_of Descriptor = descriptor
size_of Profile = profile
size_of Label = label
size_of Name = name
size_of Base = base
size_of Extension = extension
size_of Identifier = identifier

-- how many items of a kind lie at a place
unfoldable pub count_at : Kind → Place → List ℕ → ℕ
count_at kind p s = count (size_of kind) (part_at p s)
