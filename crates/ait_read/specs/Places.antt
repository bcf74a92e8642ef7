-- Where things lie in an application section. Bytes count from the section's byte 0, things from 0.
use Rattle.std.specs.Prelude.{None, ℕ, ◌+◌}
use Rattle.wire.specs.Places.{Place, At, on_place, Finder, item_at, after, bytes, inner, within}
use Rattle.ait_descriptors.specs.declared.Kind.TheVariants.{Application, Descriptor, Extension}
use Rattle.ait_descriptors.specs.Kinds.{size_of}
use Rattle.ait_descriptors.specs.Contents.{list_in, kind_of}
use Rattle.ait_descriptors.specs.Tag02.{extensions_in}
use Rattle.ait_body.specs.Body.{common_length}
use Rattle.ait_read.specs.declared.Scope.{Scope}
use Rattle.ait_read.specs.declared.Scope.TheVariants as scope
use Rattle.ait_descriptors.specs.declared.Repeated.{Repeated}
use Rattle.ait_descriptors.specs.declared.Repeated.TheVariants.{Bases}

-- in a body: the common descriptors, and the applications
unfoldable pub common_in : Finder
common_in b = bytes 2 (common_length b) b

unfoldable pub loop_in : Finder
loop_in b = after (4 + common_length b) b

-- in a section: what stands between the header and the CRC, and in it
unfoldable pub body_at : Finder
body_at s = inner 8 4 s

unfoldable pub common_at : Finder
common_at s = within body_at common_in s

unfoldable pub loop_at : Finder
loop_at s = within body_at loop_in s

unfoldable pub application_at : ℕ → Finder
application_at i s = within loop_at (item_at (size_of Application) i) s

-- an application's own descriptors
unfoldable pub own_at : ℕ → Finder
own_at i s = within (application_at i) (after 9) s

-- whose descriptors: the section's common ones, or those of the application at a place
unfoldable pub scope_at : Scope → Finder
scope_at scope.Common s = common_at s
scope_at (scope.Own i) s = own_at i s

unfoldable pub descriptor_at : Scope → ℕ → Finder
descriptor_at o j s = within (scope_at o) (item_at (size_of Descriptor) j) s

unfoldable pub list_at : Scope → ℕ → Repeated → Finder
list_at o j what s = within (descriptor_at o j) (list_in what) s

unfoldable pub repeated_at : Scope → ℕ → Repeated → ℕ → Finder
repeated_at o j what k s = within (list_at o j what) (item_at (size_of (kind_of what)) k) s

unfoldable pub extensions_at : Scope → ℕ → ℕ → Finder
extensions_at o j k s = within (repeated_at o j Bases k) extensions_in s

unfoldable pub extension_at : Scope → ℕ → ℕ → ℕ → Finder
extension_at o j k m s = within (extensions_at o j k) (item_at (size_of Extension) m) s

-- a place within a part that begins at a, as one of the whole
abbrev pub moved : ℕ → Place → Place
moved a p = on_place p None (λ b m. At (a + b) m)
