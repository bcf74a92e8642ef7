-- 0x02, the transport protocol descriptor. 01, "The application section"; 001, 5.3.6, tables 28 to 32: "protocol 16, label 8, selector"
use Rattle.std.specs.Prelude.{None, ℕ, ◌+◌, Bool, true, cond, ◌&&◌, List, leb, eqb, length, drop}
use Rattle.wire.specs.Fields.{byte_at, sixteen_at, bits}
use Rattle.wire.specs.Items.{Size, measured, items, end_of, fills, count}
use Rattle.wire.specs.Places.{Finder, after, part_at}
use Rattle.wire.specs.declared.Span.{Span}
use Rattle.ait_descriptors.specs.declared.tag02.Base.{Base}
use Rattle.ait_descriptors.specs.declared.tag02.Local.{Local}
use Rattle.ait_descriptors.specs.declared.tag02.Remote.{Remote}
use Rattle.ait_descriptors.specs.declared.tag02.Bases.{Bases}
use Rattle.ait_descriptors.specs.declared.tag02.Selector.{Selector}
use Rattle.ait_descriptors.specs.declared.Described.{Described}
use Rattle.ait_descriptors.specs.declared.Described.TheVariants as described
use Rattle.ait_descriptors.specs.Descriptor.{tag_of, contents_of, tagged_rest, rest_of}

-- ITS ITEMS, in protocol 3: "base length, base, extension count, each extension with its length"
abbrev pub extension : Size
extension = measured 1 0

-- where the extensions of a base begin, and how many there are
abbrev pub extensions_start : List ℕ → ℕ
extensions_start xs = 2 + byte_at xs 0

abbrev pub extension_count : List ℕ → ℕ
extension_count xs = byte_at xs (1 + byte_at xs 0)

unfoldable pub base : Size
base xs =
    cond (leb (extensions_start xs) (length xs))
    (end_of (extension_count xs) (extensions_start xs) (items extension (drop (extensions_start xs) xs)))
    0

-- WELL FORMED: of the contents
-- protocol 1: "remote flag 1, reserved 7; if set, three 16-bit numbers; component tag; nothing more"
abbrev pub remote_of : List ℕ → ℕ
remote_of c = bits 7 1 (byte_at c 0)

unfoldable pub selector1 : List ℕ → Bool
selector1 c = eqb (length c) (cond (eqb (remote_of c) 1) 8 2)

-- protocol 3: "repeated: base length, base, extension count, each extension with its length"
unfoldable pub selector3 : List ℕ → Bool
selector3 c = fills base c

-- "Protocol 1: ..; Protocol 3: ..; Others raw."
unfoldable pub selector : ℕ → List ℕ → Bool
selector protocol c = cond (eqb protocol 1) (selector1 c) (cond (eqb protocol 3) (selector3 c) true)

abbrev pub protocol_of : List ℕ → ℕ
protocol_of c = sixteen_at c 0

unfoldable pub good02 : List ℕ → Bool
good02 c = leb 3 (length c) && selector (protocol_of c) (drop 3 c)

-- where its items lie: after tag, length, protocol 3 and label; "extensions within their base": after base length, base and extension count
unfoldable pub bases_in : Finder
bases_in d = cond (eqb (sixteen_at d 2) 3) (tagged_rest 0x02 5 d) None

unfoldable pub extensions_in : Finder
extensions_in x = after (2 + byte_at x 0) x

unfoldable pub base_of : List ℕ → ℕ → Base
base_of x a = record { text = record { start = a + 1; size = byte_at x 0 }; extensions = extension_count x }

unfoldable pub extension_read : List ℕ → ℕ → Span
extension_read x a = rest_of 1 x a

-- ITS FIELDS, by protocol
abbrev pub local_fields : List ℕ → Local
local_fields d = record { label = byte_at d 4; component = byte_at d 6 }

abbrev pub remote_fields : List ℕ → Remote
remote_fields d =
    record {
      label = byte_at d 4;
      network = sixteen_at d 6;
      transport = sixteen_at d 8;
      service = sixteen_at d 10;
      component = byte_at d 12;
    }

abbrev pub bases_fields : List ℕ → Bases
bases_fields d = record { label = byte_at d 4; bases = count base (part_at (bases_in d) d) }

abbrev pub selector_fields : List ℕ → ℕ → Selector
selector_fields d a = record { protocol = sixteen_at d 2; label = byte_at d 4; selector = rest_of 5 d a }

unfoldable pub described1 : List ℕ → Described
described1 d = cond (eqb (bits 7 1 (byte_at d 5)) 1) (described.Remote (remote_fields d)) (described.Local (local_fields d))

unfoldable pub described02 : List ℕ → ℕ → Described
described02 d a =
    cond (eqb (sixteen_at d 2) 1) (described1 d)
    (cond (eqb (sixteen_at d 2) 3) (described.Bases (bases_fields d))
    (described.Selector (selector_fields d a)))

-- whether it has a label
abbrev pub labelled : ℕ → List ℕ → Bool
labelled l d = eqb (tag_of d) 0x02 && eqb (byte_at (contents_of d) 2) l
