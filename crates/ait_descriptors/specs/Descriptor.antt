-- A descriptor, whatever its tag: "tag, length, that many bytes." 01, "The application section". Each tag that is known has a file of its own, `Tag00` and so on.
use Rattle.std.specs.Prelude.{None, ℕ, ◌+◌, ◌-◌, cond, List, eqb, length, drop}
use Rattle.wire.specs.Fields.{byte_at}
use Rattle.wire.specs.Items.{Size, measured}
use Rattle.wire.specs.Places.{Finder, after}
use Rattle.wire.specs.declared.Span.{Span}

abbrev pub descriptor : Size
descriptor = measured 2 1

abbrev pub tag_of : List ℕ → ℕ
tag_of d = byte_at d 0

-- the contents are the bytes after the tag and the length
abbrev pub contents_of : List ℕ → List ℕ
contents_of d = drop 2 d

-- what follows the first a bytes of a descriptor with the tag t: nothing in any other
unfoldable pub tagged_rest : (t a : ℕ) → Finder
tagged_rest t a d = cond (eqb (tag_of d) t) (after a d) None

-- what follows the first h bytes of a thing x that begins at a
abbrev pub rest_of : (h : ℕ) → List ℕ → ℕ → Span
rest_of h x a = record { start = a + h; size = length x - h }
