-- The look-up of a label. 01: "A label is looked up among the application's own 0x02 descriptors, then the section's common ones; the first hit counts, no hit is marked unresolved."
use Rattle.std.specs.Prelude.{Option, Some, None, ℕ, ◌+◌, List, [], ◌∷◌}
use Rattle.wire.specs.Items.{items}
use Rattle.wire.specs.Places.{Hit, Finder, on_hit, first, part_at}
use Rattle.ait_descriptors.specs.declared.Kind.TheVariants.{Descriptor}
use Rattle.ait_descriptors.specs.declared.Test.{Test}
use Rattle.ait_descriptors.specs.declared.Test.TheVariants.{Tagged, Labelled}
use Rattle.ait_descriptors.specs.Kinds.{size_of}
use Rattle.ait_descriptors.specs.Contents.{test_of}
use Rattle.ait_read.specs.declared.Scope.TheVariants as scope
use Rattle.ait_descriptors.specs.declared.Repeated.TheVariants.{Labels}
use Rattle.ait_read.specs.declared.Resolved.{Resolved}
use Rattle.ait_read.specs.declared.Resolved.TheVariants.{Own, Common}
use Rattle.ait_read.specs.Places.{own_at, repeated_at}

-- the first of some descriptors to meet a test
abbrev pub first_to : Test → List ℕ → Hit
first_to test l = first (test_of test) (items (size_of Descriptor) l)

-- in the first of some common loops that has a hit, the loops' numbers beginning with n: request §4 will lengthen the list
unfoldable pub hit_among : ℕ → ℕ → List (List ℕ) → Option Resolved
hit_among l n [] = None
hit_among l n (c ∷ cs) = on_hit (first_to (Labelled l) c) (hit_among l (n + 1) cs) (λ j. Some (Common n j))

-- the application's own descriptors first
unfoldable pub resolved_in : ℕ → List ℕ → List (List ℕ) → Option Resolved
resolved_in l own commons = on_hit (first_to (Labelled l) own) (hit_among l 0 commons) (λ j. Some (Own j))

-- where label k of application i lies: in its 0x00 descriptor
unfoldable pub label_at : ℕ → ℕ → Finder
label_at i k s = on_hit (first_to (Tagged 0x00) (part_at (own_at i s) s)) None (λ j. repeated_at (scope.Own i) j Labels k s)
