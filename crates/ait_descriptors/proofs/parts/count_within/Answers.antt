-- `ait_descriptors::parts::count_within` meets its contract.
use Prim.Native.Nat.{ℕ, min}
use mathlib.Core.Path.{◌≡◌, ap, ◌∙◌}
use native.Mathlib.Omega.{arith}
use Rattle.std.proofs.lemmas.List.{take_min}
use lib.ListN.{length}
use Rattle.wire.specs.Items.{count}
use Rattle.wire.proofs.Laws.Loops.{tail}
use Rattle.ait_descriptors.specs.Kinds.{size_of}
use Rattle.ait_descriptors.proofs.Laws.Lists.{counted_none, counted-past, counted-at}
use Rattle.ait_descriptors.proofs.parts.count_within.Goals as goal

pub returns-in_default : goal.returns-in_default
returns-in_default c = counted_none _ _ _ c.in_default.is

pub returns-in_default-get : goal.returns-in_default-get
returns-in_default-get c = counted-past _ _ _ _ _ c.in-Some.is (omega (arith, c.in_default-get.ensures.lookup.0))

pub returns : goal.returns
returns c =
    let m : c.min.result ≡ min c.in-Some.field-0.size (length c.in-Some-get.from.now) = omega arith in
    let f = c.in-Some-get.ensures.lookup.0.2 ∙ tail c.args.s.now c.in-Some.field-0.start in
    c.count.ensures ∙ rw (m, take_min, f) (counted-at _ _ _ _ _ c.in-Some.is)
