-- `drift_list::judge::within` meets its contract.
use mathlib.Core.Path.{◌≡◌}
use lib.IntN.{ℤ}
use lib.Signed.{le_z}
use native.Mathlib.Omega.{arith}
use mir.Syntax.{w32}
use mir.ValLaws.{to_z-of_z}
use Rattle.std.proofs.lemmas.Int.{ints}
use Rattle.std.specs.Ordering.{is_le, int_cmp}
use Rattle.wire.specs.Signed.{between}
use Rattle.drift_list.proofs.judge.within.Goals as goal

le-is : (a b : ℤ) → is_le (int_cmp a b) ≡ le_z a b
le-is a b = grind (arith, ints)

pub returns : goal.returns
unfolding between
returns c =
    let n = c.new.ensures in
    let a = c.args in
    let r = c.ranges in
    rw (c.contains.ensures.value, n.start, n.end, n.exhausted, to_z-of_z w32 a.z r.z, to_z-of_z w32 a.lo r.lo, to_z-of_z w32 a.hi r.hi, le-is a.lo a.z, le-is a.z a.hi)
