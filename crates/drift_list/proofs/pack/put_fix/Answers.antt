-- `drift_list::pack::put_fix` meets its contract: three words are the record's twelve bytes.
use Prim.Native.Nat.{◌<◌, ◌^◌}
use mathlib.Core.Path.{◌≡◌, refl, ap, ◌∙◌}
use native.Mathlib.Omega.{arith}
use mir.Syntax.{w32}
use mir.ValLaws.{to_z-of_z}
use Rattle.wire.specs.Signed.{twos}
use Rattle.drift_list.proofs.Laws.Puts.{high_of, high_lt, record_put}
use Rattle.drift_list.proofs.pack.put_fix.Goals as goal
use Rattle.drift_list.proofs.pack.put_fix.Goals.{After-twos-x, After-twos-y}

-- the two coordinates' bits
x-is : (c : After-twos-x) → c.twos-x.result ≡ twos 27 c.args.f.longitude
x-is c = c.twos-x.ensures 27 refl ∙ ap (twos 27) (to_z-of_z w32 c.args.f.longitude (record { sfits = c.struct_told-1.given.1.1.0.1 }))

y-is : (c : After-twos-y) → c.twos-y.result ≡ twos 26 c.args.f.latitude
y-is c = c.twos-y.ensures 26 refl ∙ ap (twos 26) (to_z-of_z w32 c.args.f.latitude (record { sfits = c.struct_told-1.given.1.1.1.0.1 }))

high_fits : (c : After-twos-y)
    → high_of c.args.f c.requires.1 c.twos-x.result c.twos-y.result (x-is (goal.at.After-twos-y c).After-twos-x) (y-is c) < 2 ^ 64
high_fits c =
    high_lt c.args.f c.requires.1 c.twos-x.result c.twos-y.result (x-is (goal.at.After-twos-y c).After-twos-x) (y-is c)

pub overflow_add-high-2 : goal.overflow_add-high-2
overflow_add-high-2 c = let h = high_fits (goal.at.overflow_add-high-2 c).After-twos-y in record { fits = omega arith }

pub overflow_add-high-3 : goal.overflow_add-high-3
overflow_add-high-3 c = record { fits = high_fits (goal.at.overflow_add-high-3 c).After-twos-y }

pub overflow_cast-high-3 : goal.overflow_cast-high-3
overflow_cast-high-3 c = let h = high_fits (goal.at.overflow_cast-high-3 c).After-twos-y in record { fits = omega arith }

pub returns : goal.returns
returns c =
    record_put c.args.f c.requires.1 c.twos-x.result c.twos-y.result (x-is (goal.at.returns c).After-twos-x) (y-is (goal.at.returns c).After-twos-y) c.args.out.now _ _ _ c.args.at
    c.put_four.ensures c.put_four-2.ensures c.put_four-3.ensures
