-- `wire::copies::copy_at` meets its contract.
use Prim.Native.Nat.{◌+◌, ◌-◌}
use mathlib.Core.Path.{◌≡◌, sym}
use native.Mathlib.Omega.{arith}
use lib.ListN.{length}
use lib.Seq.{drop-drop}
use Rattle.wire.specs.Copies.{overwrite}
use Rattle.wire.proofs.Laws.Copies.{laid-fits, laid-short}
use Rattle.wire.proofs.copies.copy_at.Goals as goal

pub returns-then-out-at : goal.returns-then-out-at
returns-then-out-at c = sym (laid-short c.args.out.now c.args.at c.args.bytes.now (omega arith))

pub returns-then-out-at-2 : goal.returns-then-out-at-2
returns-then-out-at-2 c = sym (laid-short c.args.out.now c.args.at c.args.bytes.now (omega arith))

pub returns : goal.returns
unfolding overwrite
returns c =
    let e : c.args.at + length c.args.bytes.now - c.args.at ≡ length c.args.bytes.now = omega arith in
    rw (c.copy_from_slice.ensures.after, e, drop-drop (length c.args.bytes.now) c.args.at c.args.out.now) (sym (laid-fits c.args.out.now c.args.at c.args.bytes.now (omega arith)))
