-- `carousel_step::keep::put_words` meets its contract.
use Prim.Native.Nat.{◌+◌, ◌-◌}
use mathlib.Core.Path.{◌≡◌, refl}
use native.Mathlib.Omega.{arith}
use lib.ListN.{length}
use lib.Seq.{drop-drop}
use Rattle.wire.specs.Copies.{overwrite}
use Rattle.carousel_step.proofs.keep.put_words.Goals as goal

pub returns : goal.returns
unfolding overwrite
returns c =
    let e : c.args.at + length c.args.words.now - c.args.at ≡ length c.args.words.now = omega arith in
    rw (c.copy_from_slice.ensures.after, e, drop-drop (length c.args.words.now) c.args.at c.args.marks.now)
