-- `carousel_play::sections::put_block` meets its contract: the payload at byte 20, and the section around it.
use Prim.Native.Nat.{◌+◌}
use mathlib.Core.Path.{◌≡◌, ◌∙◌}
use native.Mathlib.Omega.{arith}
use lib.ListN.{length}
use Rattle.carousel_play.specs.Pieces.{framed_by}
use Rattle.carousel_play.specs.Bytes.{carried_bytes}
use Rattle.carousel_play.proofs.Laws.Chosen.{carried-size}
use Rattle.carousel_play.proofs.Laws.Pieces.{around}
use Rattle.carousel_play.proofs.sections.put_block.Goals as goal

pub returns : goal.returns
unfolding framed_by
returns c =
    let a = c.args in
    let p = carried_bytes a.m.number a.m.version a.block a.bytes.now in
    let l = carried-size a.m.number a.m.version a.block a.bytes.now in
    let e : 24 + (6 + length a.bytes.now) ≡ 30 + length a.bytes.now = omega arith in
    (around a.out.now _ p _ _ (6 + length a.bytes.now) l (omega (arith, c.requires.1)) c.put_carried.ensures.0 c.put_frame.ensures.0, c.put_frame.ensures.1 ∙ e)
