-- `carousel_play::frame::put_frame` meets its contract: the two headers, then the CRC of what then stands before it.
use Prim.Native.Nat.{◌+◌}
use mathlib.Core.Path.{◌≡◌, ◌∙◌}
use native.Mathlib.Omega.{arith}
use Rattle.text.proofs.Laws.Written.{first, then}
use Rattle.carousel_play.specs.Pieces.{head_bytes, message_head}
use Rattle.carousel_play.proofs.Laws.Pieces.{framed}
use Rattle.carousel_play.proofs.frame.put_frame.Goals as goal

pub returns : goal.returns
returns c =
    let a = c.args in
    let h = a.h in
    let w = then (first (head_bytes h (12 + a.size)) c.put_head-end.ensures) (message_head h a.size) c.put_message.ensures in
    let e : 20 + a.size + 4 ≡ 24 + a.size = omega arith in
    (framed a.out.now h a.size c.requires.2 _ _ w.puts.0 c.put_crc.ensures.0, c.put_crc.ensures.1 ∙ e)
