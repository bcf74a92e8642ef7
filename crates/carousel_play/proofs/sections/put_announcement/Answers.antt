-- `carousel_play::sections::put_announcement` meets its contract: the payload at byte 20, and the section around it.
use Prim.Native.Nat.{◌+◌, ◌*◌}
use mathlib.Core.Path.{◌≡◌, ◌∙◌}
use native.Mathlib.Omega.{arith}
use lib.ListN.{length}
use Rattle.carousel_play.specs.Bytes.{list_bytes, announcement_bytes}
use Rattle.carousel_play.specs.Calls.{to_play}
use Rattle.carousel_play.specs.Pieces.{framed_by}
use Rattle.carousel_play.proofs.Laws.Payload.{list-long}
use Rattle.carousel_play.proofs.Laws.Spots.{played-count}
use Rattle.carousel_play.proofs.Laws.Pieces.{around}
use Rattle.carousel_play.proofs.sections.put_announcement.Goals as goal
use Rattle.carousel_play.proofs.sections.put_announcement.Goals.{Start}

its-length : (s : Start) → length (list_bytes (to_play s.args.p)) ≡ 22 + 8 * s.args.p.count
its-length s =
    let f = s.requires.0 in
    let g = played-count s.args.p s.well_formed.1.1.0.1.1.1.1.1.0.1.0.1 f in
    list-long (to_play s.args.p) (omega arith) ∙ omega arith

pub returns : goal.returns
unfolding announcement_bytes framed_by
returns c =
    let a = c.args in
    let n = a.p.count in
    let e : 24 + (22 + 8 * n) ≡ 46 + 8 * n = omega arith in (
      around a.out.now _ (list_bytes (to_play a.p)) _ _ (22 + 8 * n) (its-length (goal.at.returns c).Start) (omega (arith, c.requires.1)) c.put_list.ensures.0
          c.put_frame.ensures.0,
      c.put_frame.ensures.1 ∙ e,
    )
