-- `carousel_play::sections::write_announcement` meets its contract: 21 where there is no room, else the section is put.
use Prim.Native.Nat.{◌+◌, ◌*◌}
use mathlib.Core.Path.{◌≡◌, sym, ◌∙◌}
use native.Mathlib.Omega.{arith}
use lib.ListN.{length}
use Rattle.carousel_play.specs.Bytes.{announcement_bytes}
use Rattle.carousel_play.specs.Calls.{to_play}
use Rattle.carousel_play.proofs.Laws.Spots.{played-count}
use Rattle.carousel_play.proofs.Laws.Chosen.{announcement-size}
use Rattle.carousel_play.proofs.Laws.Refusals.{no_room, room}
use Rattle.carousel_play.proofs.sections.write_announcement.Goals as goal
use Rattle.carousel_play.proofs.sections.write_announcement.Goals.{Start}

its-length : (s : Start) → length (announcement_bytes s.args.identifier (to_play s.args.p)) ≡ 46 + 8 * s.args.p.count
its-length s =
    let f = s.requires in
    let g = played-count s.args.p s.well_formed.1.1.0.1.1.1.1.1.0.1.0.1 f in
    announcement-size s.args.identifier (to_play s.args.p) (omega arith) ∙ omega arith

pub returns-then-out-p : goal.returns-then-out-p
returns-then-out-p c = let e = its-length (goal.at.returns-then-out-p c).Start in no_room _ _ (omega (arith, c.if-out-p.true))

pub returns : goal.returns
returns c =
    let e = its-length (goal.at.returns c).Start in
    room _ _ _ _ (omega (arith, c.if-out-p.false)) c.put_announcement.ensures.0 (c.put_announcement.ensures.1 ∙ sym e)
