-- `carousel_play::spell::put_message` meets its contract: five pieces, one after another.
use mathlib.Core.List.{[], ◌∷◌}
use Rattle.wire.specs.Fields.{spelled}
use Rattle.text.proofs.Laws.Written.{first, then}
use Rattle.carousel_play.specs.Pieces.{message_head}
use Rattle.carousel_play.proofs.spell.put_message.Goals as goal

pub returns : goal.returns
unfolding message_head
returns c =
    let a = c.args in
    let p = then (first {l = a.out.now} {i = a.at} (0x11 ∷ 0x03 ∷ []) c.put-end.ensures) (spelled 2 a.h.message) c.put_sixteen-end.ensures in
    let q = then (then p (spelled 4 a.h.identifier) c.put_thirty_two-end.ensures) (0xFF ∷ 0 ∷ []) c.put-end-2.ensures in
    (then q (spelled 2 a.size) c.put_sixteen.ensures).puts
