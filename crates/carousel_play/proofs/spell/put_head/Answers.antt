-- `carousel_play::spell::put_head` meets its contract: four pieces, one after another.
use Prim.Native.Nat.{◌+◌, ◌*◌}
use mathlib.Core.List.{[], ◌∷◌}
use Rattle.wire.specs.Fields.{spelled}
use Rattle.text.proofs.Laws.Written.{first, then}
use Rattle.carousel_play.specs.Pieces.{head_bytes}
use Rattle.carousel_play.proofs.spell.put_head.Goals as goal

pub returns : goal.returns
unfolding head_bytes
returns c =
    let a = c.args in
    let h = a.h in
    let p = then (first {l = a.out.now} {i = 0} (h.table ∷ []) c.put-end.ensures) (spelled 2 (0xB000 + (9 + a.size))) c.put_sixteen-end.ensures in
    (then (then p (spelled 2 h.extension) c.put_sixteen-end-2.ensures) ((0xC1 + 2 * h.version) ∷ h.number ∷ h.last ∷ []) c.put.ensures).puts
