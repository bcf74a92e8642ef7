-- `carousel_play::payloads::put_carried` meets its contract: four pieces, one after another.
use mathlib.Core.List.{[], ◌∷◌}
use Rattle.wire.specs.Fields.{spelled}
use Rattle.text.proofs.Laws.Written.{first, then}
use Rattle.carousel_play.proofs.payloads.put_carried.Goals as goal

pub returns : goal.returns
returns c =
    let a = c.args in
    let p = then (first (spelled 2 a.m.number) c.put_sixteen-end.ensures) (a.m.version ∷ 0xFF ∷ []) (c.put-end.ensures.0, c.put-end.ensures.1) in
    (then (then p (spelled 2 a.block) c.put_sixteen-end-2.ensures) a.bytes.now c.put.ensures).puts
