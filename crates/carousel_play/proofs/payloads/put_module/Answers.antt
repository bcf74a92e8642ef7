-- `carousel_play::payloads::put_module` meets its contract: three pieces, one after another.
use mathlib.Core.List.{[], ◌∷◌}
use Rattle.wire.specs.Fields.{spelled}
use Rattle.text.proofs.Laws.Written.{first, then}
use Rattle.carousel_play.specs.Bytes.{module_bytes}
use Rattle.carousel_play.proofs.payloads.put_module.Goals as goal

pub returns : goal.returns
unfolding module_bytes
returns c =
    let m = c.args.m in
    (then (then (first (spelled 2 m.number) c.put_sixteen-end.ensures) (spelled 4 m.size) c.put_thirty_two-end.ensures) (m.version ∷ 0 ∷ []) c.put.ensures).puts
