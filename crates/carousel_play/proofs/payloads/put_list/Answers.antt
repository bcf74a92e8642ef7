-- `carousel_play::payloads::put_list` meets its contract: six pieces, one after another.
use mathlib.Core.Path.{◌≡◌, sym}
use mathlib.Core.List.{[], ◌∷◌}
use lib.ListN.{length, take}
use Rattle.wire.specs.Fields.{spelled}
use Rattle.text.proofs.Laws.Written.{first, then, said}
use Rattle.carousel_play.specs.Bytes.{modules_bytes}
use Rattle.carousel_play.specs.Calls.{to_play}
use Rattle.carousel_play.proofs.Laws.Spots.{played-count}
use Rattle.carousel_play.proofs.Laws.Pieces.{list_pieces}
use Rattle.carousel_play.proofs.payloads.put_list.Goals as goal
use Rattle.carousel_play.proofs.payloads.put_list.Goals.{Start}

counted : (s : Start) → s.args.p.count ≡ length (to_play s.args.p).modules
counted s = sym (played-count s.args.p s.well_formed.1.1.0.1.1.1.1.1.0.1.0.1 s.requires)

pub returns : goal.returns
returns c =
    let p = c.args.p in
    let w₁ = then (first (spelled 4 p.download) c.put_thirty_two-end.ensures) (spelled 2 p.block_size) c.put_sixteen-end.ensures in
    let w₂ = then (then w₁ (0 ∷ 0 ∷ 0 ∷ 0 ∷ 0 ∷ 0 ∷ 0 ∷ 0 ∷ 0 ∷ 0 ∷ 0 ∷ 0 ∷ []) c.put-end.ensures) (spelled 2 p.count) c.put_sixteen-end-2.ensures in
    let w₃ = then (then w₂ (modules_bytes (take p.count p.modules)) c.put_modules-end.ensures) (spelled 2 0) c.put_sixteen.ensures in
    said w₃ (list_pieces p (counted (goal.at.returns c).Start))
