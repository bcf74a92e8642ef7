-- `carousel_play::spell::put_sixteen` meets its contract: the two bytes are the number's.
use mathlib.Core.Path.{◌∙◌}
use Rattle.wire.specs.Fields.{spelled}
use Rattle.text.proofs.Laws.Puts.{puts-same}
use Rattle.carousel_play.proofs.Laws.Pieces.{two_bytes}
use Rattle.carousel_play.proofs.spell.put_sixteen.Goals as goal

pub returns : goal.returns
returns c =
    let a = c.args in
    puts-same a.out.now a.at _ (spelled 2 a.x) _ _ (c.to_be_bytes.ensures ∙ two_bytes a.x) c.put.ensures
