-- `carousel_play::spell::put_thirty_two` meets its contract: the four bytes are the number's.
use mathlib.Core.Path.{◌∙◌}
use Rattle.wire.specs.Fields.{spelled}
use Rattle.text.proofs.Laws.Puts.{puts-same}
use Rattle.carousel_play.proofs.Laws.Pieces.{four_bytes}
use Rattle.carousel_play.proofs.spell.put_thirty_two.Goals as goal

pub returns : goal.returns
returns c =
    let a = c.args in
    puts-same a.out.now a.at _ (spelled 4 a.x) _ _ (c.to_be_bytes.ensures ∙ four_bytes a.x) c.put.ensures
