-- `carousel_record::place_of` meets its contract: the entries in use are those that the record says.
use mathlib.Core.Path.{ap, ◌∙◌}
use mathlib.Core.List.{List}
use Prim.Native.Nat.{ℕ}
use lib.ListN.{length, take}
use Rattle.carousel_messages.specs.Heard.{found}
use Rattle.carousel_record.specs.Record.{announced_by, place_among}
use Rattle.carousel_record.proofs.Laws.Entries.{found-entries}
use Rattle.carousel_record.proofs.place_of.Goals as goal

pub returns : goal.returns
unfolding announced_by
returns c =
    let a = c.args in
    c.place_in.ensures ∙ ap (λ (ns : List ℕ). found (place_among a.number (take a.c.count ns)) (length (take a.c.count ns))) c.numbers_of-numbers.ensures
    ∙ found-entries a.number a.c.count a.c.modules
