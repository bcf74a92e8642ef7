-- `carousel_record::slot_of` meets its contract: the entries in use are those that the record says.
use mathlib.Core.Path.{ap, ◌∙◌}
use mathlib.Core.List.{List}
use Prim.Native.Nat.{ℕ}
use lib.ListN.{length, take}
use Rattle.std.proofs.Common.{Option}
use Rattle.carousel_messages.specs.Heard.{found}
use Rattle.carousel_record.specs.Record.{announced_by, place_among, slot_at}
use Rattle.carousel_record.proofs.Laws.Entries.{found-entries}
use Rattle.carousel_record.proofs.slot_of.Goals as goal

pub returns : goal.returns
unfolding announced_by
returns c =
    let a = c.args in
    c.slot_in.ensures ∙ ap (λ (ns : List ℕ). slot_at (found (place_among a.number (take a.c.count ns)) (length (take a.c.count ns))) a.c.modules) c.numbers_of-numbers.ensures
    ∙ ap (λ (o : Option ℕ). slot_at o a.c.modules) (found-entries a.number a.c.count a.c.modules)
