-- `carousel_record::entries::listed` meets its contract. The invariant: the first i are those of the entries.
use mathlib.Core.Path.{◌≡◌, refl, sym, ◌∙◌}
use mathlib.Core.List.{map}
use native.Mathlib.Omega.{arith}
use lib.ListN.{length, length-map, length-replicate, length-set, get_or-map}
use lib.Seq.{take_all}
use Rattle.carousel_messages.specs.declared.Listed.{Listed}
use Rattle.carousel_messages.specs.Limits.{most_modules}
use Rattle.carousel_messages.specs.Heard.{none_listed}
use Rattle.carousel_messages.proofs.Laws.Limits.{filled_next}
use Rattle.carousel_record.specs.Record.{listed_in, unused}
use Rattle.carousel_record.proofs.entries.listed.Goals as goal
use Rattle.carousel_record.proofs.entries.listed.Goals.{Start}

-- as many modules as entries
all : (s : Start) → length (map listed_in s.args.c.modules) ≡ most_modules
all s = length-map s.args.c.modules listed_in ∙ s.well_formed.0.1.1.1.1.1.0.1.0.1

pub loop-i-init : goal.loop-i-init
loop-i-init c = (length-replicate {A = Listed} most_modules none_listed, refl)

pub loop-i-preserved : goal.loop-i-preserved
loop-i-preserved c =
    let ms = c.args.c.modules in
    let i = c.loop-i.i in (
      length-set c.loop-i.ls i _ ∙ c.loop-i.invariant.0,
      filled_next none_listed c.loop-i.ls (map listed_in ms) i _ (omega arith) (omega (arith, all (goal.at.loop-i-preserved c).Start)) (c.listed.ensures ∙ sym
          (get_or-map listed_in ms i unused)) c.loop-i.invariant.1,
    )

pub returns : goal.returns
returns c =
    let ms = c.args.c.modules in
    let i = c.loop-i.i in
    sym (take_all i c.loop-i.ls (omega arith)) ∙ c.loop-i.invariant.1 ∙ take_all i (map listed_in ms) (omega (arith, all (goal.at.returns c).Start))
