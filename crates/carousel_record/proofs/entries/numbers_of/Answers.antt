-- `carousel_record::entries::numbers_of` meets its contract. The invariant: the first i are those of the entries.
use mathlib.Core.Path.{◌≡◌, refl, sym, ◌∙◌}
use mathlib.Core.List.{map}
use Prim.Native.Nat.{ℕ}
use native.Mathlib.Omega.{arith}
use lib.ListN.{length, length-map, length-replicate, length-set, get_or-map}
use lib.Seq.{take_all}
use Rattle.carousel_messages.specs.Limits.{most_modules}
use Rattle.carousel_messages.proofs.Laws.Limits.{filled_next}
use Rattle.carousel_record.specs.Record.{number_in, unused}
use Rattle.carousel_record.proofs.entries.numbers_of.Goals as goal
use Rattle.carousel_record.proofs.entries.numbers_of.Goals.{Start}

-- as many modules as entries
all : (s : Start) → length (map number_in s.args.ms) ≡ most_modules
all s = length-map s.args.ms number_in ∙ s.well_formed.0.1.0.1

pub loop-i-init : goal.loop-i-init
loop-i-init c = (length-replicate {A = ℕ} most_modules 0, refl)

pub loop-i-preserved : goal.loop-i-preserved
loop-i-preserved c =
    let ms = c.args.ms in
    let i = c.loop-i.i in (
      length-set c.loop-i.ns i _ ∙ c.loop-i.invariant.0,
      filled_next 0 c.loop-i.ns (map number_in ms) i _ (omega arith) (omega (arith, all (goal.at.loop-i-preserved c).Start)) (sym (get_or-map number_in ms i unused)) c.loop-i.invariant.1,
    )

pub returns : goal.returns
returns c =
    let ms = c.args.ms in
    let i = c.loop-i.i in
    sym (take_all i c.loop-i.ns (omega arith)) ∙ c.loop-i.invariant.1 ∙ take_all i (map number_in ms) (omega (arith, all (goal.at.returns c).Start))
