-- `ait_read::places::extensions_place` meets its contract.
use mathlib.Core.Path.{◌∙◌}
use native.Mathlib.Omega.{arith}
use Rattle.ait_descriptors.specs.declared.Repeated.TheVariants.{Bases}
use Rattle.ait_descriptors.specs.Tag02.{extensions_in}
use Rattle.ait_read.specs.Places.{repeated_at, extensions_at}
use Rattle.ait_read.proofs.Laws.Places.{step-none, step-fits, step-is, sound_repeated, sound-extensions_in}
use Rattle.ait_read.proofs.places.extensions_place.Goals as goal

pub returns-in_err-base : goal.returns-in_err-base
unfolding extensions_at
returns-in_err-base c = c.from_residual.ensures ∙ step-none extensions_in sound-extensions_in _ (repeated_at c.args.scope c.args.j Bases c.args.k c.args.s.now) c.args.s.now
    c.repeated_place.ensures c.in_err-base.was

pub within-requires : goal.within-requires
within-requires c = λ u e. omega (
  arith,
  step-fits extensions_in sound-extensions_in _ (repeated_at c.args.scope c.args.j Bases c.args.k c.args.s.now) c.args.s.now c.repeated_place.ensures
      (sound_repeated c.args.scope c.args.j Bases c.args.k c.args.s.now) _ c.in_ok-base.was _ c.part.ensures _ c.extensions_in.ensures u e,
)

pub returns : goal.returns
unfolding extensions_at
returns c = c.within.ensures ∙ step-is extensions_in sound-extensions_in _ (repeated_at c.args.scope c.args.j Bases c.args.k c.args.s.now) c.args.s.now c.repeated_place.ensures
    (sound_repeated c.args.scope c.args.j Bases c.args.k c.args.s.now) _ c.in_ok-base.was _ c.part.ensures _ c.extensions_in.ensures
