-- `ait_descriptors::tag02::extensions_in` meets its contract.
use Prim.Native.Nat.{ℕ, ◌+◌}
use mathlib.Core.Path.{ap, ◌∙◌}
use Rattle.wire.specs.Places.{after}
use Rattle.ait_descriptors.specs.Tag02.{extensions_in}
use Rattle.ait_descriptors.proofs.tag02.extensions_in.Goals as goal

pub returns : goal.returns
unfolding extensions_in
returns c = c.rest.ensures ∙ ap (λ (n : ℕ). after (2 + n) c.args.x.now) c.eight_at.ensures.0
