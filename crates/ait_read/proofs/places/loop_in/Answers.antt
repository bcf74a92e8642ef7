-- `ait_read::places::loop_in` meets its contract.
use mathlib.Core.Path.{ap, ◌∙◌}
use Prim.Native.Nat.{ℕ, ◌+◌}
use Rattle.wire.specs.Places.{after}
use Rattle.ait_read.specs.Places.{loop_in}
use Rattle.ait_read.proofs.places.loop_in.Goals as goal

pub returns : goal.returns
unfolding loop_in
returns c = c.rest.ensures ∙ ap (λ (n : ℕ). after (4 + n) c.args.b.now) c.twelve_at.ensures.0
