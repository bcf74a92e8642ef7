-- `ait_read::places::common_in` meets its contract.
use mathlib.Core.Path.{ap, ◌∙◌}
use Prim.Native.Nat.{ℕ}
use Rattle.wire.specs.Places.{bytes}
use Rattle.ait_read.specs.Places.{common_in}
use Rattle.ait_read.proofs.places.common_in.Goals as goal

pub returns : goal.returns
unfolding common_in
returns c = c.bytes_at.ensures ∙ ap (λ (n : ℕ). bytes 2 n c.args.b.now) c.twelve_at.ensures.0
