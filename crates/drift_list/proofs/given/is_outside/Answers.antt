-- `drift_list::given::is_outside` meets its contract.
use Prim.Native.Nat.{ℕ}
use mathlib.Core.Path.{ap, ◌∙◌}
use lib.Dec.{leb}
use lib.IntN.{nat_abs}
use Rattle.wire.proofs.Laws.Signed.{plain_cast}
use Rattle.drift_list.proofs.Laws.Cells.{below-outside, above-outside}
use Rattle.drift_list.proofs.given.is_outside.Goals as goal

pub returns-then-z-lt0 : goal.returns-then-z-lt0
returns-then-z-lt0 c = c.if-z-lt0.true ∙ below-outside c.args.z c.ranges.z _ c.if-z-lt0.true

pub returns-else-z-lt0 : goal.returns-else-z-lt0
returns-else-z-lt0 c =
    let a = c.args in
    ap (λ (n : ℕ). leb a.top n) (ap nat_abs (plain_cast a.z c.ranges.z c.if-z-lt0.false)) ∙ above-outside a.z c.ranges.z _ c.if-z-lt0.false
