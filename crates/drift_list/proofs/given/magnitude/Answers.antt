-- `drift_list::given::magnitude` meets its contract.
use mathlib.Core.Path.{ap}
use lib.IntN.{nat_abs}
use Rattle.wire.proofs.Laws.Signed.{not_cast, plain_cast, cast_fine}
use Rattle.drift_list.proofs.given.magnitude.Goals as goal

pub overflow_cast-result : goal.overflow_cast-result
overflow_cast-result c = let z = c.args.z in let f = c.ranges.z in cast_fine z f _ (not_cast z f c.if-z-lt0.true)

pub returns-then-z-lt0 : goal.returns-then-z-lt0
returns-then-z-lt0 c = let z = c.args.z in let f = c.ranges.z in ap nat_abs (not_cast z f c.if-z-lt0.true)

pub overflow_cast-result-2 : goal.overflow_cast-result-2
overflow_cast-result-2 c = let z = c.args.z in let f = c.ranges.z in cast_fine z f _ (plain_cast z f c.if-z-lt0.false)

pub returns : goal.returns
returns c = let z = c.args.z in let f = c.ranges.z in ap nat_abs (plain_cast z f c.if-z-lt0.false)
