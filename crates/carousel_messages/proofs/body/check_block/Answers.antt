-- `carousel_messages::body::check_block` meets its contract.
use mathlib.Core.Path.{ap}
use native.Mathlib.Omega.{arith}
use Rattle.wire.specs.Outcomes.{passed}
use Rattle.carousel_messages.proofs.Laws.Refusals.{block-short, another_module, another-number, another-version, block-own}
use Rattle.carousel_messages.proofs.body.check_block.Goals as goal

pub returns-then-p-lt6 : goal.returns-then-p-lt6
returns-then-p-lt6 c = ap passed (block-short _ c.args.p.now c.if-p-lt6.true)

pub returns-then-h-sixteen_at : goal.returns-then-h-sixteen_at
returns-then-h-sixteen_at c = ap passed (another_module _ c.args.p.now (omega arith) (λ e. omega (arith, c.if-h-sixteen_at.true)))

pub returns-then-h-block : goal.returns-then-h-block
returns-then-h-block c = ap passed (another-number _ c.args.p.now (omega arith) (λ e. omega (arith, c.if-h-block.true)))

pub returns-then-h-byte_at : goal.returns-then-h-byte_at
returns-then-h-byte_at c = ap passed (another-version _ c.args.p.now (omega arith) (λ e. omega (arith, c.if-h-byte_at.true)))

pub returns : goal.returns
returns c = ap passed (block-own _ c.args.p.now (omega arith) (omega arith, omega arith, omega arith))
