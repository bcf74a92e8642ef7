-- `wire::measured_end` meets its contract.
use mathlib.Core.Path.{◌≡◌, refl, sym, ap, ◌∙◌}
use native.Mathlib.Omega.{arith}
use lib.ListN.{drop}
use Rattle.wire.specs.Items.{measured, sized}
use Rattle.wire.proofs.Laws.Frames.{framed_kind}
use Rattle.wire.proofs.Laws.Sizes.{sized-none, sized-has}
use Rattle.wire.proofs.Laws.Loops.{tail, item-fits, end-left, end_none, end-stop, end-turn, end-done}
use Rattle.wire.proofs.measured_end.Goals as goal
use Rattle.wire.proofs.measured_end.Goals.{After-measured_size}

pub loop-k-init : goal.loop-k-init
loop-k-init c = end-left (measured _ _) c.args.s.now _ _ _ _ _ (omega arith) refl

pub returns-then-s-i : goal.returns-then-s-i
returns-then-s-i c = end_none (measured c.args.h c.args.at)
    c.args.s.now _ _ c.loop-k.i _ c.if-s-i.true c.loop-k.invariant (omega arith)

-- what the call answered for the list from i on
from-i : (c : After-measured_size) → c.measured_size.result ≡ sized (measured c.args.h c.args.at (drop c.loop-k.i c.args.s.now))
from-i c = c.measured_size.ensures ∙ ap (λ l. sized (measured c.args.h c.args.at l)) (tail c.args.s.now c.loop-k.i)

pub returns-in_err-i : goal.returns-in_err-i
returns-in_err-i c =
    c.from_residual.ensures ∙ end-stop (measured c.args.h c.args.at) (framed_kind _ _) c.args.s.now c.loop-k.i 0
    (sym (sized-none _ (sym c.in_err-i.was ∙ from-i (goal.at.returns-in_err-i c).After-measured_size))) _ _ _ c.loop-k.invariant refl (omega arith)

pub overflow_add-i : goal.overflow_add-i
overflow_add-i c =
    let h = sized-has _ _ (sym c.in_ok-i.was ∙ from-i (goal.at.overflow_add-i c).After-measured_size) in
    omega (arith, item-fits (measured c.args.h c.args.at) (framed_kind _ _) c.args.s.now c.loop-k.i _ h.0 (omega arith))

pub loop-k-preserved : goal.loop-k-preserved
loop-k-preserved c =
    let h = sized-has _ _ (sym c.in_ok-i.was ∙ from-i (goal.at.loop-k-preserved c).After-measured_size) in
    end-left (measured _ _) c.args.s.now _ _ _ _ _ (omega arith)
    (end-turn (measured c.args.h c.args.at) (framed_kind _ _) c.args.s.now c.loop-k.i _ h.0 _ _ _ (omega arith) c.loop-k.invariant h.1 (omega arith))

pub returns : goal.returns
returns c = end-done (measured _ _) c.args.s.now _ _ c.loop-k.i _ c.loop-k.invariant (omega arith)
