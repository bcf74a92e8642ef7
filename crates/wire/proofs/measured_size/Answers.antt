-- `wire::measured_size` meets its contract.
use mathlib.Core.Path.{sym, ap, ◌∙◌}
use native.Mathlib.Omega.{arith}
use Prim.Native.Nat.{◌+◌}
use lib.ListN.{length}
use Rattle.wire.specs.Fields.{byte_at}
use Rattle.wire.specs.Items.{sized}
use Rattle.wire.proofs.Laws.Frames.{framed-short, framed-read, there, not_there}
use Rattle.wire.proofs.Laws.Sizes.{sized-some}
use Rattle.wire.proofs.measured_size.Goals as goal

pub returns-then-s-h : goal.returns-then-s-h
returns-then-s-h c = ap sized (sym (framed-short c.args.h (λ x. byte_at x c.args.at) c.args.s.now c.if-s-h.true))

pub returns-then-s-h-2 : goal.returns-then-s-h-2
returns-then-s-h-2 c = ap sized (not_there (c.args.h + c.said_at-m.result)
    (length c.args.s.now) (omega arith)
    ∙ framed-read c.args.h (λ x. byte_at x c.args.at)
    c.args.s.now _ (sym c.said_at-m.ensures))

pub returns-then-h-m-eq0 : goal.returns-then-h-m-eq0
returns-then-h-m-eq0 c = ap sized (sym c.if-h-m-eq0.true ∙ there (c.args.h + c.said_at-m.result)
    (length c.args.s.now) (omega arith)
    ∙ framed-read c.args.h (λ x. byte_at x c.args.at)
    c.args.s.now _ (sym c.said_at-m.ensures))

pub returns : goal.returns
returns c = sized-some (c.args.h + c.said_at-m.result) (omega (arith, c.if-h-m-eq0.false)) ∙ ap sized (there (c.args.h + c.said_at-m.result)
    (length c.args.s.now) (omega arith)
    ∙ framed-read c.args.h (λ x. byte_at x c.args.at)
    c.args.s.now _ (sym c.said_at-m.ensures))
