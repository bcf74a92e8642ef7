-- `wire::said_at` meets its contract.
use mathlib.Core.Path.{sym, ◌∙◌}
use native.Mathlib.Omega.{arith}
use lib.ListN.{take, length-take, get_or-eq_default}
use lib.Seq.{get_or-take}
use Rattle.wire.proofs.said_at.Goals as goal

pub returns-then-h-at : goal.returns-then-h-at
returns-then-h-at c = sym (get_or-eq_default (take c.args.h c.args.s.now) 0 (simp length-take (omega arith)))

pub returns : goal.returns
returns c = c.eight_at.ensures.0 ∙ sym (get_or-take c.args.h c.args.s.now c.args.at 0 c.if-h-at.false)
