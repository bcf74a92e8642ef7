-- `ait_read::part` meets its contract.
use native.Mathlib.Omega.{arith}
use Prim.Native.Nat.{◌+◌}
use lib.ListN.{length}
use borrow.Author.Tests.{le-leb, lt-leb}
use Rattle.wire.proofs.Laws.Finders.{part}
use Rattle.ait_read.specs.Answers.{span_part}
use Rattle.ait_read.proofs.part.Goals as goal

pub returns-then-s-at : goal.returns-then-s-at
unfolding span_part
returns-then-s-at c = rw (lt-leb (c.before.args.at.start + c.before.args.at.size) (length c.before.args.s.now) (omega arith))

pub returns-then-s-at-2 : goal.returns-then-s-at-2
unfolding span_part
returns-then-s-at-2 c = rw (lt-leb (c.before.args.at.start + c.before.args.at.size) (length c.before.args.s.now) (omega arith))

pub returns : goal.returns
unfolding span_part
returns c = rw (le-leb (c.args.at.start + c.args.at.size)
    (length c.args.s.now) (omega arith))
    (part c.args.s.now c.args.at.start c.args.at.size)
