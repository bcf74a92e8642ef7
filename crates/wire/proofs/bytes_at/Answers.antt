-- `wire::bytes_at` meets its contract.
use mathlib.Core.Path.{sym}
use native.Mathlib.Omega.{arith}
use Rattle.wire.proofs.Laws.Finders.{bytes-at, bytes-none}
use Rattle.wire.proofs.bytes_at.Goals as goal

pub returns-then-x-at : goal.returns-then-x-at
returns-then-x-at c = sym (bytes-none c.args.at c.args.n c.args.x.now (omega arith))

pub returns-then-x-at-2 : goal.returns-then-x-at-2
returns-then-x-at-2 c = sym (bytes-none c.args.at c.args.n c.args.x.now (omega arith))

pub returns : goal.returns
returns c = sym (bytes-at c.args.at c.args.n c.args.x.now (omega arith))
