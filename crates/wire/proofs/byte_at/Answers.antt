-- `wire::byte_at` meets its contract.
use native.Mathlib.Omega.{arith}
use mathlib.Core.Path.{refl, sym}
use Rattle.wire.proofs.Laws.Fields.{byte_past}
use Rattle.wire.proofs.byte_at.Goals as goal

pub returns-then-s-at : goal.returns-then-s-at
returns-then-s-at c = (sym (byte_past c.args.s.now _ c.if-s-at.true), omega arith)

pub returns : goal.returns
returns c = (refl, (c.shared_slice_known-1.given c.args.at).fits)
