-- `carousel_messages::modules::ends_with_private` meets its contract.
use mathlib.Core.Path.{sym, ap}
use native.Mathlib.Omega.{arith}
use Prim.Native.Nat.{ℕ, ◌+◌}
use lib.Dec.{eqb}
use lib.ListN.{length}
use borrow.Author.Tests.{ne_eqb}
use Rattle.wire.specs.Fields.{sixteen_at}
use Rattle.carousel_messages.proofs.modules.ends_with_private.Goals as goal

pub returns-then-p-lt2 : goal.returns-then-p-lt2
returns-then-p-lt2 c = sym (ne_eqb (c.args.e + 2 + sixteen_at c.args.p.now c.args.e) (length c.args.p.now) (λ z. omega arith))

pub returns-then-p-e : goal.returns-then-p-e
returns-then-p-e c = sym (ne_eqb (c.args.e + 2 + sixteen_at c.args.p.now
    c.args.e) (length c.args.p.now) (λ z. omega arith))

pub returns : goal.returns
returns c = ap (λ (n : ℕ). eqb (c.args.e + 2 + n) (length c.args.p.now)) c.sixteen_at.ensures.0
