-- `carousel_messages::modules::is_announcement` meets its contract.
use mathlib.Core.Path.{sym, ap, ◌∙◌}
use native.Mathlib.Omega.{arith}
use Prim.Native.Nat.{ℕ, ◌+◌}
use lib.Dec.{eqb}
use lib.ListN.{length}
use Rattle.wire.specs.Fields.{sixteen_at}
use Rattle.wire.proofs.Laws.Sizes.{sized-none, sized-has}
use Rattle.carousel_messages.proofs.Laws.Refusals.{framed-short, framed-fewer, framed-rest}
use Rattle.carousel_messages.proofs.modules.is_announcement.Goals as goal

pub returns-then-p-modules_start : goal.returns-then-p-modules_start
returns-then-p-modules_start c = framed-short c.args.p.now (omega arith)

pub returns-in_default : goal.returns-in_default
returns-in_default c = framed-fewer c.args.p.now (omega arith) (sized-none _ (sym c.in_default.is ∙ c.modules_end.ensures))

pub returns : goal.returns
returns c =
    let p = c.args.p.now in
    let e = sized-has _ _ (sym c.in-Some.is ∙ c.modules_end.ensures) in
    c.ends_with_private.ensures ∙ ap (λ (x : ℕ). eqb (x + 2 + sixteen_at p x) (length p)) e.0 ∙ framed-rest p (omega arith) (λ z. e.1 (e.0 ∙ z))
