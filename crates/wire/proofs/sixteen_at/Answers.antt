-- `wire::sixteen_at` meets its contract: two bytes joined are the field of both.
use native.Mathlib.Omega.{arith}
use mathlib.Core.Path.{refl, sym, ◌∙◌}
use Prim.Native.Nat.{◌+◌}
use Rattle.wire.proofs.Laws.Fields.{field_past_lem, field-one, halves}
use Rattle.wire.proofs.sixteen_at.Goals as goal

pub returns-then-s-at : goal.returns-then-s-at
returns-then-s-at c = (sym (field_past_lem 2 _ _ c.if-s-at.true), omega arith)

pub returns : goal.returns
returns c =
    let s = c.args.s.now in
    let i = c.args.at in
    halves 16 8 1 s i _ _ refl (omega arith) (omega arith) (omega arith)
    (c.byte_at.ensures.0 ∙ sym (field-one s i)) (c.byte_at-2.ensures.0 ∙ sym (field-one s (i + 1)))
