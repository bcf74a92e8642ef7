-- `wire::thirty_two_at` meets its contract: two fields of 16 bits joined are the field of both.
use native.Mathlib.Omega.{arith}
use mathlib.Core.Path.{◌≡◌, refl, sym, ap, ◌∙◌}
use mathlib.Core.List.{List}
use Prim.Native.Nat.{ℕ, ◌+◌, ◌-◌}
use lib.ListN.{length, take, drop}
use Rattle.wire.specs.Fields.{field_at}
use Rattle.wire.proofs.Laws.Fields.{field_past_lem, field_drop, halves}
use Rattle.wire.proofs.Laws.Loops.{tail}
use Rattle.wire.proofs.thirty_two_at.Goals as goal

pub returns-then-s-at : goal.returns-then-s-at
returns-then-s-at c = (sym (field_past_lem 4 _ _ c.if-s-at.true), omega arith)

pub returns : goal.returns
returns c =
    let s = c.args.s.now in
    let i = c.args.at in
    let from : (k : ℕ) → field_at 2 (take (length s - i) (drop i s)) k ≡ field_at 2 s (i + k) = λ k. ap (λ (l : List ℕ). field_at 2 l k) (tail s i) ∙ field_drop 2 s i k in
    halves 32 16 2 s i _ _ refl (omega arith) (omega arith) (omega arith)
    (c.sixteen_at.ensures.0 ∙ from 0 ∙ ap (field_at 2 s) (omega arith)) (c.sixteen_at-2.ensures.0 ∙ from 2)
