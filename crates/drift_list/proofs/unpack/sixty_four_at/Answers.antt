use native.Mathlib.Omega.{arith}
use mathlib.Core.Path.{◌≡◌, refl, sym, ap, ◌∙◌}
use mathlib.Core.List.{List}
use Prim.Native.Nat.{ℕ, ◌+◌, ◌-◌}
use lib.ListN.{length, take, drop}
use Rattle.wire.specs.Fields.{field_at}
use Rattle.wire.proofs.Laws.Fields.{field_past_lem, field_drop, halves}
use Rattle.wire.proofs.Laws.Loops.{tail}
use Rattle.drift_list.proofs.unpack.sixty_four_at.Goals as goal

pub returns-then-s-at : goal.returns-then-s-at
returns-then-s-at c = (sym (field_past_lem 8 _ _ c.if-s-at.true), omega arith)

pub returns : goal.returns
returns c =
    let s = c.args.s.now in
    let i = c.args.at in
    let from : (k : ℕ) → field_at 4 (take (length s - i) (drop i s)) k ≡ field_at 4 s (i + k) = λ k. ap (λ (l : List ℕ). field_at 4 l k) (tail s i) ∙ field_drop 4 s i k in
    halves 64 32 4 s i _ _ refl (omega arith) (omega arith) (omega arith)
    (c.thirty_two_at.ensures.0 ∙ from 0 ∙ ap (field_at 4 s) (omega arith)) (c.thirty_two_at-2.ensures.0 ∙ from 4)
