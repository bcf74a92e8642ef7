-- `transport::hand::hand_on` meets its contract: nothing in hand, not whole yet, or laid out in its two parts.
use Prim.Native.Nat.{ℕ, ◌-◌}
use mathlib.Core.Path.{◌≡◌, ap, ◌∙◌}
use mathlib.Core.List.{List, ◌++◌}
use lib.ListN.{length, take}
use Rattle.wire.specs.Copies.{laid_at}
use Rattle.wire.proofs.Laws.Sizes.{sized-none, sized-has}
use Rattle.section.specs.Whole.{whole_at}
use Rattle.transport.proofs.Laws.Hands.{ended-none, ended-short, none-given, hand-inside, all-given}
use Rattle.transport.proofs.hand.hand_on.Goals as goal
use Rattle.transport.proofs.hand.hand_on.Goals.{In-Some}

pub returns-then-held-eq0 : goal.returns-then-held-eq0
returns-then-held-eq0 c = none-given _ _ _ (ended-none c.args.hand.now c.args.more.now c.if-held-eq0.true)

pub returns-in_default : goal.returns-in_default
returns-in_default c = none-given _ _ _ (ended-short c.args.hand.now c.args.more.now (sized-none _ c.in_default.ensures.0))

-- the length of the one section
long : (c : In-Some) → (c.in-Some.n ≡ whole_at (c.args.hand.now ++ c.args.more.now)) × (c.in-Some.n ≡ 0 → ⊥)
long c = sized-has _ _ c.in-Some.ensures.0

pub overflow_sub-rest : goal.overflow_sub-rest
overflow_sub-rest c =
    let n = long (goal.at.overflow_sub-rest c).In-Some in
    hand-inside c.args.hand.now c.args.more.now c.args.out.now _ n.0 c.if-held-eq0.false n.1 c.requires.0

pub returns : goal.returns
returns c =
    let h = c.args.hand.now in
    let m = c.args.more.now in
    let n = c.in-Some.n in
    let l = long (goal.at.returns c).In-Some in
    let g = all-given h m c.args.out.now n l.0 c.if-held-eq0.false l.1 c.requires.0 c.requires.1 in
    (g.0, c.copy_at-2.ensures ∙ ap (λ (x : List ℕ). laid_at x (length h) (take (n - length h) m)) c.copy_at.ensures ∙ g.1)
