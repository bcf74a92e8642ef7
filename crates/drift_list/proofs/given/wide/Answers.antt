-- `drift_list::given::wide` meets its contract: each `||` is the definition's.
use Prim.Native.Nat.{◌^◌}
use mathlib.Core.Path.{◌≡◌, refl, sym, ap, ◌∙◌}
use mathlib.Core.Bool.{Bool, true, false, ◌||◌}
use lib.Dec.{leb}
use lib.Signed.{mag}
use Rattle.drift_list.specs.Writing.{cell, outside, outside_signed, wide_at}
use Rattle.drift_list.proofs.Laws.Cells.{kept}
use Rattle.drift_list.proofs.given.wide.Goals as goal
use Rattle.drift_list.proofs.given.wide.Goals.{Joined-is_outside, Joined-is_outside-2, Joined-magnitude-ge134217728}
use Rattle.drift_list.proofs.given.wide.Goals.{then-is_outside, else-is_outside, then-is_outside-2, else-is_outside-2, then-magnitude-ge134217728, else-magnitude-ge134217728}

-- a `||` of code, by its first test
taken : (v r a b : Bool) → v ≡ r → r ≡ true → r ≡ a → v ≡ (a || b)
taken v r a b e t q = e ∙ t ∙ sym (ap (λ (x : Bool). x || b) (sym q ∙ t))

left : (r a b s : Bool) → r ≡ false → r ≡ a → s ≡ b → s ≡ (a || b)
left r a b s t q e = e ∙ sym (ap (λ (x : Bool). x || b) (sym q ∙ t))

first : (c : Joined-is_outside) → let ns = c.args.numbers.now in
    c.if-is_outside.value ≡ (outside (2 ^ 20) (cell ns 0) || outside (2 ^ 2) (cell ns 1))
first c =
    let e = c.is_outside.ensures ∙ ap (outside (2 ^ 20)) (kept _ _ c.cell_at.ensures) in
    elim c.if-is_outside.branch [
      | then-is_outside w ↦ taken _ _ _ _ w.value-is w.if-is_outside.true e
      | else-is_outside w ↦ w.value-is ∙ left _ _ _ _ w.if-is_outside.false e
          (w.is_outside-else-is_outside.ensures ∙ ap (outside (2 ^ 2)) (kept _ _ w.cell_at-else-is_outside.ensures))
    ]

second : (c : Joined-is_outside-2) → let ns = c.args.numbers.now in
    c.if-is_outside-2.value ≡ (outside (2 ^ 20) (cell ns 0) || outside (2 ^ 2) (cell ns 1) || outside_signed (2 ^ 27) (cell ns 2))
second c =
    let e = first (goal.at.Joined-is_outside-2 c).Joined-is_outside in
    elim c.if-is_outside-2.branch [
      | then-is_outside-2 w ↦ taken _ _ _ _ w.value-is w.if-is_outside-2.true e
      | else-is_outside-2 w ↦ w.value-is ∙ left _ _ _ _ w.if-is_outside-2.false e
          (ap (leb (2 ^ 27)) (w.magnitude.ensures ∙ ap mag (kept _ _ w.cell_at-else-is_outside-2.ensures)))
    ]

third : (c : Joined-magnitude-ge134217728) → let ns = c.args.numbers.now in
    c.if-magnitude-ge134217728.value
    ≡ (outside (2 ^ 20) (cell ns 0) || outside (2 ^ 2) (cell ns 1) || outside_signed (2 ^ 27) (cell ns 2) || outside_signed (2 ^ 26) (cell ns 3))
third c =
    let e = second (goal.at.Joined-magnitude-ge134217728 c).Joined-is_outside-2 in
    elim c.if-magnitude-ge134217728.branch [
      | then-magnitude-ge134217728 w ↦ taken _ _ _ _ w.value-is w.if-magnitude-ge134217728.true e
      | else-magnitude-ge134217728 w ↦ w.value-is ∙ left _ _ _ _ w.if-magnitude-ge134217728.false e
          (ap (leb (2 ^ 26)) (w.magnitude-else-magnitude-ge134217728.ensures ∙ ap mag (kept _ _ w.cell_at-else-magnitude-ge134217728.ensures)))
    ]

pub returns-then-magnitude-ge67108864 : goal.returns-then-magnitude-ge67108864
unfolding wide_at
returns-then-magnitude-ge67108864 c =
    taken _ _ _ _ refl c.if-magnitude-ge67108864.true (third (goal.at.returns-then-magnitude-ge67108864 c).Joined-magnitude-ge134217728)

pub returns-else-magnitude-ge67108864 : goal.returns-else-magnitude-ge67108864
unfolding wide_at
returns-else-magnitude-ge67108864 c =
    left _ _ _ _ c.if-magnitude-ge67108864.false (third (goal.at.returns-else-magnitude-ge67108864 c).Joined-magnitude-ge134217728)
    (c.is_outside-else-magnitude-ge67108864.ensures ∙ ap (outside (2 ^ 14)) (kept _ _ c.cell_at-else-magnitude-ge67108864.ensures))
