-- `drift_list::given::judge_widths` meets its contract.
use Prim.Native.Nat.{◌*◌}
use mathlib.Core.Path.{◌≡◌, sym, ap, ◌∙◌}
use mathlib.Core.Bool.{Bool, true, false, cond}
use mathlib.Core.List.{List}
use native.Mathlib.Omega.{arith}
use lib.IntN.{ℤ}
use Rattle.wire.specs.Outcomes.{passed}
use Rattle.drift_list.specs.Writing.{wide_at, wide_refusal}
use Rattle.drift_list.proofs.Laws.Cells.{wide-rest}
use Rattle.drift_list.proofs.Laws.Faults.{turn-done, turn_hit, turn_on}
use Rattle.drift_list.proofs.given.judge_widths.Goals as goal
use Rattle.drift_list.proofs.given.judge_widths.Goals.{In-loop-k}

abbrev here : In-loop-k → List ℤ
here c = c.args.numbers.now

pub returns-then-wide : goal.returns-then-wide
returns-then-wide c =
    let ns = here (goal.at.returns-then-wide c).In-loop-k in
    let l = c.loop-k in
    let w : wide_at ns (5 * l.k) ≡ true = sym (wide-rest ns (5 * l.k)) ∙ sym c.wide.ensures ∙ c.if-wide.true in
    let e : wide_refusal ns l.k ≡ 36 = ap (λ (t : Bool). cond t 36 0) w in
    ap passed (sym (sym l.invariant ∙ turn_hit _ l.k (wide_refusal ns) (omega arith) (λ z. omega (arith, e, z)) ∙ e))

pub loop-k-preserved : goal.loop-k-preserved
loop-k-preserved c =
    let ns = here (goal.at.loop-k-preserved c).In-loop-k in
    let l = c.loop-k in
    let w : wide_at ns (5 * l.k) ≡ false = sym (wide-rest ns (5 * l.k)) ∙ sym c.wide.ensures ∙ c.if-wide.false in
    turn_on _ l.k (wide_refusal ns) (omega arith) (ap (λ (t : Bool). cond t 36 0) w) ∙ l.invariant

pub returns : goal.returns
returns c =
    let l = c.loop-k in
    ap passed (sym (turn-done _ l.k (wide_refusal c.args.numbers.now) (omega arith)) ∙ l.invariant)
