-- `drift_list::given::judge_records` meets its contract.
use Prim.Native.Nat.{ℕ, suc, ◌+◌, ◌*◌}
use mathlib.Core.Path.{◌≡◌, refl, sym, ap, ap₂, ◌∙◌}
use mathlib.Core.List.{List}
use native.Mathlib.Omega.{arith}
use lib.IntN.{ℤ}
use Rattle.std.proofs.lemmas.Result.{err_from_is_err_and}
use Rattle.wire.specs.Outcomes.{passed}
use Rattle.wire.proofs.Laws.Outcomes.{refused_by_lem, not_refused}
use Rattle.drift_list.proofs.Answers.{refused-with}
use Rattle.wire.specs.Tests.{first_met}
use Rattle.drift_list.specs.declared.Fields.{Fields}
use Rattle.drift_list.specs.Values.{fix_tests, buoy_before, refusal_at}
use Rattle.drift_list.specs.Writing.{fix_in, fix_given}
use Rattle.drift_list.proofs.Laws.Cells.{rest, fix-rest}
use Rattle.drift_list.proofs.Laws.Faults.{turn-done, turn_hit, turn_on}
use Rattle.drift_list.proofs.given.judge_records.Goals as goal
use Rattle.drift_list.proofs.given.judge_records.Goals.{In-loop-k}

abbrev refused : List ℤ → ℕ → ℕ
refused ns = refusal_at (fix_given ns) (λ k. 0)

-- what is asked of record k
asked : (ns : List ℤ) (k last : ℕ) (f : Fields) (n : ℕ) → last ≡ buoy_before (fix_given ns) k → f ≡ fix_in (rest ns (5 * k)) 0 → n ≡ first_met (fix_tests last f 0) → n ≡ refused ns k
unfolding refusal_at
asked ns k last f n b g e = e ∙ ap₂ (λ (l : ℕ) (f : Fields). first_met (fix_tests l f 0)) b (g ∙ fix-rest ns (5 * k))

next-buoy : (ns : List ℤ) (k : ℕ) (f : Fields) → f ≡ fix_in (rest ns (5 * k)) 0 → f.buoy ≡ buoy_before (fix_given ns) (k + 1)
next-buoy ns k f g = ap (λ (f : Fields). f.buoy) (g ∙ fix-rest ns (5 * k)) ∙ ap (buoy_before (fix_given ns)) o
  where
    o : suc k ≡ k + 1
    o = omega arith

abbrev here : In-loop-k → List ℤ
here c = c.args.numbers.now

pub returns-in_err-judge_fields : goal.returns-in_err-judge_fields
returns-in_err-judge_fields c =
    let p = err_from_is_err_and c.from_residual.result c.from_residual.ensures.1 in
    let ns = here (goal.at.returns-in_err-judge_fields c).In-loop-k in
    let l = c.loop-k in
    let w = refused_by_lem _ _ tt c.in_err-judge_fields.ensures in
    let e = asked ns l.k l.last _ _ l.invariant.0 c.fields_in-f.ensures refl in
    let z = λ (z : refused ns l.k ≡ 0). w.1 (e ∙ z) in
    rw (p.1, p.2) (refused-with _ _ tt (w.0 ∙ e ∙ sym (turn_hit _ l.k (refused ns) (omega arith) z) ∙ l.invariant.1) (λ z. w.1 (sym w.0 ∙ z)))

pub loop-k-preserved : goal.loop-k-preserved
loop-k-preserved c =
    let ns = here (goal.at.loop-k-preserved c).In-loop-k in
    let l = c.loop-k in
    let e = asked ns l.k l.last _ _ l.invariant.0 c.fields_in-f.ensures refl in
    let z = not_refused _ tt _ c.in_ok-judge_fields.ensures in (
      next-buoy ns l.k _ c.fields_in-f.ensures,
      turn_on _ l.k (refused ns) (omega arith) (sym e ∙ z) ∙ l.invariant.1,
    )

pub returns : goal.returns
returns c =
    let l = c.loop-k in
    ap passed (sym (turn-done _ l.k (refused c.args.numbers.now) (omega arith)) ∙ l.invariant.1)
