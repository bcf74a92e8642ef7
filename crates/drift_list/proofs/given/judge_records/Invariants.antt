-- `drift_list::given::judge_records` meets its contract.
use Prim.Native.Nat.{◌-◌}
use mathlib.Core.Path.{◌≡◌}
use Rattle.drift_list.specs.Values.{buoy_before, refusal_at, first_fault}
use Rattle.drift_list.specs.Writing.{fix_given}
use Rattle.drift_list.proofs.given.judge_records.Given as goal

abbrev pub invariant-loop-k : goal.invariant-loop-k
invariant-loop-k l =
    (l.last ≡ buoy_before (fix_given l.numbers) l.k) × (first_fault (l.count - l.k) l.k (refusal_at (fix_given l.numbers) (λ k. 0)) ≡ first_fault l.count 0
    (refusal_at (fix_given l.numbers) (λ k. 0)))
