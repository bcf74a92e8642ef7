-- `drift_list::given::judge_widths` meets its contract.
use Prim.Native.Nat.{◌-◌}
use mathlib.Core.Path.{◌≡◌}
use Rattle.drift_list.specs.Values.{first_fault}
use Rattle.drift_list.specs.Writing.{wide_refusal}
use Rattle.drift_list.proofs.given.judge_widths.Given as goal

abbrev pub invariant-loop-k : goal.invariant-loop-k
invariant-loop-k l = first_fault (l.count - l.k) l.k (wide_refusal l.numbers) ≡ first_fault l.count 0 (wide_refusal l.numbers)
