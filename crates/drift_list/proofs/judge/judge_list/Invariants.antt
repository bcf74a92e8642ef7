-- `drift_list::judge::judge_list` meets its contract: the loop asks of each record in turn.
use Prim.Native.Nat.{◌+◌, ◌-◌, ◌*◌}
use mathlib.Core.Path.{◌≡◌}
use lib.ListN.{length}
use Rattle.drift_list.specs.Values.{buoy_before, first_fault}
use Rattle.drift_list.specs.Reading.{count_of, fix_at, read_refusal}
use Rattle.drift_list.proofs.Exact.{refused_at}
use Rattle.drift_list.proofs.judge.judge_list.Given as goal

abbrev pub invariant-loop-k : goal.invariant-loop-k
invariant-loop-k l = (l.count ≡ count_of l.s) × (length l.s ≡ 4 + 12 * l.count) × (l.last ≡ buoy_before (fix_at l.s) l.k) × (first_fault (l.count - l.k) l.k
    (refused_at l.s) ≡ read_refusal l.s)
