-- `carousel_record::rule::is_running` meets its contract. The invariant: the starts left are the running sums from this sum on just where all are those from 0 on.
use mathlib.Core.Path.{◌≡◌}
use mathlib.Core.List.{map}
use Prim.Native.Nat.{◌*◌, ◌≤◌}
use lib.ListN.{drop}
use Rattle.wire.specs.Copies.{same_numbers}
use Rattle.carousel_messages.specs.Heard.{sizes_of}
use Rattle.carousel_record.specs.Record.{listed_in, start_in, sums}
use Rattle.carousel_record.proofs.rule.is_running.Given as goal

abbrev pub invariant-loop-m : goal.invariant-loop-m
invariant-loop-m l =
    (l.sum ≤ l.m-index * 4294967295)
    × (same_numbers (map start_in (drop l.m-index l.m-items)) (sums l.sum (sizes_of (map listed_in (drop l.m-index l.m-items))))
    ≡ same_numbers (map start_in l.m-items) (sums 0 (sizes_of (map listed_in l.m-items))))
