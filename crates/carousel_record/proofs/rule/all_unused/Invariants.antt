-- `carousel_record::rule::all_unused` meets its contract. The invariant: the entries left are unused just where all from n on are.
use mathlib.Core.Path.{◌≡◌}
use lib.ListN.{drop}
use Rattle.carousel_record.specs.Record.{all_unused}
use Rattle.carousel_record.proofs.rule.all_unused.Given as goal

abbrev pub invariant-loop-m : goal.invariant-loop-m
invariant-loop-m l = all_unused (drop l.m-index l.m-items) ≡ all_unused l.m-items
