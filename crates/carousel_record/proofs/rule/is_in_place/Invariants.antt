-- `carousel_record::rule::is_in_place` meets its contract. The invariant: the words left keep to the numbers of blocks left just where all keep to all.
use mathlib.Core.Path.{◌≡◌}
use mathlib.Core.List.{map}
use Prim.Native.Nat.{◌*◌, ◌≤◌}
use lib.ListN.{take, drop}
use Rattle.carousel_record.specs.Blocks.{blocks_of}
use Rattle.carousel_record.specs.Marks.{module_words, marks_within}
use Rattle.carousel_messages.specs.Heard.{sizes_of}
use Rattle.carousel_record.specs.Record.{listed_in}
use Rattle.carousel_record.proofs.rule.is_in_place.Given as goal

abbrev pub invariant-loop-i : goal.invariant-loop-i
invariant-loop-i l =
    (l.i ≤ l.n)
    × (marks_within module_words (map (λ z. blocks_of l.c.block_size z) (sizes_of (drop l.i (map listed_in (take l.n l.ms))))) (drop (module_words * l.i) l.words)
    ≡ marks_within module_words (map (λ z. blocks_of l.c.block_size z) (sizes_of (map listed_in (take l.n l.ms)))) l.words)
