-- `carousel_handout::lacks::lack_among` meets its contract. The invariant: what is told so far is told of the blocks from b on.
use mathlib.Core.Path.{◌≡◌}
use Prim.Native.Nat.{◌-◌, ◌≤◌}
use Rattle.carousel_record.specs.Marks.{clear_among}
use Rattle.carousel_handout.specs.Calls.{lack_of}
use Rattle.carousel_handout.proofs.lacks.lack_among.Given as goal

abbrev pub invariant-loop-b : goal.invariant-loop-b
invariant-loop-b l = (l.b ≤ l.n) × (l.lack ≡ lack_of (clear_among l.words l.first l.b (l.n - l.b)))
