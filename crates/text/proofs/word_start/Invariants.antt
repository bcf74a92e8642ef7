-- `word_start` meets its contract. The invariant: the word is that of what is left.
use Prim.Native.Nat.{◌≤◌}
use mathlib.Core.Path.{◌≡◌}
use lib.ListN.{length, drop}
use Rattle.text.specs.Text.{word_at}
use Rattle.text.proofs.word_start.Given as goal

abbrev pub invariant-loop-i : goal.invariant-loop-i
invariant-loop-i l = (l.i ≤ length l.words) × (word_at l.left (drop l.i l.words) ≡ word_at l.k l.words)
