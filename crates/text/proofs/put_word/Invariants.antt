-- `put_word` meets its contract. The invariant: the rest of the word, put from here on, leaves what the whole word leaves.
use mathlib.Core.Path.{◌≡◌}
use lib.ListN.{length, drop}
use Rattle.text.specs.Text.{word_at}
use Rattle.text.proofs.Laws.Puts.{Writing}
use Rattle.text.proofs.put_word.Given as goal

abbrev pub invariant-loop-letter : goal.invariant-loop-letter
invariant-loop-letter l = (length l.out ≡ length l.initial.out) × Writing l.out l.end (word_at 0 (drop l.letter-index l.letter-items)) l.initial.out l.at (word_at l.k l.words)
