-- `put_word` meets its contract. The invariant: the rest of the word, put from here on, leaves what the whole word leaves.
use mathlib.Core.Path.{◌≡◌, ◌∙◌}
use mathlib.Core.List.{List, [], ◌∷◌}
use Prim.Native.Nat.{ℕ, ◌+◌, ◌-◌}
use native.Mathlib.Omega.{arith}
use lib.ListN.{length, take, drop, get_or}
use Rattle.text.specs.Text.{word_at}
use Rattle.text.proofs.Laws.Puts.{Puts, writing-on, writing-done}
use Rattle.text.proofs.Laws.Words.{word_none, word-ends, word_letter}
use Rattle.text.proofs.put_word.Goals as goal
use Rattle.text.proofs.put_word.Goals.{At-loop-letter}

-- the bytes from the word's beginning on
abbrev from : At-loop-letter → List ℕ
from c = let w = c.args.words.now in take (length w - c.word_start.result) (drop c.word_start.result w)

-- nothing is left of the word
done : (c : At-loop-letter) → let a = c.args in let l = c.loop-letter in
    word_at 0 (drop l.letter-index (from c)) ≡ [] → Puts a.out.now a.at (word_at a.k a.words.now) l.out l.end
done c e = let l = c.loop-letter in let a = c.args in writing-done l.out l.end _ a.out.now a.at (word_at a.k a.words.now) l.invariant.1 e

pub returns-then-letter-eq32 : goal.returns-then-letter-eq32
returns-then-letter-eq32 c =
    done (goal.at.returns-then-letter-eq32 c).At-loop-letter (word-ends _ c.loop-letter.letter-index (omega arith) c.if-letter-eq32.true)

pub loop-letter-preserved : goal.loop-letter-preserved
loop-letter-preserved c =
    let l = c.loop-letter in
    let a = c.args in
    let w = from (goal.at.loop-letter-preserved c).At-loop-letter in
    let next = word_letter w l.letter-index (omega arith) c.if-letter-eq32.false in (
      c.put_byte-end.auto.out ∙ l.invariant.0,
      writing-on l.out l.end _ a.out.now a.at (word_at a.k a.words.now) (get_or w l.letter-index 0 ∷ []) (word_at 0 (drop (l.letter-index + 1) w)) _ _
          l.invariant.1 next c.put_byte-end.ensures,
    )

pub returns : goal.returns
returns c = done (goal.at.returns c).At-loop-letter (word_none 0 _ c.loop-letter.letter-index (omega arith))
