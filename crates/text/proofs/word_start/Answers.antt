-- `word_start` meets its contract. The invariant: the word is that of what is left.
use Prim.Native.Nat.{ℕ, ◌+◌}
use mathlib.Core.Path.{sym, ap, ◌∙◌}
use mathlib.Core.List.{List}
use native.Mathlib.Omega.{arith}
use lib.ListN.{length, drop}
use Rattle.text.specs.Text.{word_at}
use Rattle.text.proofs.Laws.Words.{word_none, word-passed, word-within}
use Rattle.text.proofs.word_start.Goals as goal
use Rattle.text.proofs.word_start.Goals.{then-byte-eq32, else-byte-eq32}

pub returns-then-left-eq0 : goal.returns-then-left-eq0
returns-then-left-eq0 c =
    let s = c.args.words.now in
    let l = c.loop-i in
    (omega arith, ap (λ (k : ℕ). word_at k (drop l.i s)) (sym c.if-left-eq0.true) ∙ l.invariant.1)

pub loop-i-preserved : goal.loop-i-preserved
loop-i-preserved c =
    let s = c.args.words.now in
    let l = c.loop-i in
    let some = c.if-left-eq0.false in
    let from : ℕ → List ℕ = λ k. word_at k (drop (l.i + 1) s) in (
      omega arith,
      elim c.if-byte-eq32.branch [
        | then-byte-eq32 w ↦ ap from w.left-is ∙ word-passed s l.i (omega arith) l.left some w.if-byte-eq32.true
        | else-byte-eq32 w ↦ ap from w.left-is ∙ word-within s l.i (omega arith) l.left some w.if-byte-eq32.false
      ] ∙ l.invariant.1,
    )

pub returns : goal.returns
returns c =
    let s = c.args.words.now in
    let l = c.loop-i in
    let n = length s in
    (omega arith, word_none 0 s n (omega arith) ∙ sym (word_none l.left s l.i (omega arith)) ∙ l.invariant.1)
