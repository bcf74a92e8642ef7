-- `carousel_record::marks::is_clear_from` meets its contract. The invariant: the words left have no mark from what is left of n on just where all have none from n on.
use mathlib.Core.Path.{refl, sym, ap, ◌∙◌}
use mathlib.Core.List.{List}
use Prim.Native.Nat.{ℕ, ◌-◌}
use native.Mathlib.Omega.{arith}
use lib.ListN.{length, drop, length-drop}
use lib.Seq.{take_all}
use Rattle.carousel_record.specs.Marks.{clear_from}
use Rattle.carousel_record.proofs.Laws.Words.{word-off, word_next, word-done}
use Rattle.carousel_record.proofs.marks.is_clear_from.Goals as goal
use Rattle.carousel_record.proofs.marks.is_clear_from.Goals.{At-loop-i}

-- the places that stand before a place, by name
abbrev given : At-loop-i → List ℕ
given h = h.args.words.now

pub loop-i-init : goal.loop-i-init
loop-i-init c = refl

-- nothing is left of n: the rest of the words is clear, or not
pub returns-then-left-eq0 : goal.returns-then-left-eq0
returns-then-left-eq0 c =
    let l = c.loop-i in
    let ws = given (goal.at.returns-then-left-eq0 c).At-loop-i in
    let d = length-drop l.i ws in
    c.is_zero.ensures
    ∙ ap (λ (us : List ℕ). clear_from 0 us) (take_all (length ws - l.i) (drop l.i ws) (omega arith))
    ∙ ap (λ (m : ℕ). clear_from m (drop l.i ws)) (sym c.if-left-eq0.true)
    ∙ l.invariant

pub returns-then-not-is_word_clear : goal.returns-then-not-is_word_clear
returns-then-not-is_word_clear c =
    let l = c.loop-i in
    sym (word-off (given (goal.at.returns-then-not-is_word_clear c).At-loop-i) l.i l.left (omega arith) (sym c.is_word_clear.ensures ∙ c.if-not-is_word_clear.true)) ∙ l.invariant

pub loop-i-preserved : goal.loop-i-preserved
loop-i-preserved c =
    let l = c.loop-i in
    rw c.saturating_sub-left.ensures
    (word_next (given (goal.at.loop-i-preserved c).At-loop-i) l.i l.left (omega arith) (sym c.is_word_clear.ensures ∙ c.if-not-is_word_clear.false) ∙ l.invariant)

pub returns : goal.returns
returns c =
    let l = c.loop-i in
    sym (word-done (given (goal.at.returns c).At-loop-i) l.i l.left (omega arith)) ∙ l.invariant
