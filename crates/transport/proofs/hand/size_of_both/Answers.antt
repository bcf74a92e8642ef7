-- `transport::hand::size_of_both` meets its contract: too few bytes, stuffing, too few for what is said; else what is said.
use Prim.Native.Nat.{ℕ, ◌+◌, ◌*◌, ◌%◌, ◌≤◌}
use mathlib.Core.Path.{◌≡◌, sym, ap, ◌∙◌}
use mathlib.Core.List.{List, ◌++◌}
use native.Mathlib.Omega.{arith}
use lib.ListN.{length, length-append}
use Rattle.wire.specs.Items.{sized}
use Rattle.wire.proofs.Laws.Sizes.{sized-some}
use Rattle.section.specs.Whole.{said_length}
use Rattle.section.proofs.Laws.Whole.{whole-few, whole_stuffing, whole-short, whole_is}
use Rattle.transport.proofs.Laws.Hands.{said-by}
use Rattle.transport.proofs.hand.size_of_both.Goals as goal
use Rattle.transport.proofs.hand.size_of_both.Goals.{After-byte_of_both-3, Else-there-lt3, Start}

abbrev parts : Start → List ℕ
parts s = s.args.a.now ++ s.args.b.now

together : (s : Start) → length (parts s) ≡ length s.args.a.now + length s.args.b.now
together s = length-append s.args.a.now s.args.b.now

-- what is said, by the code's sum
said : (c : After-byte_of_both-3) → 3 + c.byte_of_both-2.result % 16 * 256 + c.byte_of_both-3.result ≡ said_length (parts ((goal.at.After-byte_of_both-3 c).Start))
said c = said-by (parts ((goal.at.After-byte_of_both-3 c).Start)) _ _ c.byte_of_both-2.ensures.0 c.byte_of_both-3.ensures.0 c.byte_of_both-3.ensures.1

pub returns-then-there-lt3 : goal.returns-then-there-lt3
returns-then-there-lt3 c =
    let t = together (goal.at.returns-then-there-lt3 c).Start in
    (ap sized (sym (whole-few (parts (goal.at.returns-then-there-lt3 c).Start) (omega (arith, t, c.if-there-lt3.true)))), tt)

pub returns-then-byte_of_both : goal.returns-then-byte_of_both
returns-then-byte_of_both c =
    (ap sized (sym (whole_stuffing (parts (goal.at.returns-then-byte_of_both c).Start) (sym c.byte_of_both.ensures.0 ∙ c.if-byte_of_both.true))), tt)

three : (c : Else-there-lt3) → 3 ≤ length (parts ((goal.at.Else-there-lt3 c).Start))
three c = let t = together ((goal.at.Else-there-lt3 c).Start) in omega (arith, t, c.if-there-lt3.false)

pub returns-then-there-n : goal.returns-then-there-n
returns-then-there-n c =
    let t = together (goal.at.returns-then-there-n c).Start in
    let n = said (goal.at.returns-then-there-n c).After-byte_of_both-3 in
    (ap sized (sym (whole-short (parts (goal.at.returns-then-there-n c).Start) (three (goal.at.returns-then-there-n c).Else-there-lt3) (omega (arith, t, n, c.if-there-n.true)))), tt)

pub returns : goal.returns
returns c =
    let t = together (goal.at.returns c).Start in
    let n = said (goal.at.returns c).After-byte_of_both-3 in
    let w = whole_is (parts (goal.at.returns c).Start) (three (goal.at.returns c).Else-there-lt3) (λ f. c.if-byte_of_both.false (c.byte_of_both.ensures.0 ∙ f)) (omega
    (arith, t, n, c.if-there-n.false)) in
    (sized-some (3 + c.byte_of_both-2.result % 16 * 256 + c.byte_of_both-3.result) (omega arith) ∙ ap sized (n ∙ sym w), c.if-there-n.false)
