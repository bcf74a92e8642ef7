-- `carousel_record::marks::is_marked` meets its contract. Past the words a mark reads as clear.
use Rattle.carousel_record.specs.Marks.{is_marked}
use Prim.Native.Nat.{◌%◌, ◌^◌}
use native.Mathlib.Nat.{zero-div}
use lib.ListN.{get_or-eq_default}
use borrow.Author.Rules.{rules}
use Rattle.carousel_record.proofs.marks.is_marked.Goals as goal

pub returns-then-words-w : goal.returns-then-words-w
unfolding is_marked
returns-then-words-w c =
    let p = c.args in
    rw (get_or-eq_default p.words.now 0 c.if-words-w.true, zero-div (2 ^ (p.k % 32)))

pub returns : goal.returns
unfolding is_marked
returns c = search rules
