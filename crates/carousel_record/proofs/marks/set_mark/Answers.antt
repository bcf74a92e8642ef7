-- `carousel_record::marks::set_mark` meets its contract: one bit of one word; past the words, none.
use Prim.Native.Nat.{◌%◌, ◌/◌}
use mathlib.Core.Path.{sym}
use lib.Seq.{set_out}
use Rattle.carousel_record.specs.Marks.{marks_with}
use Rattle.carousel_record.proofs.Laws.Words.{one_shl}
use borrow.Author.Rules.{rules}
use Rattle.carousel_record.proofs.marks.set_mark.Goals as goal

pub returns-then-words-word : goal.returns-then-words-word
unfolding marks_with
returns-then-words-word c = sym (set_out c.args.words.now (c.args.k / 32) _ c.if-words-word.true)

pub returns : goal.returns
unfolding marks_with
returns c = rw (one_shl (c.args.k % 32) (search rules))
