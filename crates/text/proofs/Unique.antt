-- Each public call of this crate leaves one answer, and one text in what it was lent.
use mathlib.Core.Path.{◌≡◌, sym, ◌∙◌}
use contract.Lifetimes.{Lfts}
use borrow.Fn.Kinds.{Dens, res_t, ended_of}
use denote.Triple.Clauses.{AtExit}
use Rattle.wire.proofs.Once.{OneAnswer}
use Rattle.text.proofs.put.Kinds as put-kinds
use Rattle.text.proofs.put.Reads as put_reads
use Rattle.text.proofs.put_word.Kinds as word-kinds
use Rattle.text.proofs.put_word.Reads as word-reads
use Rattle.text.proofs.put_decimal.Kinds as decimal-kinds
use Rattle.text.proofs.put_decimal.Reads as decimal-reads
use Rattle.text.proofs.read_decimal.Kinds as read-kinds
use Rattle.text.proofs.read_decimal.Reads as read-reads

put : OneAnswer 2 put-kinds.ps put-kinds.r put_reads.Post
put κs a x y s t p q = p.1 ∙ sym q.1

put-text : (κs : Lfts 2) (a : Dens κs put-kinds.ps) (x y : (res_t put-kinds.r κs).Denot) (s t : AtExit (ended_of 2 put-kinds.ps put-kinds.r) κs)
    → put_reads.Post κs a x s → put_reads.Post κs a y t → s.0.now ≡ t.0.now
put-text κs a x y s t p q = p.0 ∙ sym q.0

put_word : OneAnswer 2 word-kinds.ps word-kinds.r word-reads.Post
put_word κs a x y s t p q = p.1 ∙ sym q.1

put-word-text : (κs : Lfts 2) (a : Dens κs word-kinds.ps) (x y : (res_t word-kinds.r κs).Denot) (s t : AtExit (ended_of 2 word-kinds.ps word-kinds.r) κs)
    → word-reads.Post κs a x s → word-reads.Post κs a y t → s.0.now ≡ t.0.now
put-word-text κs a x y s t p q = p.0 ∙ sym q.0

put-decimal : OneAnswer 1 decimal-kinds.ps decimal-kinds.r decimal-reads.Post
put-decimal κs a x y s t p q = p.1 ∙ sym q.1

put-decimal-text : (κs : Lfts 1) (a : Dens κs decimal-kinds.ps) (x y : (res_t decimal-kinds.r κs).Denot) (s t : AtExit (ended_of 1 decimal-kinds.ps decimal-kinds.r) κs)
    → decimal-reads.Post κs a x s → decimal-reads.Post κs a y t → s.0.now ≡ t.0.now
put-decimal-text κs a x y s t p q = p.0 ∙ sym q.0

read-decimal : OneAnswer 1 read-kinds.ps read-kinds.r read-reads.Post
read-decimal κs a x y s t p q = p ∙ sym q
