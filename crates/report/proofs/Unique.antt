-- The public call of this crate leaves one answer, one text and one image.
use mathlib.Core.Path.{◌≡◌, sym, ◌∙◌}
use contract.Lifetimes.{Lfts}
use borrow.Fn.Kinds.{Dens, res_t, ended_of}
use denote.Triple.Clauses.{AtExit}
use Rattle.wire.proofs.Once.{OneAnswer}
use Rattle.report.proofs.write_report.Kinds as kinds
use Rattle.report.proofs.write_report.Reads as reads

write_report : OneAnswer 3 kinds.ps kinds.r reads.Post
write_report κs a x y s t p q = p.1 ∙ sym q.1

text_and-image : (κs : Lfts 3) (a : Dens κs kinds.ps) (x y : (res_t kinds.r κs).Denot) (s t : AtExit (ended_of 3 kinds.ps kinds.r) κs)
    → reads.Post κs a x s → reads.Post κs a y t → (s.1.1.0.now ≡ t.1.1.0.now) × (s.1.0.now ≡ t.1.0.now)
text_and-image κs a x y s t p q = (p.0 ∙ sym q.0, p.2 ∙ sym q.2)
