-- Each public call of this crate leaves one answer, and one buffer.
use mathlib.Core.Path.{◌≡◌, sym, ◌∙◌}
use contract.Lifetimes.{Lfts}
use denote.Triple.Clauses.{AtExit}
use borrow.Fn.Kinds.{Dens, res_t, ended_of}
use Rattle.wire.proofs.Once.{OneAnswer}
use Rattle.carousel_play.proofs.section_count.Kinds as count-kinds
use Rattle.carousel_play.proofs.section_count.Reads as count-reads
use Rattle.carousel_play.proofs.write_section.Kinds as write-kinds
use Rattle.carousel_play.proofs.write_section.Reads as write-reads

section-count : OneAnswer 0 count-kinds.ps count-kinds.r count-reads.Post
section-count κs a x y s t p q = p ∙ sym q

write-section : OneAnswer 2 write-kinds.ps write-kinds.r write-reads.Post
write-section κs a x y s t p q = p.0 ∙ sym q.0

write-section-left : (κs : Lfts 2) (a : Dens κs write-kinds.ps) (x y : (res_t write-kinds.r κs).Denot) (s t : AtExit (ended_of 2 write-kinds.ps write-kinds.r) κs)
    → write-reads.Post κs a x s → write-reads.Post κs a y t → s.1.1.1.1.0.now ≡ t.1.1.1.1.0.now
write-section-left κs a x y s t p q = p.1 ∙ sym q.1
