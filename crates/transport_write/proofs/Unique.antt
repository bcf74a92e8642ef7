-- The public call of this crate leaves one answer, and one buffer.
use mathlib.Core.Path.{◌≡◌, sym, ◌∙◌}
use contract.Lifetimes.{Lfts}
use denote.Triple.Clauses.{AtExit}
use borrow.Fn.Kinds.{Dens, res_t, ended_of}
use Rattle.wire.proofs.Once.{OneAnswer}
use Rattle.transport_write.proofs.write_packets.Kinds as write-kinds
use Rattle.transport_write.proofs.write_packets.Reads as write-reads

write-packets : OneAnswer 2 write-kinds.ps write-kinds.r write-reads.Post
write-packets κs a x y s t p q = p.0 ∙ sym q.0

write-packets-left : (κs : Lfts 2) (a : Dens κs write-kinds.ps) (x y : (res_t write-kinds.r κs).Denot) (s t : AtExit (ended_of 2 write-kinds.ps write-kinds.r) κs)
    → write-reads.Post κs a x s → write-reads.Post κs a y t → s.1.1.1.0.now ≡ t.1.1.1.0.now
write-packets-left κs a x y s t p q = p.1 ∙ sym q.1
