-- Each public call leaves one answer, and the writer one content of what it was lent.
use mathlib.Core.Path.{◌≡◌, sym, ◌∙◌}
use contract.Lifetimes.{Lfts}
use borrow.Fn.Kinds.{Dens, res_t, ended_of}
use denote.Triple.Clauses.{AtExit}
use Rattle.wire.proofs.Once.{OneAnswer}
use Rattle.drift_list.proofs.read.Kinds as read-kinds
use Rattle.drift_list.proofs.read.Reads as read-reads
use Rattle.drift_list.proofs.record_at.Kinds as record-kinds
use Rattle.drift_list.proofs.record_at.Reads as record-reads
use Rattle.drift_list.proofs.walk_at.Kinds as walk-kinds
use Rattle.drift_list.proofs.walk_at.Reads as walk-reads
use Rattle.drift_list.proofs.state_number.Kinds as state-kinds
use Rattle.drift_list.proofs.state_number.Reads as state-reads
use Rattle.drift_list.proofs.write.Kinds as write-kinds
use Rattle.drift_list.proofs.write.Reads as write-reads

read : OneAnswer 1 read-kinds.ps read-kinds.r read-reads.Post
read κs a x y s t p q = p ∙ sym q

record-at : OneAnswer 1 record-kinds.ps record-kinds.r record-reads.Post
record-at κs a x y s t p q = p ∙ sym q

walk_at : OneAnswer 1 walk-kinds.ps walk-kinds.r walk-reads.Post
walk_at κs a x y s t p q = p ∙ sym q

state-number : OneAnswer 0 state-kinds.ps state-kinds.r state-reads.Post
state-number κs a x y s t p q = p ∙ sym q

write : OneAnswer 2 write-kinds.ps write-kinds.r write-reads.Post
write κs a x y s t p q = p.0 ∙ sym q.0

write-left : (κs : Lfts 2) (a : Dens κs write-kinds.ps) (x y : (res_t write-kinds.r κs).Denot) (s t : AtExit (ended_of 2 write-kinds.ps write-kinds.r) κs)
    → write-reads.Post κs a x s → write-reads.Post κs a y t → s.1.1.1.0.now ≡ t.1.1.1.0.now
write-left κs a x y s t p q = p.1 ∙ sym q.1
