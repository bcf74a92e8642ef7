-- The public call of this crate leaves one answer, one state, one buffer and one image.
use mathlib.Core.Path.{◌≡◌, sym, ◌∙◌}
use contract.Lifetimes.{Lfts}
use denote.Triple.Clauses.{AtExit}
use borrow.Fn.Kinds.{Dens, res_t, ended_of}
use Rattle.wire.proofs.Once.{OneAnswer}
use Rattle.transport_run.proofs.run_packets.Kinds as run-kinds
use Rattle.transport_run.proofs.run_packets.Reads as run-reads

run-packets : OneAnswer 4 run-kinds.ps run-kinds.r run-reads.Post
run-packets κs a x y s t p q = p.0 ∙ sym q.0

run-packets-left : (κs : Lfts 4) (a : Dens κs run-kinds.ps) (x y : (res_t run-kinds.r κs).Denot) (s t : AtExit (ended_of 4 run-kinds.ps run-kinds.r) κs)
    → run-reads.Post κs a x s → run-reads.Post κs a y t
    → (s.1.1.1.0.now ≡ t.1.1.1.0.now) × (s.1.1.1.1.0.now ≡ t.1.1.1.1.0.now) × (s.1.1.1.1.1.0.now ≡ t.1.1.1.1.1.0.now)
run-packets-left κs a x y s t p q = (p.1 ∙ sym q.1, p.2 ∙ sym q.2, p.3 ∙ sym q.3)
