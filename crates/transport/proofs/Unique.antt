-- Each public call of this crate leaves one answer, one state and one buffer.
use mathlib.Core.Path.{◌≡◌, sym, ◌∙◌}
use contract.Lifetimes.{Lfts}
use denote.Triple.Clauses.{AtExit}
use borrow.Fn.Kinds.{Dens, res_t, ended_of}
use Rattle.wire.proofs.Once.{OneAnswer}
use Rattle.transport.proofs.feed.Kinds as feed-kinds
use Rattle.transport.proofs.feed.Reads as feed-reads
use Rattle.transport.proofs.gather.Kinds as gather-kinds
use Rattle.transport.proofs.gather.Reads as gather-reads

feed : OneAnswer 3 feed-kinds.ps feed-kinds.r feed-reads.Post
feed κs a x y s t p q = p.0 ∙ sym q.0

feed-left : (κs : Lfts 3) (a : Dens κs feed-kinds.ps) (x y : (res_t feed-kinds.r κs).Denot) (s t : AtExit (ended_of 3 feed-kinds.ps feed-kinds.r) κs)
    → feed-reads.Post κs a x s → feed-reads.Post κs a y t → (s.1.1.0.now ≡ t.1.1.0.now) × (s.1.1.1.0.now ≡ t.1.1.1.0.now)
feed-left κs a x y s t p q = (p.1 ∙ sym q.1, p.2 ∙ sym q.2)

gather : OneAnswer 3 gather-kinds.ps gather-kinds.r gather-reads.Post
gather κs a x y s t p q = p.0 ∙ sym q.0

gather-left : (κs : Lfts 3) (a : Dens κs gather-kinds.ps) (x y : (res_t gather-kinds.r κs).Denot) (s t : AtExit (ended_of 3 gather-kinds.ps gather-kinds.r) κs)
    → gather-reads.Post κs a x s → gather-reads.Post κs a y t → (s.1.1.0.now ≡ t.1.1.0.now) × (s.1.1.1.0.now ≡ t.1.1.1.0.now)
gather-left κs a x y s t p q = (p.1 ∙ sym q.1, p.2 ∙ sym q.2)
