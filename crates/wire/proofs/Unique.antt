-- Each public call of this crate leaves one answer, and one buffer.
use mathlib.Core.Path.{◌≡◌, sym, ◌∙◌}
use contract.Lifetimes.{Lfts}
use denote.Triple.Clauses.{AtExit}
use borrow.Fn.Kinds.{Dens, res_t, ended_of}
use Rattle.wire.proofs.Once.{OneAnswer}
use Rattle.wire.proofs.eight_at.Kinds as eight-kinds
use Rattle.wire.proofs.eight_at.Reads as eight-reads
use Rattle.wire.proofs.byte_at.Kinds as byte-kinds
use Rattle.wire.proofs.byte_at.Reads as byte-Reads
use Rattle.wire.proofs.twelve_at.Kinds as twelve-kinds
use Rattle.wire.proofs.twelve_at.Reads as twelve-reads
use Rattle.wire.proofs.sixteen_at.Kinds as sixteen-kinds
use Rattle.wire.proofs.sixteen_at.Reads as sixteen-reads
use Rattle.wire.proofs.thirty_two_at.Kinds as thirty-two-kinds
use Rattle.wire.proofs.thirty_two_at.Reads as thirty-two-reads
use Rattle.wire.proofs.measured_size.Kinds as size-kinds
use Rattle.wire.proofs.measured_size.Reads as size-reads
use Rattle.wire.proofs.measured_end.Kinds as end-kinds
use Rattle.wire.proofs.measured_end.Reads as end_reads
use Rattle.wire.proofs.rest.Kinds as rest-kinds
use Rattle.wire.proofs.rest.Reads as rest-reads
use Rattle.wire.proofs.bytes_at.Kinds as bytes-at-kinds
use Rattle.wire.proofs.bytes_at.Reads as bytes-at-reads
use Rattle.wire.proofs.copies.is_equal.Kinds as equal-kinds
use Rattle.wire.proofs.copies.is_equal.Reads as equal-reads
use Rattle.wire.proofs.copies.copy_at.Kinds as copy-kinds
use Rattle.wire.proofs.copies.copy_at.Reads as copy-reads

eight-at : OneAnswer 1 eight-kinds.ps eight-kinds.r eight-reads.Post
eight-at κs a x y s t p q = p.0 ∙ sym q.0

byte-at : OneAnswer 1 byte-kinds.ps byte-kinds.r byte-Reads.Post
byte-at κs a x y s t p q = p.0 ∙ sym q.0

twelve-at : OneAnswer 1 twelve-kinds.ps twelve-kinds.r twelve-reads.Post
twelve-at κs a x y s t p q = p.0 ∙ sym q.0

sixteen-at : OneAnswer 1 sixteen-kinds.ps sixteen-kinds.r sixteen-reads.Post
sixteen-at κs a x y s t p q = p.0 ∙ sym q.0

thirty-two-at : OneAnswer 1 thirty-two-kinds.ps thirty-two-kinds.r thirty-two-reads.Post
thirty-two-at κs a x y s t p q = p.0 ∙ sym q.0

measured-size : OneAnswer 1 size-kinds.ps size-kinds.r size-reads.Post
measured-size κs a x y s t p q = p ∙ sym q

measured_end : OneAnswer 1 end-kinds.ps end-kinds.r end_reads.Post
measured_end κs a x y s t p q = p ∙ sym q

rest : OneAnswer 1 rest-kinds.ps rest-kinds.r rest-reads.Post
rest κs a x y s t p q = p ∙ sym q

bytes-at : OneAnswer 1 bytes-at-kinds.ps bytes-at-kinds.r bytes-at-reads.Post
bytes-at κs a x y s t p q = p ∙ sym q

is-equal : OneAnswer 2 equal-kinds.ps equal-kinds.r equal-reads.Post
is-equal κs a x y s t p q = p ∙ sym q

copy_at : (κs : Lfts 2) (a : Dens κs copy-kinds.ps) (x y : (res_t copy-kinds.r κs).Denot) (s t : AtExit (ended_of 2 copy-kinds.ps copy-kinds.r) κs)
    → copy-reads.Post κs a x s → copy-reads.Post κs a y t → s.0.now ≡ t.0.now
copy_at κs a x y s t p q = p ∙ sym q
