-- Each public call of this crate leaves one answer. `handout` hands out a part of the lent image: its bytes are determined, and where they stand in memory is
-- no matter of a contract.
use mathlib.Core.Path.{◌≡◌, sym, ◌∙◌}
use contract.Lifetimes.{Lfts}
use borrow.Fn.Kinds.{Dens, res_t, ended_of}
use denote.Triple.Clauses.{AtExit}
use Rattle.wire.proofs.Once.{OneAnswer}
use Rattle.carousel_handout.proofs.handout_place.Kinds as handout-place-kinds
use Rattle.carousel_handout.proofs.handout_place.Reads as handout-place-reads
use Rattle.carousel_handout.proofs.handout.Kinds as handout-kinds
use Rattle.carousel_handout.proofs.handout.Reads as handout-reads
use Rattle.carousel_handout.proofs.missing.Kinds as missing-kinds
use Rattle.carousel_handout.proofs.missing.Reads as missing-reads

handout-place : OneAnswer 1 handout-place-kinds.ps handout-place-kinds.r handout-place-reads.Post
handout-place κs a x y s t p q = p.0 ∙ sym q.0

missing : OneAnswer 0 missing-kinds.ps missing-kinds.r missing-reads.Post
missing κs a x y s t p q = p.0 ∙ sym q.0

handout : (κs : Lfts 1) (a : Dens κs handout-kinds.ps) (x y : (res_t handout-kinds.r κs).Denot) (s t : AtExit (ended_of 1 handout-kinds.ps handout-kinds.r) κs)
    → handout-reads.Post κs a x s → handout-reads.Post κs a y t → x.now ≡ y.now
handout κs a x y s t p q = p ∙ sym q
