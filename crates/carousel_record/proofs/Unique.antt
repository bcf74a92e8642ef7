-- Each public call of this crate leaves one answer.
use mathlib.Core.Path.{◌≡◌, sym, ◌∙◌}
use contract.Lifetimes.{Lfts}
use borrow.Fn.Kinds.{Dens, res_t, ended_of}
use denote.Triple.Clauses.{AtExit}
use Rattle.wire.proofs.Once.{OneAnswer}
use Rattle.carousel_record.proofs.empty.Kinds as empty-kinds
use Rattle.carousel_record.proofs.empty.Reads as empty-reads
use Rattle.carousel_record.proofs.rule.is_ruled.Kinds as is-ruled-kinds
use Rattle.carousel_record.proofs.rule.is_ruled.Reads as is-ruled-reads
use Rattle.carousel_record.proofs.place_of.Kinds as place-of-kinds
use Rattle.carousel_record.proofs.place_of.Reads as place-of-reads
use Rattle.carousel_record.proofs.slot_of.Kinds as slot-of-kinds
use Rattle.carousel_record.proofs.slot_of.Reads as slot-of-reads
use Rattle.carousel_record.proofs.bytes_of.Kinds as bytes-of-kinds
use Rattle.carousel_record.proofs.bytes_of.Reads as bytes-of-reads
use Rattle.carousel_record.proofs.head_of.Kinds as head-of-kinds
use Rattle.carousel_record.proofs.head_of.Reads as head-of-reads
use Rattle.carousel_record.proofs.joined.Kinds as joined-kinds
use Rattle.carousel_record.proofs.joined.Reads as joined-reads
use Rattle.carousel_record.proofs.entries.place_in.Kinds as place-in-kinds
use Rattle.carousel_record.proofs.entries.place_in.Reads as place-in-reads
use Rattle.carousel_record.proofs.entries.slot_in.Kinds as slot-in-kinds
use Rattle.carousel_record.proofs.entries.slot_in.Reads as slot-in-reads
use Rattle.carousel_record.proofs.Module.listed.Kinds as listed-kinds
use Rattle.carousel_record.proofs.Module.listed.Reads as listed-reads
use Rattle.carousel_record.proofs.entries.numbers_of.Kinds as numbers-of-kinds
use Rattle.carousel_record.proofs.entries.numbers_of.Reads as numbers-of-reads
use Rattle.carousel_record.proofs.marks.set_mark.Kinds as set-mark-kinds
use Rattle.carousel_record.proofs.marks.set_mark.Reads as set-mark-reads
use Rattle.carousel_record.proofs.marks.is_marked.Kinds as is-marked-kinds
use Rattle.carousel_record.proofs.marks.is_marked.Reads as is-marked-reads
use Rattle.carousel_record.proofs.blocks.blocks_of.Kinds as blocks-of-kinds
use Rattle.carousel_record.proofs.blocks.blocks_of.Reads as blocks-of-reads
use Rattle.carousel_record.proofs.blocks.is_block.Kinds as is-block-kinds
use Rattle.carousel_record.proofs.blocks.is_block.Reads as is-block-reads

empty : OneAnswer 0 empty-kinds.ps empty-kinds.r empty-reads.Post
empty κs a x y s t p q = p ∙ sym q

is-ruled : OneAnswer 0 is-ruled-kinds.ps is-ruled-kinds.r is-ruled-reads.Post
is-ruled κs a x y s t p q = p ∙ sym q

place_of_lem : OneAnswer 0 place-of-kinds.ps place-of-kinds.r place-of-reads.Post
place_of_lem κs a x y s t p q = p ∙ sym q

slot_of_lem : OneAnswer 0 slot-of-kinds.ps slot-of-kinds.r slot-of-reads.Post
slot_of_lem κs a x y s t p q = p ∙ sym q

bytes_of_lem : OneAnswer 0 bytes-of-kinds.ps bytes-of-kinds.r bytes-of-reads.Post
bytes_of_lem κs a x y s t p q = p ∙ sym q

head_of_lem : OneAnswer 0 head-of-kinds.ps head-of-kinds.r head-of-reads.Post
head_of_lem κs a x y s t p q = p ∙ sym q

joined : OneAnswer 0 joined-kinds.ps joined-kinds.r joined-reads.Post
joined κs a x y s t p q = p ∙ sym q

place_in : OneAnswer 1 place-in-kinds.ps place-in-kinds.r place-in-reads.Post
place_in κs a x y s t p q = p ∙ sym q

slot_in : OneAnswer 2 slot-in-kinds.ps slot-in-kinds.r slot-in-reads.Post
slot_in κs a x y s t p q = p ∙ sym q

listed : OneAnswer 0 listed-kinds.ps listed-kinds.r listed-reads.Post
listed κs a x y s t p q = p ∙ sym q

numbers_of_lem : OneAnswer 0 numbers-of-kinds.ps numbers-of-kinds.r numbers-of-reads.Post
numbers_of_lem κs a x y s t p q = p ∙ sym q

set-mark : (κs : Lfts 1) (a : Dens κs set-mark-kinds.ps) (x y : (res_t set-mark-kinds.r κs).Denot) (s t : AtExit (ended_of 1 set-mark-kinds.ps set-mark-kinds.r) κs)
    → set-mark-reads.Post κs a x s → set-mark-reads.Post κs a y t → s.0.now ≡ t.0.now
set-mark κs a x y s t p q = p ∙ sym q

is-marked : OneAnswer 1 is-marked-kinds.ps is-marked-kinds.r is-marked-reads.Post
is-marked κs a x y s t p q = p ∙ sym q

blocks_of_lem : OneAnswer 0 blocks-of-kinds.ps blocks-of-kinds.r blocks-of-reads.Post
blocks_of_lem κs a x y s t p q = p.0 ∙ sym q.0

is_block : OneAnswer 0 is-block-kinds.ps is-block-kinds.r is-block-reads.Post
is_block κs a x y s t p q = p ∙ sym q
