-- Each public call of this crate leaves one answer. `part` hands out a part of the lent slice: its bytes are determined, and where they stand
-- in memory is no matter of a contract.
use mathlib.Core.Path.{◌≡◌, sym, ◌∙◌}
use contract.Lifetimes.{Lfts}
use borrow.Fn.Kinds.{Dens, res_t, ended_of}
use denote.Triple.Clauses.{AtExit}
use Rattle.wire.proofs.Once.{OneAnswer}
use Rattle.ait_read.proofs.read.Kinds as read-kinds
use Rattle.ait_read.proofs.read.Reads as read-reads
use Rattle.ait_read.proofs.acceptance.judge_by.Kinds as judge-by-kinds
use Rattle.ait_read.proofs.acceptance.judge_by.Reads as judge-by-reads
use Rattle.ait_read.proofs.application_at.Kinds as application-at-kinds
use Rattle.ait_read.proofs.application_at.Reads as application-at-reads
use Rattle.ait_read.proofs.descriptor_at.Kinds as descriptor-at-kinds
use Rattle.ait_read.proofs.descriptor_at.Reads as descriptor-at-reads
use Rattle.ait_read.proofs.item_at.Kinds as item-at-kinds
use Rattle.ait_read.proofs.item_at.Reads as item-at-reads
use Rattle.ait_read.proofs.extension_at.Kinds as extension-at-kinds
use Rattle.ait_read.proofs.extension_at.Reads as extension-at-reads
use Rattle.ait_read.proofs.labels.resolve.Kinds as resolve-kinds
use Rattle.ait_read.proofs.labels.resolve.Reads as resolve-reads
use Rattle.ait_read.proofs.classes.class_of.Kinds as class-of-kinds
use Rattle.ait_read.proofs.classes.class_of.Reads as class-of-reads
use Rattle.ait_read.proofs.classes.control_of.Kinds as control-of-kinds
use Rattle.ait_read.proofs.classes.control_of.Reads as control-of-reads
use Rattle.ait_read.proofs.part.Kinds as part-kinds
use Rattle.ait_read.proofs.part.Reads as part-reads

read : OneAnswer 1 read-kinds.ps read-kinds.r read-reads.Post
read κs a x y s t p q = p.0 ∙ sym q.0

judge-by : OneAnswer 1 judge-by-kinds.ps judge-by-kinds.r judge-by-reads.Post
judge-by κs a x y s t p q = p ∙ sym q

application-at : OneAnswer 1 application-at-kinds.ps application-at-kinds.r application-at-reads.Post
application-at κs a x y s t p q = p.0 ∙ sym q.0

descriptor-at : OneAnswer 1 descriptor-at-kinds.ps descriptor-at-kinds.r descriptor-at-reads.Post
descriptor-at κs a x y s t p q = p.0 ∙ sym q.0

item-at : OneAnswer 1 item-at-kinds.ps item-at-kinds.r item-at-reads.Post
item-at κs a x y s t p q = p.0 ∙ sym q.0

extension-at : OneAnswer 1 extension-at-kinds.ps extension-at-kinds.r extension-at-reads.Post
extension-at κs a x y s t p q = p.0 ∙ sym q.0

resolve : OneAnswer 1 resolve-kinds.ps resolve-kinds.r resolve-reads.Post
resolve κs a x y s t p q = p.0 ∙ sym q.0

class_of_lem : OneAnswer 0 class-of-kinds.ps class-of-kinds.r class-of-reads.Post
class_of_lem κs a x y s t p q = p ∙ sym q

control_of_lem : OneAnswer 0 control-of-kinds.ps control-of-kinds.r control-of-reads.Post
control_of_lem κs a x y s t p q = p ∙ sym q

part : (κs : Lfts 1) (a : Dens κs part-kinds.ps) (x y : (res_t part-kinds.r κs).Denot) (s t : AtExit (ended_of 1 part-kinds.ps part-kinds.r) κs)
    → part-reads.Post κs a x s → part-reads.Post κs a y t → x.now ≡ y.now
part κs a x y s t p q = p ∙ sym q
