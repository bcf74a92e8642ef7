-- Each public call of this crate leaves one answer.
use mathlib.Core.Path.{sym, ◌∙◌}
use Rattle.wire.proofs.Once.{OneAnswer}
use Rattle.ait_numbers.proofs.table.Kinds as table-kinds
use Rattle.ait_numbers.proofs.table.Reads as table-reads
use Rattle.ait_numbers.proofs.application.Kinds as application-kinds
use Rattle.ait_numbers.proofs.application.Reads as application-reads
use Rattle.ait_numbers.proofs.descriptor.Kinds as descriptor-kinds
use Rattle.ait_numbers.proofs.descriptor.Reads as descriptor-reads
use Rattle.ait_numbers.proofs.item.Kinds as item-kinds
use Rattle.ait_numbers.proofs.item.Reads as item-reads
use Rattle.ait_numbers.proofs.extension.Kinds as extension-kinds
use Rattle.ait_numbers.proofs.extension.Reads as extension-reads
use Rattle.ait_numbers.proofs.label.Kinds as label-kinds
use Rattle.ait_numbers.proofs.label.Reads as label-reads
use Rattle.ait_numbers.proofs.spot_number.Kinds as spot-number-kinds
use Rattle.ait_numbers.proofs.spot_number.Reads as spot-number-reads

table : OneAnswer 1 table-kinds.ps table-kinds.r table-reads.Post
table κs a x y s t p q = p ∙ sym q

application : OneAnswer 1 application-kinds.ps application-kinds.r application-reads.Post
application κs a x y s t p q = p ∙ sym q

descriptor : OneAnswer 1 descriptor-kinds.ps descriptor-kinds.r descriptor-reads.Post
descriptor κs a x y s t p q = p ∙ sym q

item : OneAnswer 1 item-kinds.ps item-kinds.r item-reads.Post
item κs a x y s t p q = p ∙ sym q

extension : OneAnswer 1 extension-kinds.ps extension-kinds.r extension-reads.Post
extension κs a x y s t p q = p ∙ sym q

label : OneAnswer 1 label-kinds.ps label-kinds.r label-reads.Post
label κs a x y s t p q = p ∙ sym q

spot-number : OneAnswer 0 spot-number-kinds.ps spot-number-kinds.r spot-number-reads.Post
spot-number κs a x y s t p q = p ∙ sym q
