-- Each public call of this crate leaves one answer.
use mathlib.Core.Path.{sym, ◌∙◌}
use Rattle.wire.proofs.Once.{OneAnswer}
use Rattle.ait_descriptors.proofs.kinds.size_of.Kinds as size-of-kinds
use Rattle.ait_descriptors.proofs.kinds.size_of.Reads as size-of-reads
use Rattle.ait_descriptors.proofs.kinds.fills.Kinds as fills-kinds
use Rattle.ait_descriptors.proofs.kinds.fills.Reads as fills-reads
use Rattle.ait_descriptors.proofs.lists.item_place.Kinds as item-kinds
use Rattle.ait_descriptors.proofs.lists.item_place.Reads as item-reads
use Rattle.ait_descriptors.proofs.lists.walk_loop.Kinds as walk-loop-kinds
use Rattle.ait_descriptors.proofs.lists.walk_loop.Reads as walk-loop-reads
use Rattle.ait_descriptors.proofs.lists.find.Kinds as find-kinds
use Rattle.ait_descriptors.proofs.lists.find.Reads as find-reads
use Rattle.ait_descriptors.proofs.descriptor.describe.Kinds as describe-kinds
use Rattle.ait_descriptors.proofs.descriptor.describe.Reads as describe-reads
use Rattle.ait_descriptors.proofs.descriptor.item_of.Kinds as item-of-kinds
use Rattle.ait_descriptors.proofs.descriptor.item_of.Reads as item-of-reads
use Rattle.ait_descriptors.proofs.descriptor.kind_of.Kinds as kind-of-kinds
use Rattle.ait_descriptors.proofs.descriptor.kind_of.Reads as kind-of-reads
use Rattle.ait_descriptors.proofs.descriptor.list_in.Kinds as list-in-kinds
use Rattle.ait_descriptors.proofs.descriptor.list_in.Reads as list-in-reads
use Rattle.ait_descriptors.proofs.parts.count_within.Kinds as count-within-kinds
use Rattle.ait_descriptors.proofs.parts.count_within.Reads as count-within-reads
use Rattle.ait_descriptors.proofs.tag02.extension_of.Kinds as extension-of-kinds
use Rattle.ait_descriptors.proofs.tag02.extension_of.Reads as extension-of-reads
use Rattle.ait_descriptors.proofs.tag02.extensions_in.Kinds as extensions-in-kinds
use Rattle.ait_descriptors.proofs.tag02.extensions_in.Reads as extensions-in-reads

size_of_lem : OneAnswer 1 size-of-kinds.ps size-of-kinds.r size-of-reads.Post
size_of_lem κs a x y s t p q = p ∙ sym q

fills : OneAnswer 1 fills-kinds.ps fills-kinds.r fills-reads.Post
fills κs a x y s t p q = p ∙ sym q

item-place : OneAnswer 1 item-kinds.ps item-kinds.r item-reads.Post
item-place κs a x y s t p q = p ∙ sym q

walk_loop : OneAnswer 1 walk-loop-kinds.ps walk-loop-kinds.r walk-loop-reads.Post
walk_loop κs a x y s t p q = p ∙ sym q

find : OneAnswer 1 find-kinds.ps find-kinds.r find-reads.Post
find κs a x y s t p q = p ∙ sym q

describe : OneAnswer 1 describe-kinds.ps describe-kinds.r describe-reads.Post
describe κs a x y s t p q = p ∙ sym q

item_of_lem : OneAnswer 1 item-of-kinds.ps item-of-kinds.r item-of-reads.Post
item_of_lem κs a x y s t p q = p ∙ sym q

kind_of_lem : OneAnswer 0 kind-of-kinds.ps kind-of-kinds.r kind-of-reads.Post
kind_of_lem κs a x y s t p q = p ∙ sym q

list_in_lem : OneAnswer 1 list-in-kinds.ps list-in-kinds.r list-in-reads.Post
list_in_lem κs a x y s t p q = p ∙ sym q

count-within : OneAnswer 1 count-within-kinds.ps count-within-kinds.r count-within-reads.Post
count-within κs a x y s t p q = p ∙ sym q

extension_of_lem : OneAnswer 1 extension-of-kinds.ps extension-of-kinds.r extension-of-reads.Post
extension_of_lem κs a x y s t p q = p ∙ sym q

extensions_in_lem : OneAnswer 1 extensions-in-kinds.ps extensions-in-kinds.r extensions-in-reads.Post
extensions_in_lem κs a x y s t p q = p ∙ sym q
