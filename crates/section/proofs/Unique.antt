-- Each public call of this crate leaves one answer.
use mathlib.Core.Path.{sym, ◌∙◌}
use Rattle.wire.proofs.Once.{OneAnswer}
use Rattle.section.proofs.check.Kinds as check-kinds
use Rattle.section.proofs.check.Reads as check-reads
use Rattle.section.proofs.check_by.Kinds as check-by-kinds
use Rattle.section.proofs.check_by.Reads as check-by-reads
use Rattle.section.proofs.register.crc.Kinds as crc-kinds
use Rattle.section.proofs.whole_at.Kinds as whole-at-kinds
use Rattle.section.proofs.whole_at.Reads as whole-at-reads
use Rattle.section.proofs.register.crc.Reads as crc-reads

check-by : OneAnswer 1 check-by-kinds.ps check-by-kinds.r check-by-reads.Post
check-by κs a x y s t p q = p.0 ∙ sym q.0

check : OneAnswer 1 check-kinds.ps check-kinds.r check-reads.Post
check κs a x y s t p q = p.0 ∙ sym q.0

crc : OneAnswer 1 crc-kinds.ps crc-kinds.r crc-reads.Post
crc κs a x y s t p q = p ∙ sym q

whole-at : OneAnswer 1 whole-at-kinds.ps whole-at-kinds.r whole-at-reads.Post
whole-at κs a x y s t p q = p.0 ∙ sym q.0
