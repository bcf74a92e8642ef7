-- Each public call of this crate leaves one answer.
use mathlib.Core.Path.{sym, ◌∙◌}
use Rattle.wire.proofs.Once.{OneAnswer}
use Rattle.carousel_messages.proofs.judge.Kinds as judge-kinds
use Rattle.carousel_messages.proofs.judge.Reads as judge-reads
use Rattle.carousel_messages.proofs.judge_by.Kinds as judge-by-kinds
use Rattle.carousel_messages.proofs.judge_by.Reads as judge-by-reads
use Rattle.carousel_messages.proofs.modules.module_at.Kinds as module-at-kinds
use Rattle.carousel_messages.proofs.modules.module_at.Reads as module-at-reads
use Rattle.carousel_messages.proofs.limits.is_beyond.Kinds as is-beyond-kinds
use Rattle.carousel_messages.proofs.limits.is_beyond.Reads as is-beyond-reads
use Rattle.carousel_messages.proofs.limits.has_twice.Kinds as has-twice-kinds
use Rattle.carousel_messages.proofs.limits.has_twice.Reads as has-twice-reads
use Rattle.carousel_messages.proofs.limits.total.Kinds as total-kinds
use Rattle.carousel_messages.proofs.limits.total.Reads as total-reads
use Rattle.carousel_messages.proofs.limits.place_from.Kinds as place-from-kinds
use Rattle.carousel_messages.proofs.limits.place_from.Reads as place-from-reads

judge-by : OneAnswer 1 judge-by-kinds.ps judge-by-kinds.r judge-by-reads.Post
judge-by κs a x y s t p q = p ∙ sym q

judge : OneAnswer 1 judge-kinds.ps judge-kinds.r judge-reads.Post
judge κs a x y s t p q = p.0 ∙ sym q.0

module-at : OneAnswer 1 module-at-kinds.ps module-at-kinds.r module-at-reads.Post
module-at κs a x y s t p q = p ∙ sym q

is-beyond : OneAnswer 1 is-beyond-kinds.ps is-beyond-kinds.r is-beyond-reads.Post
is-beyond κs a x y s t p q = p ∙ sym q

has-twice : OneAnswer 1 has-twice-kinds.ps has-twice-kinds.r has-twice-reads.Post
has-twice κs a x y s t p q = p ∙ sym q

total : OneAnswer 0 total-kinds.ps total-kinds.r total-reads.Post
total κs a x y s t p q = p ∙ sym q

place-from : OneAnswer 1 place-from-kinds.ps place-from-kinds.r place-from-reads.Post
place-from κs a x y s t p q = p ∙ sym q
