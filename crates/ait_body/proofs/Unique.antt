-- The one public call of this crate leaves one answer.
use mathlib.Core.Path.{sym, ◌∙◌}
use Rattle.wire.proofs.Once.{OneAnswer}
use Rattle.ait_body.proofs.body_refusal.Kinds as body-refusal-kinds
use Rattle.ait_body.proofs.body_refusal.Reads as body-refusal-reads

body-refusal : OneAnswer 1 body-refusal-kinds.ps body-refusal-kinds.r body-refusal-reads.Post
body-refusal κs a x y s t p q = p ∙ sym q
