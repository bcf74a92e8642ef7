-- `ait_read::labels::resolve` meets its contract.
use mathlib.Core.Path.{◌≡◌, ap, ◌∙◌}
use Rattle.std.proofs.Common.{rules, Err}
use Prim.Native.Nat.{ℕ}
use mathlib.Core.List.{List, [], ◌∷◌}
use lib.ListN.{take, drop}
use Rattle.wire.specs.Fields.{byte_at}
use Rattle.wire.specs.Places.{part_at}
use Rattle.ait_read.specs.Places.{common_at, own_at}
use Rattle.ait_read.specs.Labels.{label_at, resolved_in}
use Rattle.ait_read.specs.Answers.{resolve_answer}
use Rattle.ait_read.proofs.Laws.Acceptance.{told, cut}
use Rattle.ait_descriptors.proofs.Laws.Lists.{inside_of}
use Rattle.ait_read.proofs.Laws.Places.{sound-common, sound-own}
use Rattle.ait_read.proofs.Laws.Labels.{sound-label}
use Rattle.ait_read.proofs.Laws.Numbers.{refused_there, made_there}
use Rattle.ait_read.proofs.labels.resolve.Goals as goal

pub resolve_in-requires : goal.resolve_in-requires
resolve_in-requires c =
    (inside_of (own_at _) (sound-own _) _ c.args.s.now c.own_place.ensures, inside_of common_at sound-common _ c.args.s.now c.common_place.ensures)

pub returns-in_err-at : goal.returns-in_err-at
unfolding resolve_answer
returns-in_err-at c =
    let s = c.args.s.now in
    let r : c.from_residual.result ≡ Err c.in_err-at.field-0.0 = search rules in
    rw r (refused_there (λ a n. resolved_in (byte_at (take n (drop a s)) 0) (part_at (own_at c.args.i s) s) (part_at (common_at s) s ∷ [])) _ _ _ _ c.label_place.ensures c.locate.ensures _
    c.in_err-at.was)

pub returns : goal.returns
unfolding resolve_answer
returns c =
    let s = c.args.s.now in
    let at = c.in_ok-at.at in
    let f = told _ _ (label_at c.args.i c.args.k s) _ _ c.label_place.ensures c.locate.ensures c.in_ok-at.was in
    let b : c.byte_at-label.result ≡ byte_at (take at.size (drop at.start s)) 0 =
    c.byte_at-label.ensures.0 ∙ ap (λ (l : List ℕ). byte_at l 0) (c.part.ensures ∙ (cut s _ (sound-label c.args.i c.args.k s) _ f).0) in
    let o : c.own_place.result ≡ own_at c.args.i s = c.own_place.ensures in
    let m : c.common_place.result ≡ common_at s = c.common_place.ensures in
    made_there (λ a n. resolved_in (byte_at (take n (drop a s)) 0) (part_at (own_at c.args.i s) s) (part_at (common_at s) s ∷ [])) _ _ _ _ c.label_place.ensures c.locate.ensures _
    c.in_ok-at.was _ (c.resolve_in.ensures ∙ rw (b, o, m))
