-- The loops that the calls go through are those of the body's definitions; so each descriptor of an accepted section is well made.
use Prim.Native.Nat.{ℕ, ◌+◌, ◌-◌, ◌≤◌}
use mathlib.Core.Path.{◌≡◌, refl, ap, ◌∙◌}
use mathlib.Core.Bool.{Bool, true}
use mathlib.Core.List as L
use Rattle.std.proofs.Common.{Some, None, Ok}
use native.Mathlib.Omega.{arith}
use lib.ListN.{length, take, drop, length-drop}
use lib.Seq.{length-take-le}
use Rattle.section.specs.Header.{body_of}
use Rattle.wire.specs.Items.{items, items_in, every}
use Rattle.wire.specs.Places.{Place, At, after, in_part, part_at}
use Rattle.wire.proofs.Laws.Finders.{sound-after, inner-at, bytes-at, after-at, in_part-none}
use Rattle.wire.proofs.Laws.Loops.{tail}
use Rattle.wire.proofs.Laws.Parts.{part-at, part-within, found_item, found_met}
use Rattle.section.specs.declared.Header.{Header}
use Rattle.ait_descriptors.specs.declared.Kind.TheVariants as kind
use Rattle.ait_descriptors.specs.Kinds.{application, size_of}
use Rattle.ait_descriptors.specs.Descriptor.{descriptor}
use Rattle.ait_descriptors.specs.Contents.{well_made}
use Rattle.ait_body.specs.Body.{common_length, common_loop, application_loop, own_loop, WellFormed}
use Rattle.ait_descriptors.proofs.Laws.Kinds as kinds
use Rattle.ait_body.proofs.Laws.Exact as body
use Rattle.ait_read.specs.declared.Scope.{Scope}
use Rattle.ait_read.specs.declared.Scope.TheVariants.{Common, Own}
use Rattle.ait_read.specs.Acceptance.{table_judged}
use Rattle.ait_read.specs.Places.{common_in, loop_in, body_at, common_at, loop_at, application_at, own_at, scope_at, descriptor_at}
use Rattle.ait_read.proofs.Laws.Places.{sound-common_in, sound-loop_in, sound_loop, sound-application, sound_scope}
use Rattle.ait_read.proofs.Laws.Acceptance.{sized, judged_has}

module _ (s : L.List ℕ) (l : 12 ≤ length s) (w : WellFormed (body_of s)) where
  whole : length (body_of s) ≡ length s - 12
  whole = length-take-le (length s - 12) (drop 8 s) (rw length-drop (omega arith))

  at_body : body_at s ≡ At 8 (length s - 12)
  unfolding body_at
  at_body = inner-at 8 4 s (omega arith)

  -- the common descriptors, and the applications
  pub common_part : part_at (common_at s) s ≡ common_loop (body_of s)
  unfolding common_at common_in
  common_part =
      let e = w.ends in
      ap (λ (p : Place). part_at (in_part common_in p s) s) at_body ∙ part-within common_in sound-common_in s 8 (length s - 12) (omega arith)
      ∙ ap (λ (p : Place). part_at p (body_of s)) (bytes-at 2 (common_length (body_of s)) (body_of s) (omega arith)) ∙ part-at (body_of s) 2 (common_length (body_of s))

  pub loop_part : part_at (loop_at s) s ≡ application_loop (body_of s)
  unfolding loop_at loop_in
  loop_part =
      let e = w.ends in
      ap (λ (p : Place). part_at (in_part loop_in p s) s) at_body ∙ part-within loop_in sound-loop_in s 8 (length s - 12) (omega arith)
      ∙ ap (λ (p : Place). part_at p (body_of s)) (after-at (4 + common_length (body_of s)) (body_of s) (omega arith)) ∙ part-at (body_of s) _ _ ∙ tail (body_of s) (4 + common_length (body_of s))

  -- an application's own descriptors
  pub own_part : (i a n : ℕ) → application_at i s ≡ At a n → part_at (own_at i s) s ≡ own_loop (take n (drop a s))
  unfolding own_at application_at size_of
  own_part i a n e =
      let x : L.List ℕ = take n (drop a s) in
      let f = found_item application kinds.application_kind i (loop_at s) s (sound_loop s) a n e in
      let h = sound-application i s a n e in
      let z : length x ≡ n = length-take-le n (drop a s) (rw length-drop (omega arith)) in
      let g : 9 ≤ application x = kinds.application-least x (λ y. omega (arith, y, f.5, f.6)) in
      ap (λ (p : Place). part_at (in_part (after 9) p s) s) e ∙ part-within (after 9) (sound-after 9) s a n h
      ∙ ap (λ (p : Place). part_at p x) (after-at 9 x (omega (arith, f.6))) ∙ part-at x _ _ ∙ tail x 9

  pub own-none : (i : ℕ) → application_at i s ≡ None → part_at (own_at i s) s ≡ L.[]
  unfolding own_at part_at
  own-none i e = ap (λ (p : Place). part_at (in_part (after 9) p s) s) e ∙ ap (λ (p : Place). part_at p s) (in_part-none (after 9) s)

  made_none : every well_made (items descriptor L.[]) ≡ true
  unfolding every items items_in
  made_none = refl

  abbrev own_made : L.List ℕ → Bool
  own_made a = every well_made (items descriptor (own_loop a))

  own_made_lem : (i a n : ℕ) → application_at i s ≡ At a n → own_made (take n (drop a s)) ≡ true
  unfolding application_at size_of
  own_made_lem i a n e =
      let v : every own_made (items application (part_at (loop_at s) s)) ≡ true = ap (λ (x : L.List ℕ). every own_made (items application x)) loop_part ∙ w.own_made in
      found_met application kinds.application_kind own_made i (loop_at s) s (sound_loop s) v a n e

  -- each descriptor of a scope is well made
  scope_made : (o : Scope) → every well_made (items descriptor (part_at (scope_at o s) s)) ≡ true
  unfolding scope_at
  scope_made Common = ap (λ (x : L.List ℕ). every well_made (items descriptor x)) common_part ∙ w.common_made
  scope_made (Own i) = go (application_at i s) refl
    where
      go : (p : Place) → application_at i s ≡ p → every well_made (items descriptor (part_at (own_at i s) s)) ≡ true
      go None e = ap (λ (x : L.List ℕ). every well_made (items descriptor x)) (own-none i e) ∙ made_none
      go (Some p) e = ap (λ (x : L.List ℕ). every well_made (items descriptor x)) (own_part i p.start p.size e) ∙ own_made_lem i p.start p.size e

  pub found_made : (o : Scope) (j a n : ℕ) → descriptor_at o j s ≡ At a n → well_made (take n (drop a s)) ≡ true
  unfolding descriptor_at size_of
  found_made o j a n e = found_met descriptor (kinds.kind_of_lem kind.Descriptor) well_made j (scope_at o s) s (sound_scope o s) (scope_made o) a n e

-- EACH DESCRIPTOR OF AN ACCEPTED SECTION IS WELL MADE
pub descriptor_made : (s : L.List ℕ) (h : Header) → table_judged s ≡ Ok h → (o : Scope) (j a n : ℕ) → descriptor_at o j s ≡ At a n → well_made (take n (drop a s)) ≡ true
descriptor_made s h e o j a n d =
    let g = judged_has s h e in
    found_made s (sized s h g.0).0 ((body.accepted-exactly (body_of s)).0 g.1).0 o j a n d
