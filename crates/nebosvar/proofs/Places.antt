-- What a program in C sees as `refused_at`. 02, §9: it is the place of its `refusal`, of every call; and all ones, which is nobody's place, where the refusal is none of 2 to 6.
use Prim.Native.Nat.{ℕ, ◌^◌, ◌<◌}
use mathlib.Core.Path.{◌≡◌, refl, sym, ap, ◌∙◌}
use mathlib.Core.Logic.{◌↔◌, ◌⊎◌, inl, inr}
use mathlib.Core.Bool.{Bool, true, false, cond, ◌||◌}
use mathlib.Core.List.{List}
use native.Mathlib.Omega.{arith}
use lib.Dec.{ltb, eqb}
use borrow.Author.Tests.{ltb-true, ltb-false}
use lib.ListN.{length, take}
use Rattle.section.specs.declared.Rules.{Rules}
use Rattle.section.specs.declared.Rules.TheVariants.{Application}
use Rattle.section.specs.declared.Rules.TheVariants.{Carousel as Carousels}
use Rattle.wire.specs.declared.Span.{Span}
use Rattle.section.specs.declared.Refusal.{Refusal}
use Rattle.section.specs.Refusals.{spot_of}
use Rattle.section.specs.Answer.{refused, Told}
use Rattle.section.proofs.Laws.Places.{spot-below, spot-above, spot-there, above-told}
use Rattle.ait_descriptors.specs.declared.Described.{Described}
use Rattle.ait_descriptors.specs.declared.Item.{Item}
use Rattle.ait_descriptors.specs.declared.Repeated.{Repeated}
use Rattle.ait_read.specs.declared.Table.{Table}
use Rattle.ait_read.specs.declared.Application.{Application as Applied}
use Rattle.ait_read.specs.declared.Scope.{Scope}
use Rattle.ait_read.specs.declared.Resolved.{Resolved}
use Rattle.ait_read.specs.Answers.{read_answer, application_answer, descriptor_answer, extension_answer, resolve_answer}
use Rattle.ait_read.proofs.Laws.Told.{read_told, application-told, descriptor-told, item-told, extension-told, resolve-told}
use Rattle.carousel_record.specs.declared.Carousel.{Carousel}
use Rattle.carousel_record.specs.Record.{ruled_of}
use Rattle.carousel_step.specs.Step.{stepped_of}
use Rattle.carousel_step.proofs.Told.{step-told}
use Rattle.carousel_handout.specs.Calls.{Handed, handout_place}
use Rattle.receiver.specs.declared.Stop.TheVariants as stop
use Rattle.section.specs.Whole.{whole_at}
use Rattle.receiver.specs.Run.{Fate, rules_of, stop_at, given_of, stopped_by, number_of_fate, place_of_fate, carousel_fate, took_of}
use Rattle.receiver.proofs.Laws.Fates.{fate_tells}
use Rattle.receiver.proofs.Laws.Refusals.{take-told}
use Rattle.ait_numbers.specs.Shapes.{nowhere, spot_number}
use Rattle.ait_numbers.specs.Reading.{table_out, application_out, descriptor_out, no_place, asked_by, answer_asked, item_asked, item_out, extension_out, label_out}
use Rattle.nebosvar.specs.Box.{step_out, what_out, take_out, place_out, part_out}
use Rattle.nebosvar.proofs.Numbers.{described_unbroken, found_unbroken}
use Rattle.std.proofs.Common.{Option, Some, None, Result, Ok, Err}
use Rattle.receiver.specs.declared.Kind.TheVariants as kind
use Rattle.carousel_step.specs.declared.Answer.TheVariants as answer
use Rattle.ait_read.specs.declared.Resolved.TheVariants as resolved

-- the place that goes with a refusal's number; with 0, where there is none, it is nowhere
abbrev pub place_with : Rules → List ℕ → (refusal : ℕ) → ℕ
place_with rules s n = spot_number (spot_of rules s n)

module _ (rules : Rules) (s : List ℕ) where
  none : nowhere ≡ place_with rules s 0
  unfolding spot_number
  none = sym (ap spot_number (spot-below rules s 0 (omega arith)))

  with-told : (r : Refusal) → Told rules s r → spot_number r.place ≡ place_with rules s r.number
  with-told r t = ap spot_number t.placed

  with_none : (refusal at : ℕ) → (refusal ≡ 0) × (at ≡ nowhere) → at ≡ place_with rules s refusal
  with_none refusal at e = e.1 ∙ none ∙ ap (place_with rules s) (sym e.0)

  of_fate : (f : Fate) → ((r : Refusal) → f ≡ Err r → Told rules s r) → spot_number (place_of_fate f) ≡ place_with rules s (number_of_fate f)
  unfolding spot_number
  of_fate (Err r) t = with-told r (t r refl)
  of_fate (Ok kind.Table) t = none
  of_fate (Ok (kind.Carousel answer.New)) t = none
  of_fate (Ok (kind.Carousel answer.Same)) t = none
  of_fate (Ok (kind.Carousel answer.Stored)) t = none
  of_fate (Ok (kind.Carousel answer.Repeated)) t = none

-- ONE SECTION OF THE CAROUSEL
pub step-at : (c : Carousel) (s image : List ℕ) → (step_out c s image).answer.refused_at ≡ place_with Carousels s (step_out c s image).answer.refusal
unfolding step_out carousel_fate
step-at c s image = of_fate Carousels s (carousel_fate (stepped_of c s image).answer) (λ r e. step-told s r c image (fate_tells (stepped_of c s image).answer (Err r) e))

-- WHATEVER IS TAKEN: the section is the one at the head of the stretch; a stop has none
pub take_at : (c : Carousel) (stretch image : List ℕ) (budget : ℕ) → let s = take (whole_at stretch) stretch in
    (take_out c stretch image budget).answer.refused_at ≡ place_with (rules_of s) s (take_out c stretch image budget).answer.refusal
unfolding take_out took_of
take_at c stretch image budget = go (ruled_of c) (eqb (whole_at stretch) 0 || eqb budget 0)
  where
    go : (t u : Bool) → let s = take (whole_at stretch) stretch in
        let w = what_out (cond t (cond u (stopped_by c (stop_at stretch))
        (record {
          what = Ok (record { length = whole_at stretch; fate = (given_of c s image).fate });
          state = (given_of c s image).state;
        })) (stopped_by c stop.State)).what in
        w.refused_at ≡ place_with (rules_of s) s w.refusal
    go false u = none _ _
    go true true = none _ _
    go true false = let s = take (whole_at stretch) stretch in of_fate (rules_of s) s (given_of c s image).fate (λ r e. take-told c s image r e)

-- THE HAND-OUT has no refusal with a place
pub handout-at : (c : Carousel) (image : List ℕ) (number : ℕ) → (part_out c image number).refused_at ≡ nowhere
handout-at c image number = go (handout_place c image number)
  where
    go : (h : Handed) → (place_out h).refused_at ≡ nowhere
    go (Err r) = refl
    go (Ok p) = refl

-- THE APPLICATION SECTION
module _ (s : List ℕ) where
  pub table_at : (table_out (read_answer s)).refused_at ≡ place_with Application s (table_out (read_answer s)).refusal
  table_at = go (read_answer s) refl
    where
      go : (a : Result Table Refusal) → read_answer s ≡ a → (table_out a).refused_at ≡ place_with Application s (table_out a).refusal
      go (Err r) e = with-told Application s r (read_told s r e)
      go (Ok t) e = none Application s

  pub application-at : (i : ℕ) → (application_out (application_answer s i)).refused_at ≡ place_with Application s (application_out (application_answer s i)).refusal
  application-at i = go (application_answer s i) refl
    where
      go : (a : Result Applied Refusal) → application_answer s i ≡ a → (application_out a).refused_at ≡ place_with Application s (application_out a).refusal
      go (Err r) e = with-told Application s r (application-told s r i e)
      go (Ok x) e = none Application s

  pub descriptor-at : (o : Scope) (j : ℕ) → (descriptor_out (descriptor_answer s o j)).refused_at ≡ place_with Application s (descriptor_out (descriptor_answer s o j)).refusal
  descriptor-at o j = go (descriptor_answer s o j) refl
    where
      go : (a : Result Described Refusal) → descriptor_answer s o j ≡ a → (descriptor_out a).refused_at ≡ place_with Application s (descriptor_out a).refusal
      go (Err r) e = with-told Application s r (descriptor-told s r o j e)
      go (Ok d) e = with_none Application s _ _ (described_unbroken d)

  asked-told : (o : Scope) (j k : ℕ) (r : Refusal) (a : Option Repeated) → answer_asked s o j k a ≡ Err r → Told Application s r
  asked-told o j k r (Some what) e = item-told s r o j what k e
  asked-told o j k r None e = go (read_answer s) refl e
    where
      go : (a : Result Table Refusal) → read_answer s ≡ a → no_place a ≡ Err r → Told Application s r
      go (Err q) f e = let g : q ≡ r = cc in read_told s r (rw (← g) f)
      go (Ok t) f e = let g : refused 19 ≡ r = cc in rw (← g) (above-told Application s 19 (omega arith))

  pub item-at : (o : Scope) (j kind k : ℕ) → (item_out (item_asked s o j kind k)).refused_at ≡ place_with Application s (item_out (item_asked s o j kind k)).refusal
  item-at o j kind k = go (item_asked s o j kind k) refl
    where
      go : (a : Result Item Refusal) → item_asked s o j kind k ≡ a → (item_out a).refused_at ≡ place_with Application s (item_out a).refusal
      go (Err r) e = with-told Application s r (asked-told o j k r (asked_by kind) e)
      go (Ok x) e = with_none Application s _ _ (found_unbroken x)

  pub extension-at : (o : Scope) (j k m : ℕ)
      → (extension_out (extension_answer s o j k m)).refused_at ≡ place_with Application s (extension_out (extension_answer s o j k m)).refusal
  extension-at o j k m = go (extension_answer s o j k m) refl
    where
      go : (a : Result Span Refusal) → extension_answer s o j k m ≡ a → (extension_out a).refused_at ≡ place_with Application s (extension_out a).refusal
      go (Err r) e = with-told Application s r (extension-told s r o j k m e)
      go (Ok x) e = none Application s

  pub label_at : (i k : ℕ) → (label_out (resolve_answer s i k)).refused_at ≡ place_with Application s (label_out (resolve_answer s i k)).refusal
  label_at i k = go (resolve_answer s i k) refl
    where
      go : (a : Result (Option Resolved) Refusal) → resolve_answer s i k ≡ a → (label_out a).refused_at ≡ place_with Application s (label_out a).refusal
      go (Err r) e = with-told Application s r (resolve-told s r i k e)
      go (Ok (Some (resolved.Own j))) e = none Application s
      go (Ok (Some (resolved.Common n j))) e = none Application s
      go (Ok None) e = none Application s

-- ALL ONES IS NOBODY'S PLACE: of any bytes that can be lent, which are fewer than 2^63, `refused_at` is all ones exactly where the refusal is none of 2 to 6
pub nowhere-exactly : (rules : Rules) (s : List ℕ) → length s < 2 ^ 63 → (n : ℕ) → (place_with rules s n ≡ nowhere) ↔ ((n < 2) ⊎ (6 < n))
unfolding spot_number
nowhere-exactly rules s h n = (λ e. outside (ltb n 2) refl (ltb 6 n) refl e, back)
  where
    outside : (a : Bool) → ltb n 2 ≡ a → (b : Bool) → ltb 6 n ≡ b → place_with rules s n ≡ nowhere → (n < 2) ⊎ (6 < n)
    outside true f b g e = inl (ltb-true _ _ f)
    outside false f true g e = inr (ltb-true _ _ g)
    outside false f false g e =
        let k = ltb-false n 2 f in
        let l = ltb-false 6 n g in
        let p = spot-there rules s n (omega arith) (omega arith) in
        let q = sym (ap spot_number p.0) ∙ e in
        absurd (omega (arith, q, p.1))

    back : (n < 2) ⊎ (6 < n) → place_with rules s n ≡ nowhere
    back (inl k) = ap spot_number (spot-below rules s n k)
    back (inr k) = ap spot_number (spot-above rules s n k)
