-- What a program in C sees as `refusal` is the paper's number, by the paper's cases; of one section it is 0 exactly where there is a kind, and where it is not, nothing was changed.
use Prim.Native.Nat.{ℕ}
use mathlib.Core.Path.{◌≡◌, refl, sym, ap, ◌∙◌}
use mathlib.Core.Bool.{Bool, true, false, cond, ◌||◌}
use mathlib.Core.List.{List, [], ◌∷◌}
use native.Mathlib.Omega.{arith}
use lib.Dec.{eqb}
use lib.ListN.{take}
use borrow.Author.Tests.{eq-eqb, ne_eqb, eqb-true}
use Rattle.wire.specs.Tests.{first_met}
use Rattle.wire.proofs.Laws.Tests.{met_append}
use Rattle.section.specs.declared.Refusal.{Refusal}
use Rattle.section.specs.Answer.{refused}
use Rattle.carousel_record.specs.declared.Carousel.{Carousel}
use Rattle.wire.specs.declared.Span.{Span}
use Rattle.carousel_record.specs.Record.{ruled_of}
use Rattle.carousel_step.specs.Step.{Answered, stepped_of, image_of, step_tests}
use Rattle.carousel_handout.specs.Calls.{Handed, Report, handout_number, handout_place, missing_number, report_of, number_of_report}
use Rattle.carousel_step.proofs.Exact.{step-number}
use Rattle.carousel_step.proofs.Told.{step-told}
use Rattle.carousel_handout.proofs.Laws.Calls.{report-number}
use Rattle.ait_read.specs.declared.Table.{Table}
use Rattle.ait_read.specs.declared.Application.{Application}
use Rattle.ait_read.specs.declared.Scope.{Scope}
use Rattle.ait_descriptors.specs.declared.Described.{Described}
use Rattle.ait_descriptors.specs.declared.Repeated.{Repeated}
use Rattle.ait_descriptors.specs.declared.Described.TheVariants as described
use Rattle.ait_read.specs.declared.Resolved.{Resolved}
use Rattle.ait_descriptors.specs.declared.Item.{Item}
use Rattle.ait_descriptors.specs.declared.Item.TheVariants as item
use Rattle.ait_read.specs.Places.{application_at, descriptor_at, repeated_at, extension_at}
use Rattle.ait_read.specs.Labels.{label_at}
use Rattle.ait_read.specs.Acceptance.{application_tests}
use Rattle.ait_read.proofs.Laws.Exact.{rising}
use Rattle.ait_read.specs.Answers.{read_answer, application_answer, descriptor_answer, extension_answer, resolve_answer, read_number, place_number, number_of_read}
use Rattle.ait_read.proofs.Laws.Told.{read_told}
use Rattle.ait_read.proofs.Laws.Numbers.{read_number_lem, application-number, descriptor-number, item-number, extension-number, resolve-number}
use Rattle.receiver.specs.declared.Stop.{Stop}
use Rattle.receiver.specs.declared.Stop.TheVariants as stop
use Rattle.section.specs.Whole.{whole_at}
use Rattle.receiver.specs.Run.{Fate, What, stop_at, given_of, stopped_by, number_of_fate, number_took, carousel_fate, took_of, took_number}
use Rattle.receiver.proofs.Laws.Takes.{carousel_fate_lem, took_number_lem}
use Rattle.receiver.proofs.Laws.Fates.{fate_tells}
use Rattle.receiver.proofs.Laws.Refusals.{step-refused, take-told}
use Rattle.receiver.specs.Kinds.{kind_number, stop_number}
use Rattle.nebosvar.specs.Box.{step_out, what_out, take_out, place_out, part_out, lack_out}
use Rattle.ait_numbers.specs.Shapes.{nowhere}
use Rattle.ait_numbers.specs.Reading.{table_out, application_out, described_out, descriptor_out, no_place, asked_by, answer_asked, item_asked, found_out, item_out, extension_out, label_out}
use Rattle.std.proofs.Common.{Option, Some, None, Result, Ok, Err}
use Rattle.wire.specs.Places.{Place}
use Rattle.receiver.specs.declared.Kind.TheVariants as kind
use Rattle.carousel_step.specs.declared.Answer.TheVariants as answer
use Rattle.ait_read.specs.declared.Resolved.TheVariants as resolved

-- exactly one of refusal and kind is 0, where no refusal is
abbrev pub OneOfTwo : (refusal kind : ℕ) → Type 0
OneOfTwo refusal kind = (refusal ≡ 0 → kind ≡ 0 → ⊥) × ((kind ≡ 0 → ⊥) → refusal ≡ 0)

one_of_two : (f : Fate) → ((r : Refusal) → f ≡ Err r → r.number ≡ 0 → ⊥) → OneOfTwo (number_of_fate f) (kind_number f)
one_of_two (Err r) some = (λ n k. some r refl n, λ k. absurd (k refl))
one_of_two (Ok kind.Table) some = (λ n k. omega (arith, k), λ k. refl)
one_of_two (Ok (kind.Carousel answer.New)) some = (λ n k. omega (arith, k), λ k. refl)
one_of_two (Ok (kind.Carousel answer.Same)) some = (λ n k. omega (arith, k), λ k. refl)
one_of_two (Ok (kind.Carousel answer.Stored)) some = (λ n k. omega (arith, k), λ k. refl)
one_of_two (Ok (kind.Carousel answer.Repeated)) some = (λ n k. omega (arith, k), λ k. refl)

module _ (c : Carousel) (s image : List ℕ) where
  -- "A refusal has a number from the paper, given in exactly the stated case"
  pub step-refusal : (step_out c s image).answer.refusal ≡ first_met (step_tests c s image)
  unfolding step_out
  step-refusal = carousel_fate_lem (stepped_of c s image).answer ∙ step-number c s image

  -- "exactly one of refusal and kind is 0"
  pub step-one_of-two : OneOfTwo (step_out c s image).answer.refusal (step_out c s image).answer.kind
  unfolding step_out carousel_fate
  step-one_of-two = one_of_two (carousel_fate (stepped_of c s image).answer) (λ r e. (step-told s r c image (fate_tells (stepped_of c s image).answer (Err r) e)).some)

  -- "and changes neither record nor image"
  pub step_changes-nothing : ((step_out c s image).answer.refusal ≡ 0 → ⊥) → ((step_out c s image).state ≡ c) × (image_of c s image ≡ image)
  unfolding step_out carousel_fate
  step_changes-nothing n = go (stepped_of c s image).answer refl n
    where
      go : (a : Answered) → (stepped_of c s image).answer ≡ a → (number_of_fate (carousel_fate a) ≡ 0 → ⊥) → ((stepped_of c s image).state ≡ c) × (image_of c s image ≡ image)
      go (Ok answer.New) e m = absurd (m refl)
      go (Ok answer.Same) e m = absurd (m refl)
      go (Ok answer.Stored) e m = absurd (m refl)
      go (Ok answer.Repeated) e m = absurd (m refl)
      go (Err r) e m = step-refused c s image r e

  pub take-refusal : (budget : ℕ) → (take_out c s image budget).answer.refusal ≡ took_number c s image budget
  unfolding take_out
  take-refusal budget = told (took_of c s image budget).what ∙ took_number_lem c s image budget
    where
      told : (w : What) → (what_out w).refusal ≡ number_took w
      told (Err x) = refl
      told (Ok x) = refl

-- "exactly one of refusal and kind is 0" of whatever section is taken
abbrev Numbered : What → Type 0
Numbered (Err x) = Unit {0}
Numbered (Ok x) = (r : Refusal) → x.fate ≡ Err r → r.number ≡ 0 → ⊥

stop-some : (x : Stop) → stop_number x ≡ 0 → ⊥
unfolding stop_number
stop-some stop.End e = omega (arith, e)
stop-some stop.Stuffing e = omega (arith, e)
stop-some stop.Short e = omega (arith, e)
stop-some stop.Budget e = omega (arith, e)
stop-some stop.State e = omega (arith, e)

apart : (w : What) → Numbered w → (what_out w).stop ≡ 0 → OneOfTwo (what_out w).refusal (what_out w).kind
apart (Err x) u e = absurd (stop-some x e)
apart (Ok x) some e = one_of_two x.fate some

pub take-one_of-two : (c : Carousel) (s image : List ℕ) (budget : ℕ) → (take_out c s image budget).answer.stop ≡ 0
    → OneOfTwo (take_out c s image budget).answer.refusal (take_out c s image budget).answer.kind
unfolding take_out took_of
take-one_of-two c s image budget = apart (took_of c s image budget).what (go (ruled_of c) (eqb (whole_at s) 0 || eqb budget 0))
  where
    go : (t u : Bool) → Numbered
        (cond t (cond u (stopped_by c (stop_at s))
        (record {
          what = Ok (record { length = whole_at s; fate = (given_of c (take (whole_at s) s) image).fate });
          state = (given_of c
              (take (whole_at s) s) image).state;
        })) (stopped_by c stop.State)).what
    go false u = tt
    go true true = tt
    go true false = λ r e. (take-told c (take (whole_at s) s) image r e).some

pub handout-refusal : (c : Carousel) (image : List ℕ) (number : ℕ) → (part_out c image number).refusal ≡ handout_number c image number
unfolding handout_place
handout-refusal c image number = go (eqb (handout_number c image number) 0) refl _ _
  where
    go : (t : Bool) → eqb (handout_number c image number) 0 ≡ t → (start size : ℕ)
        → (place_out (cond {A = Handed} t (Ok (record { start = start; size = size })) (Err (refused (handout_number c image number))))).refusal ≡ handout_number c image number
    go true e start size = sym (eqb-true (handout_number c image number) 0 e)
    go false e start size = refl

pub missing-refusal : (c : Carousel) (number : ℕ) → (lack_out (report_of c number)).refusal ≡ missing_number c number
missing-refusal c number = told (report_of c number) ∙ report-number c number
  where
    told : (r : Report) → (lack_out r).refusal ≡ number_of_report r
    told (Err r) = refl
    told (Ok None) = refl
    told (Ok (Some l)) = refl

-- what is found is no refusal, and is nowhere broken
abbrev pub Unbroken : (refusal refused-at : ℕ) → Type 0
Unbroken refusal refused-at = (refusal ≡ 0) × (refused-at ≡ nowhere)

pub described_unbroken : (d : Described) → Unbroken (described_out d).refusal (described_out d).refused_at
described_unbroken (described.Application x) = (refl, refl)
described_unbroken (described.Names n) = (refl, refl)
described_unbroken (described.Local x) = (refl, refl)
described_unbroken (described.Remote x) = (refl, refl)
described_unbroken (described.Bases x) = (refl, refl)
described_unbroken (described.Selector x) = (refl, refl)
described_unbroken (described.Identifiers n) = (refl, refl)
described_unbroken (described.Path p) = (refl, refl)
described_unbroken (described.Raw x) = (refl, refl)

pub found_unbroken : (x : Item) → Unbroken (found_out x).refusal (found_out x).refused_at
found_unbroken (item.Profile p) = (refl, refl)
found_unbroken (item.Label l) = (refl, refl)
found_unbroken (item.Name n) = (refl, refl)
found_unbroken (item.Base b) = (refl, refl)
found_unbroken (item.Identifier i) = (refl, refl)

-- the application section
module _ (s : List ℕ) where
  pub table-refusal : (table_out (read_answer s)).refusal ≡ read_number s
  table-refusal = told (read_answer s) ∙ read_number_lem s
    where
      told : (r : Result Table Refusal) → (table_out r).refusal ≡ number_of_read r
      told (Err r) = refl
      told (Ok t) = refl

  pub application-refusal : (i : ℕ) → (application_out (application_answer s i)).refusal ≡ place_number s (application_at i s)
  application-refusal i = told (application_answer s i) ∙ application-number s i
    where
      told : (r : Result Application Refusal) → (application_out r).refusal ≡ number_of_read r
      told (Err r) = refl
      told (Ok x) = refl

  pub descriptor-refusal : (o : Scope) (j : ℕ) → (descriptor_out (descriptor_answer s o j)).refusal ≡ place_number s (descriptor_at o j s)
  descriptor-refusal o j = told (descriptor_answer s o j) ∙ descriptor-number s o j
    where
      told : (r : Result Described Refusal) → (descriptor_out r).refusal ≡ number_of_read r
      told (Err r) = refl
      told (Ok d) = (described_unbroken d).0

  item-told : (r : Result Item Refusal) → (item_out r).refusal ≡ number_of_read r
  item-told (Err r) = refl
  item-told (Ok x) = (found_unbroken x).0

  -- where an item lies that is asked for; of a kind that is none of the five, nowhere
  abbrev pub asked_at : Scope → (j k : ℕ) → Option Repeated → Place
  asked_at o j k (Some what) = repeated_at o j what k s
  asked_at o j k None = None

  none-asked : number_of_read (no_place (read_answer s)) ≡ place_number s None
  unfolding place_number read_number first_met
  none-asked = go (read_answer s) refl ∙ sym (met_append 0 (application_tests s) ((19, true) ∷ []) (rising s))
    where
      go : (a : Result Table Refusal) → read_answer s ≡ a → number_of_read (no_place a) ≡ cond (eqb (read_number s) 0) 19 (read_number s)
      go (Err r) e = let n = sym (ap number_of_read e) ∙ read_number_lem s in rw (ne_eqb (read_number s) 0 (λ z. (read_told s r e).some (n ∙ z))) n
      go (Ok t) e = rw (eq-eqb (read_number s) 0 (sym (read_number_lem s) ∙ ap number_of_read e))

  pub item-refusal : (o : Scope) (j kind k : ℕ) → (item_out (item_asked s o j kind k)).refusal ≡ place_number s (asked_at o j k (asked_by kind))
  item-refusal o j kind k = item-told (item_asked s o j kind k) ∙ go (asked_by kind)
    where
      go : (a : Option Repeated) → number_of_read (answer_asked s o j k a) ≡ place_number s (asked_at o j k a)
      go (Some what) = item-number s o j what k
      go None = none-asked

  pub extension-refusal : (o : Scope) (j k m : ℕ) → (extension_out (extension_answer s o j k m)).refusal ≡ place_number s (extension_at o j k m s)
  extension-refusal o j k m = told (extension_answer s o j k m) ∙ extension-number s o j k m
    where
      told : (r : Result Span Refusal) → (extension_out r).refusal ≡ number_of_read r
      told (Err r) = refl
      told (Ok x) = refl

  pub label-refusal : (i k : ℕ) → (label_out (resolve_answer s i k)).refusal ≡ place_number s (label_at i k s)
  label-refusal i k = told (resolve_answer s i k) ∙ resolve-number s i k
    where
      told : (r : Result (Option Resolved) Refusal) → (label_out r).refusal ≡ number_of_read r
      told (Err r) = refl
      told (Ok (Some (resolved.Own j))) = refl
      told (Ok (Some (resolved.Common n j))) = refl
      told (Ok None) = refl
