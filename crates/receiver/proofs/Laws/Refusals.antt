-- A refusal's number is one of the paper's and not 0, its place is that number's, and a refusal changes nothing: of the step, of a table and of whatever section is taken.
use Prim.Native.Nat.{ℕ, ◌≤◌}
use mathlib.Core.Path.{◌≡◌, refl, sym, ap, ◌∙◌}
use mathlib.Core.Bool.{Bool, true, false, cond}
use mathlib.Core.List.{List, [], ◌∷◌, ◌++◌}
use native.Mathlib.Omega.{arith}
use lib.Dec.{eqb, lit≤}
use Rattle.wire.specs.Fields.{byte_at}
use Rattle.wire.specs.Tests.{Tests, first_met}
use Rattle.section.specs.declared.Refusal.{Refusal}
use Rattle.section.specs.declared.Rules.{Rules}
use Rattle.section.specs.declared.Rules.TheVariants.{Application}
use Rattle.section.specs.declared.Rules.TheVariants.{Carousel as Carousels}
use Rattle.section.specs.declared.Header.{Header}
use Rattle.section.specs.Header.{application_table, header_of, body_of}
use Rattle.section.specs.Refusals.{section_tests}
use Rattle.section.specs.Answer.{Told}
use Rattle.ait_body.specs.Body.{body_tests}
use Rattle.ait_read.specs.Acceptance.{application_tests}
use Rattle.ait_read.specs.declared.Table.{Table as Read}
use Rattle.ait_read.specs.Answers.{read_answer, read_number, number_of_read}
use Rattle.ait_read.proofs.Laws.Numbers.{read_number_lem}
use Rattle.ait_read.proofs.Laws.Told.{read_told}
use Rattle.carousel_messages.specs.declared.CarouselTable.{CarouselTable}
use Rattle.carousel_messages.specs.declared.CarouselTable.TheVariants.{Announcements, Blocks}
use Rattle.carousel_messages.specs.Refusals.{message_tests}
use Rattle.carousel_messages.specs.Judged.{carousel_table_in, carousel_tests}
use Rattle.carousel_messages.specs.Heard.{Heard, refusal, announced, arrived, heard_of}
use Rattle.carousel_record.specs.declared.Carousel.{Carousel}
use Rattle.carousel_record.specs.Record.{Record, record_of, ruled_of}
use Rattle.carousel_step.specs.Step.{heard_tests, step_tests, number_of_answer, stepped_of, image_of}
use Rattle.carousel_step.proofs.Exact.{step-number}
use Rattle.carousel_step.proofs.Told.{step-told}
use Rattle.carousel_step.proofs.Steps.{refusal_changes-nothing}
use Rattle.receiver.specs.declared.Given.{Given}
use Rattle.receiver.specs.declared.Stop.TheVariants as stop
use Rattle.receiver.specs.Run.{read_fate, table_fate, carousel_fate, given_of, image_given, run_of, halted}
use Rattle.receiver.specs.Run.{number_of_fate, rules_of}
use Rattle.receiver.proofs.Laws.Runs.{run-state}
use Rattle.receiver.proofs.Laws.Takes.{given-number}
use Rattle.receiver.proofs.Laws.Fates.{fate-table, fate-other, fate_tells}
use Rattle.std.proofs.Common.{Result, Ok, Err}
use Rattle.carousel_step.specs.Step.{Answered as Answer}

-- the tables have no other numbers
abbrev Most : ℕ → Tests → Type 0
Most b [] = Unit
Most b (t ∷ ts) = (t.0 ≤ b) × Most b ts

met-most : (b : ℕ) (ts : Tests) → Most b ts → first_met ts ≤ b
unfolding first_met
met-most b [] m = omega arith
met-most b (t ∷ ts) m = go t.1 (met-most b ts m.1)
  where
    go : (u : Bool) → first_met ts ≤ b → cond u t.0 (first_met ts) ≤ b
    go true h = m.0
    go false h = h

most-both : (b : ℕ) (ts us : Tests) → Most b ts → Most b us → Most b (ts ++ us)
most-both b [] us m n = n
most-both b (t ∷ ts) us m n = (m.0, most-both b ts us m.1 n)

message-most : (t : CarouselTable) (h : Header) (b : List ℕ) → Most 17 (message_tests t h b)
message-most Announcements h b = (lit≤ tt, (lit≤ tt, (lit≤ tt, (lit≤ tt, (lit≤ tt, tt)))))
message-most Blocks h b = (lit≤ tt, (lit≤ tt, (lit≤ tt, (lit≤ tt, tt))))

heard-most : (r : Record) (image : List ℕ) (h : Heard) → Most 17 (heard_tests r image h)
heard-most r image (refusal n) = tt
heard-most r image (announced a) = tt
heard-most r image (arrived d) = (lit≤ tt, (lit≤ tt, (lit≤ tt, (lit≤ tt, (lit≤ tt, (lit≤ tt, tt))))))

section-most : (b : ℕ) → 6 ≤ b → (rules : Rules) (s : List ℕ) → Most b (section_tests rules s)
section-most b l rules s = (omega arith, (omega arith, (omega arith, (omega arith, (omega arith, tt)))))

-- at most 17 of the step, 18 of a table and of the receiver
pub step-known : (c : Carousel) (s image : List ℕ) → number_of_answer (stepped_of c s image).answer ≤ 17
step-known c s image =
    let m = most-both 17 (carousel_tests s) (heard_tests (record_of c) image (heard_of s))
    (most-both 17 (section_tests Carousels s) (message_tests (carousel_table_in s) (header_of s) (body_of s)) (section-most 17 (lit≤ tt) Carousels s)
    (message-most (carousel_table_in s) (header_of s) (body_of s)))
    (heard-most (record_of c) image (heard_of s)) in
    rw (step-number c s image) (met-most 17 (step_tests c s image) (lit≤ tt, m))

pub table-known : (s : List ℕ) → number_of_read (read_answer s) ≤ 18
unfolding read_number
table-known s =
    rw (read_number_lem s) (met-most 18 (application_tests s) (most-both 18 (section_tests Application s) (body_tests (body_of s)) (section-most 18 (lit≤ tt) Application s) (lit≤ tt, (lit≤ tt, tt))))

pub take-known : (c : Carousel) (s image : List ℕ) → number_of_fate (given_of c s image).fate ≤ 18
take-known c s image = rw (given-number c s image) (go (eqb (byte_at s 0) application_table))
  where
    go : (t : Bool) → cond t (read_number s) (first_met (step_tests c s image)) ≤ 18
    go true = rw (← read_number_lem s) (table-known s)
    go false = let k : first_met (step_tests c s image) ≤ 17 = rw (← step-number c s image) (step-known c s image) in omega arith

refused-by : (a : Answer) (r : Refusal) → carousel_fate a ≡ Err r → a ≡ Err r
unfolding carousel_fate
refused-by a r e = fate_tells a (Err r) e

read-refused : (a : Result Read Refusal) (r : Refusal) → read_fate a ≡ Err r → a ≡ Err r
unfolding read_fate
read-refused (Err n) r e = let q : n ≡ r = cc in ap Err q
read-refused (Ok t) r e = let w : ◌≡◌ {A = ℕ} 0 1 = cc in absurd (omega arith)

-- AND A REFUSAL IS ITS NUMBER, NOT 0, AND ITS PLACE: of whatever section is taken as of a table and of the step
pub take-told : (c : Carousel) (s image : List ℕ) (r : Refusal) → (given_of c s image).fate ≡ Err r → Told (rules_of s) s r
take-told c s image r e = go (eqb (byte_at s 0) application_table) refl
  where
    go : (t : Bool) → eqb (byte_at s 0) application_table ≡ t → Told (cond t Application Carousels) s r
    go true f = read_told s r (read-refused (read_answer s) r (sym (fate-table c s image f) ∙ e))
    go false f = step-told s r c image (refused-by (stepped_of c s image).answer r (sym (fate-other c s image f) ∙ e))

module _ (c : Carousel) (s image : List ℕ) where
  -- a refusal changes neither record nor image, of any record and image: the step's, and the receiver's
  pub step-refused : (r : Refusal) → (stepped_of c s image).answer ≡ Err r → ((stepped_of c s image).state ≡ c) × (image_of c s image ≡ image)
  step-refused r e = refusal_changes-nothing c s image r e

  pub take-refused : (r : Refusal) → (given_of c s image).fate ≡ Err r → ((given_of c s image).state ≡ c) × (image_given c s image ≡ image)
  unfolding given_of image_given
  take-refused r = go (eqb (byte_at s 0) application_table)
    where
      go : (t : Bool) → (cond {A = Given} t (record { fate = table_fate s; state = c })
          (record { fate = carousel_fate (stepped_of c s image).answer; state = (stepped_of c s image).state })).fate ≡ Err r
          → ((cond {A = Given} t (record { fate = table_fate s; state = c }) (record { fate = carousel_fate (stepped_of c s image).answer; state = (stepped_of c s image).state })).state ≡ c)
          × (cond t image (image_of c s image) ≡ image)
      go true e = (refl, refl)
      go false e = step-refused r (refused-by (stepped_of c s image).answer r e)

  -- so does a table, accepted or not
  pub table_changes-nothing : byte_at s 0 ≡ application_table → ((given_of c s image).state ≡ c) × (image_given c s image ≡ image)
  unfolding given_of image_given
  table_changes-nothing e = rw e (refl, refl)

  -- and a broken record stops a run before it takes anything
  pub run_broken : (budget : ℕ) → ruled_of c ≡ false → run_of c s image budget ≡ halted c image stop.State
  run_broken budget r = run-state c s image budget r
