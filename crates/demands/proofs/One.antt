-- DEMAND 1, as 00 says it:
--
--   "Any bytes may come off the air, and any state record or image buffer may be lent. Each call ends with its one stated answer. Nothing is left to the caller to check first.
--   A refusal has a number from the paper, given in exactly the stated case, and changes neither record nor image."
--
-- Each call ends, and does nothing undefined: that is part of what the prover asks of every function, for every input. Nothing is left to the caller: no public call has a
-- `requires` (tests/contracts.py). One stated answer: in each crate `proofs/Unique.antt` shows, over the prover's own reading of each public contract, that any two answers,
-- records and images that meet it coincide; docs/PROMISES.md lists every public call, and tests/calls.py holds that list to the source and to these files.
-- The stated case of each number is demand 2's (Two.antt). Here: a number is one of the paper's, a refusal is nothing but its number and that number's place, and it changes nothing.
use Prim.Native.Nat.{ℕ, ◌≤◌}
use mathlib.Core.Path.{◌≡◌, ap}
use mathlib.Core.Bool.{false}
use mathlib.Core.List.{List}
use Rattle.wire.specs.Fields.{byte_at}
use Rattle.section.specs.declared.Rules.{Rules}
use Rattle.section.specs.declared.Rules.TheVariants.{Application}
use Rattle.section.specs.declared.Rules.TheVariants.{Carousel as Carousels}
use Rattle.section.specs.declared.Refusal.{Refusal}
use Rattle.section.specs.Header.{application_table}
use Rattle.section.specs.Answer.{refused_by, Told}
use Rattle.ait_read.specs.Answers.{read_answer, number_of_read}
use Rattle.ait_read.proofs.Laws.Told.{read_told}
use Rattle.carousel_record.specs.declared.Carousel.{Carousel}
use Rattle.carousel_record.specs.Record.{ruled_of}
use Rattle.carousel_step.specs.Step.{number_of_answer, stepped_of, image_of}
use Rattle.carousel_step.proofs.Told as carousel
use Rattle.receiver.specs.declared.Stop.TheVariants as stop
use Rattle.receiver.specs.Run.{number_of_fate, rules_of, given_of, image_given, run_of, halted}
use Rattle.receiver.proofs.Laws.Refusals as laws
use Rattle.std.proofs.Common.{Err}
use Rattle.section.specs.Refusals.{Spot}

-- "Every one returns no value besides its number" (01) and, for 2 to 6, its place (02, §9): a refusal is its number. `Told` says that of a refusal, and the next theorems of every call;
-- what the place is stands in Places.antt.
pub refusal-is_its-number : (rules : Rules) (s : List ℕ) (r : Refusal) → Told rules s r → r ≡ refused_by rules s r.number
refusal-is_its-number rules s r t = ap (λ (p : Spot). record { number = r.number; place = p }) t.placed

-- "A refusal has a number from the paper": at most 18 of a table
pub table-known : (s : List ℕ) → number_of_read (read_answer s) ≤ 18
table-known s = laws.table-known s

-- and none is 0, which is no refusal; its place is its number's
pub table-told : (s : List ℕ) (r : Refusal) → read_answer s ≡ Err r → Told Application s r
table-told s r e = read_told s r e

module _ (c : Carousel) (s image : List ℕ) where
  -- at most 17 of the step, 18 of whatever section is taken
  pub step-known : number_of_answer (stepped_of c s image).answer ≤ 17
  step-known = laws.step-known c s image

  pub take-known : number_of_fate (given_of c s image).fate ≤ 18
  take-known = laws.take-known c s image

  -- and none is 0; its place is its number's
  pub step-told : (r : Refusal) → (stepped_of c s image).answer ≡ Err r → Told Carousels s r
  step-told r e = carousel.step-told s r c image e

  pub take-told : (r : Refusal) → (given_of c s image).fate ≡ Err r → Told (rules_of s) s r
  take-told r e = laws.take-told c s image r e

  -- A REFUSAL CHANGES NEITHER RECORD NOR IMAGE, of any record and image: the step's, and the receiver's
  pub step-refused : (r : Refusal) → (stepped_of c s image).answer ≡ Err r → ((stepped_of c s image).state ≡ c) × (image_of c s image ≡ image)
  step-refused r e = laws.step-refused c s image r e

  pub take-refused : (r : Refusal) → (given_of c s image).fate ≡ Err r → ((given_of c s image).state ≡ c) × (image_given c s image ≡ image)
  take-refused r e = laws.take-refused c s image r e

  -- so does a table, accepted or not
  pub table_changes-nothing : byte_at s 0 ≡ application_table → ((given_of c s image).state ≡ c) × (image_given c s image ≡ image)
  table_changes-nothing e = laws.table_changes-nothing c s image e

  -- and a broken record stops a run before it takes anything
  pub run_broken : (budget : ℕ) → ruled_of c ≡ false → run_of c s image budget ≡ halted c image stop.State
  run_broken budget r = laws.run_broken c s image budget r
