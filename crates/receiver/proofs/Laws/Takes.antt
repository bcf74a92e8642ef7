-- `take` from its answer on: its number, and what a caller who repeats it knows of the run.
use Prim.Native.Nat.{ℕ, zero, suc, ◌-◌, ◌≤◌, ◌<◌}
use mathlib.Core.Path.{◌≡◌, refl, sym, ap, ◌∙◌}
use mathlib.Core.Bool.{Bool, true, false, cond, ◌||◌}
use mathlib.Core.List.{List, [], ◌∷◌}
use native.Mathlib.Omega.{arith}
use lib.Dec.{eqb}
use lib.ListN.{length, take, drop}
use borrow.Author.Tests.{eqb-true, eqb-false, eq-eqb, ne_eqb}
use Rattle.wire.specs.Fields.{byte_at}
use Rattle.wire.specs.Tests.{first_met}
use Rattle.wire.proofs.Laws.Tests.{clash}
use Rattle.section.specs.Header.{application_table}
use Rattle.section.specs.declared.Refusal.{Refusal}
use Rattle.ait_read.specs.declared.Table.{Table as Read}
use Rattle.ait_read.specs.Answers.{read_answer, number_of_read, read_number}
use Rattle.ait_read.proofs.Laws.Numbers.{read_number_lem}
use Rattle.carousel_record.specs.declared.Carousel.{Carousel}
use Rattle.carousel_record.specs.Record.{ruled_of}
use Rattle.carousel_step.specs.Step.{stepped_of, step_tests}
use Rattle.carousel_step.specs.Step.{number_of_answer}
use Rattle.carousel_step.proofs.Exact.{step-number}
use Rattle.receiver.specs.declared.Stop.{Stop}
use Rattle.receiver.specs.declared.Stop.TheVariants as stop
use Rattle.receiver.specs.declared.Section.{Section}
use Rattle.receiver.specs.declared.Given.{Given}
use Rattle.receiver.specs.declared.Took.{Took}
use Rattle.section.proofs.Laws.Whole.{whole-fits}
use Rattle.receiver.proofs.Laws.Runs.{took-stop, took-budget, took_one_lem, runs-stop, runs_done, runs-next}
use Rattle.receiver.proofs.Runs.{given_rule}
use Rattle.section.specs.Whole.{whole_at}
use Rattle.receiver.specs.Run.{stop_at, read_fate, table_fate, carousel_fate, given_of, image_given, number_of_fate, given_number, stopped_by}
use Rattle.receiver.specs.Run.{took_of, image_took, number_took, took_number, halted, run_after, runs, fates_of}
use Rattle.std.proofs.Common.{Result, Ok, Err}
use Rattle.carousel_step.specs.Step.{Answered as Answer}
use Rattle.receiver.specs.Run.{What}
use Rattle.carousel_step.specs.declared.Answer.TheVariants as answer

-- THE NUMBER OF ONE SECTION is that of the paper's table, whichever rules it goes by
read_fate_lem : (a : Result Read Refusal) → number_of_fate (read_fate a) ≡ number_of_read a
unfolding read_fate
read_fate_lem (Err r) = refl
read_fate_lem (Ok t) = refl

pub carousel_fate_lem : (a : Answer) → number_of_fate (carousel_fate a) ≡ number_of_answer a
unfolding carousel_fate
carousel_fate_lem (Ok answer.New) = refl
carousel_fate_lem (Ok answer.Same) = refl
carousel_fate_lem (Ok answer.Stored) = refl
carousel_fate_lem (Ok answer.Repeated) = refl
carousel_fate_lem (Err r) = refl

pub given-number : (c : Carousel) (s image : List ℕ) → number_of_fate (given_of c s image).fate ≡ given_number c s image
unfolding given_of
given-number c s image = go (eqb (byte_at s 0) application_table)
  where
    go : (t : Bool) → number_of_fate (cond {A = Given} t (record { fate = table_fate s; state = c })
        (record { fate = carousel_fate (stepped_of c s image).answer; state = (stepped_of c s image).state })).fate
        ≡ cond t (read_number s) (first_met (step_tests c s image))
    go true = read_fate_lem (read_answer s) ∙ read_number_lem s
    go false = carousel_fate_lem (stepped_of c s image).answer ∙ step-number c s image

pub took_number_lem : (c : Carousel) (s image : List ℕ) (budget : ℕ) → number_took (took_of c s image budget).what ≡ took_number c s image budget
unfolding took_of took_number
took_number_lem c s image budget = go (ruled_of c) (eqb (whole_at s) 0 || eqb budget 0)
  where
    go : (r t : Bool) → number_took (cond {A = Took} r
        (cond t (stopped_by c (stop_at s)) (record {
          what = Ok (record { length = whole_at s; fate = (given_of c (take (whole_at s) s) image).fate });
          state = (given_of c (take (whole_at s) s) image).state;
        }))
        (stopped_by c stop.State)).what ≡ cond r (cond t 0 (given_number c (take (whole_at s) s) image)) 0
    go true true = refl
    go true false = given-number c (take (whole_at s) s) image
    go false t = refl

-- what `take` promises, from its answer and its image
pub took-said : (c : Carousel) (s image : List ℕ) (budget : ℕ) (x : Took) (l : List ℕ) → (x ≡ took_of c s image budget) × (l ≡ image_took c s image budget)
    → (x ≡ took_of c s image budget) × (l ≡ image_took c s image budget) × (number_took x.what ≡ took_number c s image budget)
took-said c s image budget x l p = (p.0, p.1, ap (λ (y : Took). number_took y.what) p.0 ∙ took_number_lem c s image budget)

-- the fates of a run, one section at a time
fates-stop : (k : ℕ) (c : Carousel) (s image : List ℕ) → whole_at s ≡ 0 → fates_of k c s image ≡ []
unfolding fates_of
fates-stop zero c s image z = refl
fates-stop (suc k) c s image z = rw (eq-eqb (whole_at s) 0 z)

fates-none : (c : Carousel) (s image : List ℕ) → fates_of 0 c s image ≡ []
unfolding fates_of
fates-none c s image = refl

fates-next : (k : ℕ) (c : Carousel) (s image : List ℕ) → (whole_at s ≡ 0 → ⊥)
    → fates_of (suc k) c s image ≡ (given_of c (take (whole_at s) s) image).fate ∷ fates_of k (given_of c (take (whole_at s) s) image).state (drop (whole_at s) s) (image_given c
    (take (whole_at s) s) image)
unfolding fates_of
fates-next k c s image n = rw (ne_eqb (whole_at s) 0 n)

-- with no budget nothing is taken, whatever stands there
took-none : (c : Carousel) (s image : List ℕ) → ruled_of c ≡ true → (took_of c s image 0 ≡ stopped_by c (stop_at s)) × (image_took c s image 0 ≡ image)
took-none c s image r = go (eqb (whole_at s) 0) refl
  where
    go : (t : Bool) → eqb (whole_at s) 0 ≡ t → (took_of c s image 0 ≡ stopped_by c (stop_at s)) × (image_took c s image 0 ≡ image)
    go true z = took-stop c s image 0 r (eqb-true (whole_at s) 0 z)
    go false z = took-budget c s image 0 r (eqb-false (whole_at s) 0 z) refl

-- a stop is no section; and what is in each
abbrev stop_in : What → Stop
stop_in (Err x) = x
stop_in (Ok x) = stop.End

abbrev section_in : Section → What → Section
section_in d (Ok x) = x
section_in d (Err x) = d

abbrev is_taken : What → Bool
is_taken (Ok x) = true
is_taken (Err x) = false

-- THE RUN FROM THE ANSWERS OF `take`, for a record that keeps its rule
module _ (c : Carousel) (s image : List ℕ) (r : ruled_of c ≡ true) where
  -- where it stops, so does the run, and for that reason
  abbrev Ends : ℕ → Stop → Type 0
  Ends budget x = (fates_of budget c s image ≡ []) × (runs budget c s image ≡ halted c image x) × (image_took c s image budget ≡ image)

  halts : (budget : ℕ) (x : Stop) → (took_of c s image budget ≡ stopped_by c (stop_at s)) × (image_took c s image budget ≡ image) → fates_of budget c s image ≡ []
      → runs budget c s image ≡ halted c image (stop_at s) → (took_of c s image budget).what ≡ Err x → Ends budget x
  halts budget x p f g e = (f, g ∙ ap (halted c image) (ap (λ (y : Took). stop_in y.what) (sym p.0) ∙ ap stop_in e), p.1)

  pub ends : (budget : ℕ) (x : Stop) → (took_of c s image budget).what ≡ Err x → Ends budget x
  ends zero x e = halts zero x (took-none c s image r) (fates-none c s image) (runs_done zero c s image refl) e
  ends (suc k) x e = go (eqb (whole_at s) 0) refl
    where
      go : (t : Bool) → eqb (whole_at s) 0 ≡ t → Ends (suc k) x
      go true z = let w = eqb-true (whole_at s) 0 z in halts (suc k) x (took-stop c s image (suc k) r w) (fates-stop (suc k) c s image w) (runs-stop (suc k) c s image w) e
      go false z =
          let p = took_one_lem c s image (suc k) r (eqb-false (whole_at s) 0 z) (λ y. omega arith) in
          absurd (clash (is_taken (took_of c s image (suc k)).what) (ap (λ (y : Took). is_taken y.what) p.0) (ap is_taken e))

  -- where it takes a section, the run goes on behind it
  abbrev GoesOn : ℕ → Section → Carousel → List ℕ → Type 0
  GoesOn budget x d l =
      (0 < budget) × (x.length ≤ length s) × (ruled_of d ≡ true)
      × (fates_of budget c s image ≡ x.fate ∷ fates_of (budget - 1) d (drop x.length s) l)
      × (runs budget c s image ≡ run_after x.length (runs (budget - 1) d (drop x.length s) l))

  pub goes_on : (budget : ℕ) (x : Section) → (took_of c s image budget).what ≡ Ok x → GoesOn budget x (took_of c s image budget).state (image_took c s image budget)
  goes_on zero x e = let p = took-none c s image r in absurd (clash (is_taken (took_of c s image 0).what) (ap is_taken e) (ap (λ (y : Took). is_taken y.what) p.0))
  goes_on (suc k) x e = go (eqb (whole_at s) 0) refl
    where
      one : Section
      one = record { length = whole_at s; fate = (given_of c (take (whole_at s) s) image).fate }

      next : (whole_at s ≡ 0 → ⊥) → GoesOn (suc k) one (given_of c (take (whole_at s) s) image).state (image_given c (take (whole_at s) s) image)
      next n = let b : suc k - 1 ≡ k = omega arith in rw b (omega arith, whole-fits s, given_rule c (take (whole_at s) s) image r, fates-next k c s image n, runs-next k c s image n)

      go : (t : Bool) → eqb (whole_at s) 0 ≡ t → GoesOn (suc k) x (took_of c s image (suc k)).state (image_took c s image (suc k))
      go true z =
          let p = took-stop c s image (suc k) r (eqb-true (whole_at s) 0 z) in
          absurd (clash (is_taken (took_of c s image (suc k)).what) (ap is_taken e) (ap (λ (y : Took). is_taken y.what) p.0))
      go false z =
          let n = eqb-false (whole_at s) 0 z in
          let p = took_one_lem c s image (suc k) r n (λ y. omega arith) in
          let q : one ≡ x = sym (ap (λ (y : Took). section_in x y.what) p.0) ∙ ap (section_in x) e in
          rw (ap (λ (y : Took). y.state) p.0, p.1, ← q) (next n)
