-- What a run is: the one-section calls over the sections that it took; budgets that add up; and that it takes no more than its budget and passes no more than its stretch.
use Prim.Native.Nat.{ℕ, zero, suc, ◌+◌, ◌*◌, ◌≤◌}
use mathlib.Core.Path.{◌≡◌, refl, sym, ap, ◌∙◌}
use mathlib.Core.Bool.{Bool, true, false, cond}
use mathlib.Core.List.{List, [], ◌∷◌}
use native.Mathlib.Omega.{arith}
use lib.Dec.{eqb}
use lib.ListN.{length, take, drop, length-append, length-drop}
use lib.Seq.{drop-drop, length-take-le}
use borrow.Author.Tests.{eqb-true, eqb-false}
use Rattle.wire.specs.Fields.{byte_at}
use Rattle.wire.specs.Items.{joined}
use Rattle.section.specs.Header.{application_table}
use Rattle.carousel_record.specs.declared.Carousel.{Carousel}
use Rattle.carousel_record.specs.Record.{ruled_of}
use Rattle.carousel_step.specs.Step.{stepped_of}
use Rattle.carousel_step.proofs.Simulation.{step_rule}
use Rattle.receiver.specs.declared.Given.{Given}
use Rattle.receiver.specs.declared.Took.{Took}
use Rattle.receiver.specs.declared.Stop.{Stop}
use Rattle.receiver.specs.declared.Stop.TheVariants as stop
use Rattle.section.specs.Whole.{whole_at}
use Rattle.receiver.specs.Run.{stop_at, table_fate, carousel_fate, given_of, image_given, took_of, image_took, RunOutcome, halted, run_after, runs, run_of, sections_of, fates_of, Held, walk}
use Rattle.section.proofs.Laws.Whole.{whole-fits, whole-three}
use Rattle.receiver.proofs.Laws.Runs.{took_one_lem, ahead, same-counts, ahead_none, runs-stop, runs-next, run-state, run-ruled}
use Rattle.receiver.specs.Run.{Fate}

-- what a run leaves, as a record and an image
abbrev pub held_by : RunOutcome → Held
held_by o = record { state = o.state; image = o.image }

-- THE RUN IS THE ONE-SECTION CALLS OVER THE SECTIONS THAT IT TOOK
pub run_walks : (budget : ℕ) (c : Carousel) (s image : List ℕ)
    → (held_by (runs budget c s image) ≡ walk (record { state = c; image = image }) (sections_of budget s))
    × ((runs budget c s image).taken ≡ length (sections_of budget s)) × ((runs budget c s image).passed ≡ length (joined (sections_of budget s)))
unfolding runs sections_of walk joined
run_walks zero c s image = (refl, refl, refl)
run_walks (suc budget) c s image = go (eqb (whole_at s) 0) (run_walks budget (given_of c (take (whole_at s) s) image).state (drop (whole_at s) s) (image_given c (take (whole_at s) s) image))
  where
    next : RunOutcome
    next = runs budget (given_of c (take (whole_at s) s) image).state (drop (whole_at s) s) (image_given c (take (whole_at s) s) image)

    rest : List (List ℕ)
    rest = sections_of budget (drop (whole_at s) s)

    go : (t : Bool)
        → (held_by next ≡ walk (record { state = (given_of c (take (whole_at s) s) image).state; image = image_given c (take (whole_at s) s) image }) rest)
        × (next.taken ≡ length rest) × (next.passed ≡ length (joined rest))
        → (held_by (cond t (halted c image (stop_at s)) (run_after (whole_at s) next)) ≡ walk (record { state = c; image = image }) (cond t [] (take (whole_at s) s ∷ rest)))
        × ((cond t (halted c image (stop_at s)) (run_after (whole_at s) next)).taken ≡ length (cond t [] (take (whole_at s) s ∷ rest)))
        × ((cond t (halted c image (stop_at s)) (run_after (whole_at s) next)).passed ≡ length (joined (cond t [] (take (whole_at s) s ∷ rest))))
    go true h = (refl, refl, refl)
    go false h =
        let w = length-take-le (whole_at s) s (whole-fits s) in
        let l = length-append (take (whole_at s) s) (joined rest) in
        (h.0, ap suc h.1, omega (arith, h.2))

-- and as many fates as sections
pub fates-counted : (budget : ℕ) (c : Carousel) (s image : List ℕ) → length (fates_of budget c s image) ≡ (runs budget c s image).taken
unfolding runs fates_of
fates-counted zero c s image = refl
fates-counted (suc budget) c s image = go (eqb (whole_at s) 0) (fates-counted budget (given_of c (take (whole_at s) s) image).state (drop (whole_at s) s) (image_given c (take (whole_at s) s) image))
  where
    next : RunOutcome
    next = runs budget (given_of c (take (whole_at s) s) image).state (drop (whole_at s) s) (image_given c (take (whole_at s) s) image)

    rest : List Fate
    rest = fates_of budget (given_of c (take (whole_at s) s) image).state (drop (whole_at s) s) (image_given c (take (whole_at s) s) image)

    go : (t : Bool) → length rest ≡ next.taken → length (cond t [] ((given_of c (take (whole_at s) s) image).fate ∷ rest)) ≡ (cond t (halted c image (stop_at s)) (run_after (whole_at s) next)).taken
    go true h = refl
    go false h = ap suc h

-- "One that invents the taken number fails the run's definition": it takes no more than its budget, and passes no more than its stretch
pub taken-most : (budget : ℕ) (c : Carousel) (s image : List ℕ) → (runs budget c s image).taken ≤ budget
unfolding runs
taken-most zero c s image = omega arith
taken-most (suc budget) c s image = go (eqb (whole_at s) 0) (taken-most budget (given_of c (take (whole_at s) s) image).state (drop (whole_at s) s) (image_given c (take (whole_at s) s) image))
  where
    go : (t : Bool) → (runs budget (given_of c (take (whole_at s) s) image).state (drop (whole_at s) s) (image_given c (take (whole_at s) s) image)).taken ≤ budget
        → (cond t (halted c image (stop_at s))
        (run_after (whole_at s) (runs budget (given_of c (take (whole_at s) s) image).state (drop (whole_at s) s)
        (image_given c (take (whole_at s) s) image)))).taken ≤ suc budget
    go true h = omega arith
    go false h = omega arith

pub passed-most : (budget : ℕ) (c : Carousel) (s image : List ℕ) → (runs budget c s image).passed ≤ length s
unfolding runs
passed-most zero c s image = omega arith
passed-most (suc budget) c s image = go (eqb (whole_at s) 0) (passed-most budget (given_of c (take (whole_at s) s) image).state (drop (whole_at s) s) (image_given c (take (whole_at s) s) image))
  where
    go : (t : Bool) → (runs budget (given_of c (take (whole_at s) s) image).state (drop (whole_at s) s) (image_given c (take (whole_at s) s) image)).passed ≤ length (drop (whole_at s) s)
        → (cond t (halted c image (stop_at s))
        (run_after (whole_at s) (runs budget (given_of c (take (whole_at s) s) image).state (drop (whole_at s) s)
        (image_given c (take (whole_at s) s) image)))).passed ≤ length s
    go true h = omega arith
    go false h = let f = whole-fits s in let l = length-drop (whole_at s) s in omega arith

-- and as each section has at least three bytes, no more than a third of the stretch's are taken
pub taken_third : (budget : ℕ) (c : Carousel) (s image : List ℕ) → 3 * (runs budget c s image).taken ≤ length s
unfolding runs
taken_third zero c s image = omega arith
taken_third (suc budget) c s image = go (eqb (whole_at s) 0) refl (taken_third budget (given_of c (take (whole_at s) s) image).state (drop (whole_at s) s) (image_given c (take (whole_at s) s) image))
  where
    next : RunOutcome
    next = runs budget (given_of c (take (whole_at s) s) image).state (drop (whole_at s) s) (image_given c (take (whole_at s) s) image)

    go : (t : Bool) → eqb (whole_at s) 0 ≡ t → 3 * next.taken ≤ length (drop (whole_at s) s) → 3 * (cond t (halted c image (stop_at s)) (run_after (whole_at s) next)).taken ≤ length s
    go true e h = omega arith
    go false e h =
        let f = whole-fits s in
        let w = whole-three s (eqb-false (whole_at s) 0 e) in
        let l = length-drop (whole_at s) s in
        omega arith

-- the rule is kept by every section, and by a run
pub given_rule : (c : Carousel) (s image : List ℕ) → ruled_of c ≡ true → ruled_of (given_of c s image).state ≡ true
unfolding given_of
given_rule c s image r = go (eqb (byte_at s 0) application_table)
  where
    go : (t : Bool) → ruled_of (cond {A = Given} t (record { fate = table_fate s; state = c })
        (record { fate = carousel_fate (stepped_of c s image).answer; state = (stepped_of c s image).state })).state ≡ true
    go true = r
    go false = step_rule c s image r

pub runs_rule : (budget : ℕ) (c : Carousel) (s image : List ℕ) → ruled_of c ≡ true → ruled_of (runs budget c s image).state ≡ true
unfolding runs
runs_rule zero c s image r = r
runs_rule (suc budget) c s image r =
    go (eqb (whole_at s) 0) (runs_rule budget (given_of c (take (whole_at s) s) image).state (drop (whole_at s) s) (image_given c (take (whole_at s) s) image) (given_rule c
    (take (whole_at s) s) image r))
  where
    go : (t : Bool) → ruled_of (runs budget (given_of c (take (whole_at s) s) image).state (drop (whole_at s) s) (image_given c (take (whole_at s) s) image)).state ≡ true
        → ruled_of (cond t (halted c image (stop_at s))
        (run_after (whole_at s) (runs budget (given_of c (take (whole_at s) s) image).state (drop (whole_at s) s)
        (image_given c (take (whole_at s) s) image)))).state ≡ true
    go true h = r
    go false h = h

-- a run, and then another of the rest
abbrev pub and_then : RunOutcome → List ℕ → ℕ → RunOutcome
and_then o s m = ahead o.taken o.passed (runs m o.state (drop o.passed s) o.image)

after_ahead : (n t p : ℕ) (o : RunOutcome) → run_after n (ahead t p o) ≡ ahead (suc t) (n + p) o
after_ahead n t p o = same-counts o (suc (t + o.taken)) (suc t + o.taken) (n + (p + o.passed)) (n + p + o.passed) (omega arith) (omega arith)

-- "A BUDGET OF n, THEN ONE OF m ON THE REST, LEAVES THE SAME RECORD, IMAGE AND LAST STOP AS n + m ..; TAKEN AND PASSED ADD UP"
then-none : (m : ℕ) (c : Carousel) (s image : List ℕ) (x : Stop) → and_then (halted c image x) s m ≡ runs m c s image
then-none m c s image x = sym (ahead_none (runs m c s image))

pub runs_add : (n m : ℕ) (c : Carousel) (s image : List ℕ) → runs (n + m) c s image ≡ and_then (runs n c s image) s m
unfolding runs
runs_add zero m c s image = let e : 0 + m ≡ m = omega arith in ap (λ (k : ℕ). runs k c s image) e ∙ sym (then-none m c s image (stop_at s))
runs_add (suc n) m c s image = go (eqb (whole_at s) 0) refl (runs_add n m (given_of c (take (whole_at s) s) image).state (drop (whole_at s) s) (image_given c (take (whole_at s) s) image))
  where
    o : RunOutcome
    o = runs n (given_of c (take (whole_at s) s) image).state (drop (whole_at s) s) (image_given c (take (whole_at s) s) image)

    go : (t : Bool) → eqb (whole_at s) 0 ≡ t
        → runs (n + m) (given_of c (take (whole_at s) s) image).state (drop (whole_at s) s) (image_given c (take (whole_at s) s) image) ≡ and_then o (drop (whole_at s) s) m
        → runs (suc n + m) c s image ≡ and_then (runs (suc n) c s image) s m
    go true e h =
        let z = eqb-true (whole_at s) 0 e in
        runs-stop (suc n + m) c s image z ∙ sym (ap (λ (q : RunOutcome). and_then q s m) (runs-stop (suc n) c s image z) ∙ then-none m c s image (stop_at s) ∙ runs-stop m c s image z)
    go false e h =
        let z = eqb-false (whole_at s) 0 e in
        let k : suc n + m ≡ suc (n + m) = omega arith in
        ap (λ (j : ℕ). runs j c s image) k
        ∙ runs-next (n + m) c s image z
        ∙ ap (run_after (whole_at s)) h
        ∙ after_ahead (whole_at s) o.taken o.passed (runs m o.state (drop o.passed (drop (whole_at s) s)) o.image)
        ∙ ap (λ (x : List ℕ). ahead (suc o.taken) (whole_at s + o.passed) (runs m o.state x o.image)) (drop-drop o.passed (whole_at s) s)
        ∙ sym (ap (λ (q : RunOutcome). and_then q s m) (runs-next n c s image z))

-- and of any record: a broken one stops both, "state"
pub run-adds : (c : Carousel) (s image : List ℕ) (n m : ℕ) → let o = run_of c s image n in
    run_of c s image (n + m) ≡ ahead o.taken o.passed (run_of o.state (drop o.passed s) o.image m)
run-adds c s image n m = go (ruled_of c) refl
  where
    rest : RunOutcome → RunOutcome
    rest o = ahead o.taken o.passed (run_of o.state (drop o.passed s) o.image m)

    go : (t : Bool) → ruled_of c ≡ t → run_of c s image (n + m) ≡ rest (run_of c s image n)
    go true r =
        let o = runs n c s image in
        run-ruled c s image (n + m) r
        ∙ runs_add n m c s image
        ∙ sym (ap rest (run-ruled c s image n r) ∙ ap (ahead o.taken o.passed) (run-ruled o.state (drop o.passed s) o.image m (runs_rule n c s image r)))
    go false r =
        run-state c s image (n + m) r
        ∙ sym (ap rest (run-state c s image n r) ∙ ap (ahead 0 0) (run-state c s image m r) ∙ sym (ahead_none (halted c image stop.State)))

-- THE RUN IS THE REPETITION OF `take`: where that stops, so does the run; where it takes a section, the run goes on from there
module _ (c : Carousel) (s image : List ℕ) (r : ruled_of c ≡ true) where
  pub run-stopped : (budget : ℕ) → whole_at s ≡ 0 → run_of c s image budget ≡ halted c image (stop_at s)
  run-stopped budget z = run-ruled c s image budget r ∙ runs-stop budget c s image z

  pub run-taken : (budget : ℕ) → (whole_at s ≡ 0 → ⊥)
      → run_of c s image (suc budget) ≡ run_after (whole_at s) (run_of (took_of c s image (suc budget)).state (drop (whole_at s) s) (image_took c s image (suc budget)) budget)
  run-taken budget n =
      let p = took_one_lem c s image (suc budget) r n (λ z. omega arith) in
      let k = given_rule c (take (whole_at s) s) image r in
      run-ruled c s image (suc budget) r
      ∙ runs-next budget c s image n
      ∙ sym (
      ap (λ (x : Took). run_after (whole_at s) (run_of x.state (drop (whole_at s) s) (image_took c s image (suc budget)) budget)) p.0
      ∙ ap (λ (x : List ℕ). run_after (whole_at s) (run_of (given_of c (take (whole_at s) s) image).state (drop (whole_at s) s) x budget)) p.1
      ∙ ap (run_after (whole_at s)) (run-ruled _ _ _ budget k)
      )
