-- One section taken, and the run one section at a time, as the loop takes them.
use Prim.Native.Nat.{ℕ, zero, suc, ◌+◌, ◌-◌, ◌<◌}
use mathlib.Core.Path.{◌≡◌, refl, sym, ap, ap₂, ◌∙◌}
use mathlib.Core.Bool.{true, false}
use mathlib.Core.List.{List}
use native.Mathlib.Omega.{arith}
use lib.ListN.{take, drop}
use lib.Seq.{drop-drop}
use borrow.Author.Tests.{eq-eqb, ne_eqb}
use Rattle.carousel_record.specs.declared.Carousel.{Carousel}
use Rattle.carousel_record.specs.Record.{ruled_of}
use Rattle.receiver.specs.declared.Stop.{Stop}
use Rattle.receiver.specs.declared.Stop.TheVariants as stop
use Rattle.receiver.specs.declared.Given.{Given}
use Rattle.receiver.specs.declared.Took.{Took}
use Rattle.section.specs.Whole.{whole_at}
use Rattle.receiver.specs.Run.{stop_at, given_of, image_given, stopped_by, took_of, image_took, RunOutcome, halted, run_after, runs, run_of, ran_of, image_ran}
use Rattle.std.proofs.Common.{Ok}

module _ (c : Carousel) (s image : List ℕ) (budget : ℕ) where
  pub took-state : ruled_of c ≡ false → (took_of c s image budget ≡ stopped_by c stop.State) × (image_took c s image budget ≡ image)
  unfolding took_of image_took
  took-state r = rw r (refl, refl)

  module _ (r : ruled_of c ≡ true) where
    pub took-stop : whole_at s ≡ 0 → (took_of c s image budget ≡ stopped_by c (stop_at s)) × (image_took c s image budget ≡ image)
    unfolding took_of image_took
    took-stop z = rw (r, eq-eqb (whole_at s) 0 z) (refl, refl)

    module _ (n : whole_at s ≡ 0 → ⊥) where
      pub took-budget : budget ≡ 0 → (took_of c s image budget ≡ stopped_by c (stop_at s)) × (image_took c s image budget ≡ image)
      unfolding took_of image_took
      took-budget z = rw (r, ne_eqb (whole_at s) 0 n, eq-eqb budget 0 z) (refl, refl)

      pub took_one_lem : (budget ≡ 0 → ⊥)
          → (took_of c s image budget ≡ record {
            what = Ok (record { length = whole_at s; fate = (given_of c (take (whole_at s) s) image).fate });
            state = (given_of c (take (whole_at s) s) image).state;
          })
          × (image_took c s image budget ≡ image_given c (take (whole_at s) s) image)
      unfolding took_of image_took
      took_one_lem z = rw (r, ne_eqb (whole_at s) 0 n, ne_eqb budget 0 z) (refl, refl)

  pub run-state : ruled_of c ≡ false → run_of c s image budget ≡ halted c image stop.State
  unfolding run_of
  run-state r = rw r

  pub run-ruled : ruled_of c ≡ true → run_of c s image budget ≡ runs budget c s image
  unfolding run_of
  run-ruled r = rw r

-- an outcome run_after t sections and p bytes
abbrev pub ahead : (t p : ℕ) → RunOutcome → RunOutcome
ahead t p o = record { state = o.state; image = o.image; taken = t + o.taken; passed = p + o.passed; stop = o.stop }

pub same-counts : (o : RunOutcome) (t t' p p' : ℕ) → t ≡ t' → p ≡ p'
    → ◌≡◌ {A = RunOutcome} (record { state = o.state; image = o.image; taken = t; passed = p; stop = o.stop })
    (record { state = o.state; image = o.image; taken = t'; passed = p'; stop = o.stop })
same-counts o t t' p p' e f = ap₂ (λ (x y : ℕ). record { state = o.state; image = o.image; taken = x; passed = y; stop = o.stop }) e f

pub ahead_none : (o : RunOutcome) → o ≡ ahead 0 0 o
ahead_none o = same-counts o o.taken (0 + o.taken) o.passed (0 + o.passed) (omega arith) (omega arith)

pub ahead_after : (t p n : ℕ) (o : RunOutcome) → ahead t p (run_after n o) ≡ ahead (t + 1) (p + n) o
ahead_after t p n o = same-counts o (t + suc o.taken) (t + 1 + o.taken) (p + (n + o.passed)) (p + n + o.passed) (omega arith) (omega arith)

pub ahead-halted : (t p : ℕ) (c : Carousel) (image : List ℕ) (x : Stop) → ahead t p (halted c image x) ≡ record { state = c; image = image; taken = t; passed = p; stop = x }
ahead-halted t p c image x = same-counts (halted c image x) (t + 0) t (p + 0) p (omega arith) (omega arith)

-- nothing is taken
pub runs-stop : (k : ℕ) (c : Carousel) (s image : List ℕ) → whole_at s ≡ 0 → runs k c s image ≡ halted c image (stop_at s)
unfolding runs
runs-stop zero c s image z = refl
runs-stop (suc k) c s image z = rw (eq-eqb (whole_at s) 0 z)

pub runs_done : (k : ℕ) (c : Carousel) (s image : List ℕ) → k ≡ 0 → runs k c s image ≡ halted c image (stop_at s)
unfolding runs
runs_done zero c s image z = refl
runs_done (suc k) c s image z = absurd (omega arith)

-- one section is
pub runs-next : (k : ℕ) (c : Carousel) (s image : List ℕ) → (whole_at s ≡ 0 → ⊥)
    → runs (suc k) c s image ≡ run_after (whole_at s) (runs k (given_of c (take (whole_at s) s) image).state (drop (whole_at s) s) (image_given c (take (whole_at s) s) image))
unfolding runs
runs-next k c s image n = rw (ne_eqb (whole_at s) 0 n)

-- the loop's turn, at the byte p of a stretch, with b of the budget left
pub turn : (stretch image : List ℕ) (d : Carousel) (t p b : ℕ) (n : ℕ) → n ≡ whole_at (drop p stretch) → (n ≡ 0 → ⊥) → 0 < b
    → ahead (t + 1) (p + n) (runs (b - 1) (given_of d (take n (drop p stretch)) image).state (drop (p + n) stretch) (image_given d (take n (drop p stretch)) image))
    ≡ ahead t p (runs b d (drop p stretch) image)
turn stretch image d t p b n e z l =
    let f : b ≡ suc (b - 1) = omega arith in
    let g = drop-drop n p stretch in
    let later : List ℕ → RunOutcome = λ x. ahead (t + 1) (p + n) (runs (b - 1) (given_of d (take n (drop p stretch)) image).state x (image_given d (take n (drop p stretch)) image)) in
    sym (ap (λ (k : ℕ). ahead t p (runs k d (drop p stretch) image)) f ∙ ap (ahead t p) (runs-next (b - 1) d (drop p stretch) image (λ y. z (e ∙ y))) ∙ rw (← e) (ahead_after t p n _ ∙ ap later g))

-- what was taken, from what code has in hand
pub taken_is : (c : Carousel) (s image : List ℕ) (n w : ℕ) (g : Given) (x : Took) → n ≡ w → g ≡ given_of c (take n s) image
    → x ≡ record { what = Ok (record { length = w; fate = (given_of c (take w s) image).fate }); state = (given_of c (take w s) image).state }
    → record { what = Ok (record { length = n; fate = g.fate }); state = g.state } ≡ x
taken_is c s image n w g x e f h = rw (f, e) (sym h)

-- what a run answers, from what it comes to
pub ran-is : (c : Carousel) (s image : List ℕ) (budget : ℕ) (d : Carousel) (l : List ℕ) (t p : ℕ) (x : Stop) → run_of c s image budget ≡ record {
  state = d;
  image = l;
  taken = t;
  passed =
      p;
  stop = x;
}
    → (record { passage = record { taken = t; passed = p; stop = x }; state = d } ≡ ran_of c s image budget) × (l ≡ image_ran c s image budget)
ran-is c s image budget d l t p x e =
    (ap (λ (o : RunOutcome). record { passage = record { taken = o.taken; passed = o.passed; stop = o.stop }; state = o.state }) (sym e), ap (λ (o : RunOutcome). o.image) (sym e))

-- the loop's turn, from what code has in hand: the record x and the image l after the section `part`
pub turned : (stretch image : List ℕ) (d : Carousel) (t p budget n : ℕ) (x : Carousel) (l part : List ℕ) → part ≡ take n (drop p stretch)
    → x ≡ (given_of d part image).state → l ≡ image_given d part image
    → n ≡ whole_at (drop p stretch) → (n ≡ 0 → ⊥) → t < budget
    → ahead (t + 1) (p + n) (runs (budget - (t + 1)) x (drop (p + n) stretch) l) ≡ ahead t p (runs (budget - t) d (drop p stretch) image)
turned stretch image d t p budget n x l part e f h w z b =
    let k : budget - (t + 1) ≡ budget - t - 1 = omega arith in
    let q = turn stretch image d t p (budget - t) n w z (omega arith) in
    ap (λ (m : ℕ). ahead (t + 1) (p + n) (runs m x (drop (p + n) stretch) l)) k
    ∙ ap₂ (λ (c : Carousel) (i : List ℕ). ahead (t + 1) (p + n) (runs (budget - t - 1) c (drop (p + n) stretch) i)) (f ∙ ap (λ (s : List ℕ). (given_of d s image).state) e)
    (h ∙ ap (λ (x : List ℕ). image_given d x image) e)
    ∙ q
