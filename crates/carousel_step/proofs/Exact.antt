-- When each answer is given: exactly the stated case, for a block and for the whole step.
use Prim.Native.Nat.{ℕ, zero, suc, ◌<◌}
use mathlib.Core.Path.{◌≡◌, refl, sym, ap, subst, ◌∙◌}
use mathlib.Core.Logic.{◌↔◌}
use mathlib.Core.Bool.{Bool, true, false, not, cond, ◌&&◌, or-false}
use mathlib.Core.List.{List, [], ◌∷◌, ◌++◌}
use native.Mathlib.Omega.{arith}
use Rattle.std.proofs.Common.{Ok, Err}
use lib.Dec.{eqb, lit<}
use lib.ListN.{length}
use borrow.Author.Tests.{eq-eqb, eqb-true, not-false}
use Rattle.wire.specs.Tests.{first_met, holds, RisingFrom}
use Rattle.wire.proofs.Laws.Tests.{both, clash, met_append, lowest_met, none_met}
use Rattle.wire.proofs.Laws.Order.{None, First, Numbered, none-exactly, first-exactly}
use Rattle.section.specs.declared.Rules.TheVariants as rules
use Rattle.section.specs.declared.Refusal.{Refusal}
use Rattle.section.specs.Header.{header_of, body_of}
use Rattle.section.specs.Refusals.{section_tests}
use Rattle.section.specs.Answer.{refused}
use Rattle.section.proofs.Laws.Exact as section
use Rattle.carousel_messages.specs.declared.Listed.{Listed}
use Rattle.carousel_messages.specs.declared.CarouselTable.{CarouselTable}
use Rattle.carousel_messages.specs.declared.CarouselTable.TheVariants.{Announcements, Blocks}
use Rattle.carousel_messages.specs.declared.Message.TheVariants as message
use Rattle.carousel_messages.specs.Refusals.{message_tests}
use Rattle.carousel_messages.specs.Judged.{Judged, read_of, judged_of, number_of_judged, carousel_table_in, carousel_tests}
use Rattle.carousel_messages.specs.Heard.{Announced, Arrived, Heard, refusal, announced, arrived, heard_in, heard_of}
use Rattle.carousel_messages.proofs.Exact.{refused-exactly, taken-exactly}
use Rattle.carousel_record.specs.declared.Carousel.{Carousel}
use Rattle.carousel_step.specs.declared.Answer.TheVariants as answer
use Rattle.carousel_record.specs.Record.{Record, record_of, announced_by, place_of, received, ruled_of}
use Rattle.carousel_step.specs.Step.{Answered, meets12, meets14, meets16, block_tests, block_refusal, bytes_differ, same_modules}
use Rattle.carousel_step.specs.Step.{same_announced, StepOutcome, refusing, new, same, repeated, stored, matched}
use Rattle.carousel_record.specs.Refusals.{meets13, meets15}
use Rattle.carousel_step.specs.Step.{on_arrived, on_announced, on_heard, outcome_of, answer_of, stepped_of, number_of_answer, meets17, heard_tests, step_tests}
use Rattle.carousel_record.proofs.Laws.Tests.{rising_numbered, numbered-both, none_both, met-before, met-after}
use Rattle.carousel_step.proofs.Laws.Outcomes.{announced-same, announced-new, matched-clear, arrived-good}
use Rattle.carousel_step.proofs.Simulation.{outcome-ruled}

-- A BLOCK: k EXACTLY WHERE TEST k OF 12 TO 16 HOLDS AND NO LOWER ONE DOES, MATCHING EXACTLY WHERE NONE HOLDS
module _ (a : Announced) (n : ℕ) (d : Arrived) where
  rising : RisingFrom 0 (block_tests a n d)
  rising = (lit< tt, (lit< tt, (lit< tt, (lit< tt, (lit< tt, tt)))))

  pub block-exactly : (k : ℕ) → 0 < k → (block_refusal a n d ≡ k) ↔ ((holds k (block_tests a n d) ≡ true) × ((m : ℕ) → m < k → holds m (block_tests a n d) ≡ false))
  unfolding block_refusal
  block-exactly k p = lowest_met (block_tests a n d) rising k p

  -- test k of the table is the test of that number
  pub block_tests_lem : (holds 12 (block_tests a n d) ≡ meets12 a d) × (holds 13 (block_tests a n d) ≡ meets13 a d.number) × (holds 14 (block_tests a n d) ≡ meets14 a d)
      × (holds 15 (block_tests a n d) ≡ meets15 a n) × (holds 16 (block_tests a n d) ≡ meets16 a d)
  unfolding holds
  block_tests_lem = (or-false (meets12 a d), or-false (meets13 a d.number), or-false (meets14 a d), or-false (meets15 a n), or-false (meets16 a d))

  pub matching-exactly : (block_refusal a n d ≡ 0) ↔ ((m : ℕ) → holds m (block_tests a n d) ≡ false)
  unfolding block_refusal
  matching-exactly = none_met (block_tests a n d) rising

-- no number of the table is 0
section_numbered : (s : List ℕ) → Numbered (carousel_tests s)
section_numbered s =
    numbered-both (message_tests (carousel_table_in s) (header_of s) (body_of s)) (section_tests rules.Carousel s) (rising_numbered 0 (section_tests rules.Carousel s)
    (section.rising rules.Carousel s))
    (go (carousel_table_in s))
  where
    go : (t : CarouselTable) → Numbered (message_tests t (header_of s) (body_of s))
    go Announcements = (λ e. omega arith, (λ e. omega arith, (λ e. omega arith, (λ e. omega arith, (λ e. omega arith, tt)))))
    go Blocks = (λ e. omega arith, (λ e. omega arith, (λ e. omega arith, (λ e. omega arith, tt))))

heard_numbered : (r : Record) (image : List ℕ) (h : Heard) → Numbered (heard_tests r image h)
heard_numbered r image (refusal n) = tt
heard_numbered r image (announced a) = tt
heard_numbered r image (arrived d) =
    let ts = block_tests r.announced (length image) d in
    numbered-both ((17, meets17 r image d) ∷ []) ts (rising_numbered 0 ts (rising r.announced (length image) d)) (λ e. omega arith, tt)

step_numbered : (c : Carousel) (s image : List ℕ) → Numbered (step_tests c s image)
step_numbered c s image = (λ e. omega arith, numbered-both (heard_tests (record_of c) image (heard_of s)) (carousel_tests s) (section_numbered s) (heard_numbered (record_of c) image (heard_of s)))

-- what is not refused meets none of 2 to 11
section-none : (s : List ℕ) → number_of_judged (judged_of s) ≡ 0 → None (carousel_tests s)
section-none s e = (none-exactly (carousel_tests s) (section_numbered s)).0 (go (first_met (carousel_tests s)) refl)
  where
    go : (n : ℕ) → first_met (carousel_tests s) ≡ n → first_met (carousel_tests s) ≡ 0
    go zero f = f
    go (suc n) f = let g = (refused-exactly s (suc n) (omega arith)).1 ((first-exactly (carousel_tests s) (suc n) (omega arith)).0 f) in absurd (omega arith)

-- and what is, is refused by a number
read-other : (t : CarouselTable) (b : List ℕ) (n : Refusal) → read_of t b ≡ Err n → ⊥
unfolding read_of
read-other Announcements b n e = let z : ◌≡◌ {A = ℕ} 0 1 = cc in omega arith
read-other Blocks b n e = let z : ◌≡◌ {A = ℕ} 0 1 = cc in omega arith

refused-number : (s : List ℕ) (n : Refusal) → judged_of s ≡ Err n → 0 < n.number
refused-number s n e = go n.number refl
  where
    go : (k : ℕ) → n.number ≡ k → 0 < n.number
    go zero f = absurd (read-other (carousel_table_in s) (body_of s) n (sym ((taken-exactly s).0 (ap number_of_judged e ∙ f)) ∙ e))
    go (suc k) f = omega arith

-- THE STEP'S NUMBER IS THE FIRST THAT IS MET
module _ (r : Record) (image : List ℕ) where
  matched-number : (i : ℕ) (d : Arrived) → number_of_answer (answer_of (matched r image i d)) ≡ first_met ((17, received r i d.block && bytes_differ r image i d) ∷ [])
  unfolding matched first_met
  matched-number i d = go (received r i d.block) (bytes_differ r image i d) _ _
    where
      go : (t u : Bool) (k at : ℕ) → number_of_answer (answer_of (cond t (cond u (refusing (refused 17)) repeated) (stored k at d.bytes))) ≡ cond (t && u) 17 0
      go true true k at = refl
      go true false k at = refl
      go false u k at = refl

  arrived-number : (d : Arrived) → number_of_answer (answer_of (on_arrived r image d)) ≡ first_met (heard_tests r image (arrived d))
  unfolding on_arrived block_refusal
  arrived-number d =
      go (eqb (first_met (block_tests r.announced (length image) d)) 0)
      ∙ sym (met_append 0 (block_tests r.announced (length image) d) ((17, meets17 r image d) ∷ []) (rising r.announced (length image) d))
    where
      go : (t : Bool)
          → number_of_answer (answer_of (cond t (matched r image (place_of r.announced d.number) d) (refusing (refused (first_met (block_tests r.announced (length image) d))))))
          ≡ cond t (first_met ((17, meets17 r image d) ∷ [])) (first_met (block_tests r.announced (length image) d))
      go true = matched-number (place_of r.announced d.number) d
      go false = refl

  announced-number : (a : Announced) → number_of_answer (answer_of (on_announced r a)) ≡ 0
  unfolding on_announced
  announced-number a = go (same_announced r.announced a)
    where
      go : (t : Bool) → number_of_answer (answer_of (cond t same (new a))) ≡ 0
      go true = refl
      go false = refl

  heard-number : (s : List ℕ) (j : Judged) → judged_of s ≡ j → number_of_answer (answer_of (on_heard r image (heard_in s j))) ≡ first_met (carousel_tests s ++ heard_tests r image (heard_in s j))
  unfolding heard_in on_heard first_met
  heard-number s (Err n) e = sym (met-before _ (carousel_tests s) n.number ((refused-exactly s n.number (refused-number s n e)).0 (ap number_of_judged e)))
  heard-number s (Ok (message.Announced a)) e = announced-number _ ∙ sym (met-after [] (carousel_tests s) (section-none s (ap number_of_judged e)))
  heard-number s (Ok (message.Carried b)) e = arrived-number _ ∙ sym (met-after _ (carousel_tests s) (section-none s (ap number_of_judged e)))

module _ (c : Carousel) (s image : List ℕ) where
  pub step-number : number_of_answer (stepped_of c s image).answer ≡ first_met (step_tests c s image)
  unfolding stepped_of outcome_of first_met heard_of
  step-number = go (ruled_of c)
    where
      go : (t : Bool)
          → number_of_answer (answer_of (cond t (on_heard (record_of c) image (heard_of s)) (refusing (refused 1))))
          ≡ cond (not t) 1 (first_met (carousel_tests s ++ heard_tests (record_of c) image (heard_of s)))
      go true = heard-number (record_of c) image s (judged_of s) refl
      go false = refl

  -- n EXACTLY WHERE THE FIRST TEST THAT HOLDS IS OF n, 0 EXACTLY WHERE NONE HOLDS
  pub step-exactly : (n : ℕ) → 0 < n → (number_of_answer (stepped_of c s image).answer ≡ n) ↔ First n (step_tests c s image)
  step-exactly n p = rw step-number (first-exactly (step_tests c s image) n p)

  pub step-taken : (number_of_answer (stepped_of c s image).answer ≡ 0) ↔ None (step_tests c s image)
  step-taken = rw step-number (none-exactly (step_tests c s image) (step_numbered c s image))

-- WHICH ANSWER, WHERE NO NUMBER IS MET
-- what was heard, by the answer
abbrev Why : Record → List ℕ → Heard → Answered → Type 0
Why r image h (Err n) = Unit {0}
Why r image h (Ok answer.New) = (a : Announced) × (h ≡ announced a) × (same_announced r.announced a ≡ false)
Why r image h (Ok answer.Same) = (a : Announced) × (h ≡ announced a) × (same_announced r.announced a ≡ true)
Why r image h (Ok answer.Stored) = (d : Arrived) × (h ≡ arrived d) × (received r (place_of r.announced d.number) d.block ≡ false)
Why r image h (Ok answer.Repeated) =
    (d : Arrived) × (h ≡ arrived d) × (received r (place_of r.announced d.number) d.block ≡ true) × (bytes_differ r image (place_of r.announced d.number) d ≡ false)

module _ (r : Record) (image : List ℕ) where
  why : (h : Heard) → Why r image h (answer_of (on_heard r image h))
  unfolding on_heard on_announced on_arrived matched
  why (refusal n) = tt
  why (announced a) = go (same_announced r.announced a) refl
    where
      go : (t : Bool) → same_announced r.announced a ≡ t → Why r image (announced a) (answer_of (cond t same (new a)))
      go true e = (a, refl, e)
      go false e = (a, refl, e)
  why (arrived d) =
      go (eqb (block_refusal r.announced (length image) d) 0) (received r (place_of r.announced d.number) d.block) (bytes_differ r image (place_of r.announced d.number) d) _ _ _
      refl refl
    where
      go : (t u w : Bool) (k at n : ℕ) → received r (place_of r.announced d.number) d.block ≡ u → bytes_differ r image (place_of r.announced d.number) d ≡ w
          → Why r image (arrived d) (answer_of (cond t (cond u (cond w (refusing (refused 17)) repeated) (stored k at d.bytes)) (refusing (refused n))))
      go true true true k at n e f = tt
      go true true false k at n e f = (d, refl, e, f)
      go true false w k at n e f = (d, refl, e)
      go false u w k at n e f = tt

  matched-equal : (i : ℕ) (d : Arrived) → received r i d.block ≡ true → bytes_differ r image i d ≡ false → matched r image i d ≡ repeated
  unfolding matched
  matched-equal i d e f = rw (e, f)

  -- a block that none of 12 to 17 meets
  arrived-none : (d : Arrived) → None (heard_tests r image (arrived d)) → on_arrived r image d ≡ matched r image (place_of r.announced d.number) d
  unfolding block_refusal
  arrived-none d h =
      let ts = block_tests r.announced (length image) d in
      arrived-good r image d ((none-exactly ts (rising_numbered 0 ts (rising r.announced (length image) d))).1 (none_both ((17, meets17 r image d) ∷ []) ts h).0)

module _ (c : Carousel) (s image : List ℕ) where
  -- an answer with no number is given by what was heard
  heard-answer : ruled_of c ≡ true → (stepped_of c s image).answer ≡ answer_of (on_heard (record_of c) image (heard_of s))
  unfolding stepped_of
  heard-answer e = ap (λ (o : StepOutcome). answer_of o) (outcome-ruled c s image e)

  none-ruled : None (step_tests c s image) → ruled_of c ≡ true
  none-ruled h = not-false (ruled_of c) h.0

  none-heard : None (step_tests c s image) → (d : Arrived) → heard_of s ≡ arrived d → None (heard_tests (record_of c) image (arrived d))
  none-heard h d e = subst (λ (x : Heard). None (heard_tests (record_of c) image x)) e (none_both (heard_tests (record_of c) image (heard_of s)) (carousel_tests s) h.1).1

  on-heard : None (step_tests c s image) → (h : Heard) → heard_of s ≡ h → (stepped_of c s image).answer ≡ answer_of (on_heard (record_of c) image h)
  on-heard n h e = heard-answer (none-ruled n) ∙ ap (λ (x : Heard). answer_of (on_heard (record_of c) image x)) e

  on-block : None (step_tests c s image) → (d : Arrived) → heard_of s ≡ arrived d → (stepped_of c s image).answer ≡ answer_of (matched (record_of c) image (place_of (announced_by c) d.number) d)
  unfolding on_heard
  on-block n d e = on-heard n (arrived d) e ∙ ap (λ (o : StepOutcome). answer_of o) (arrived-none (record_of c) image d (none-heard n d e))

  on_announcement : None (step_tests c s image) → (a : Announced) → heard_of s ≡ announced a → (stepped_of c s image).answer ≡ answer_of (on_announced (record_of c) a)
  unfolding on_heard
  on_announcement n a e = on-heard n (announced a) e

  there : (x : Answered) → number_of_answer x ≡ 0 → (stepped_of c s image).answer ≡ x → None (step_tests c s image) × Why (record_of c) image (heard_of s) x
  there x z e =
      let n = (step-taken c s image).0 (ap number_of_answer e ∙ z) in
      (n, subst (λ (y : Answered). Why (record_of c) image (heard_of s) y) (sym (heard-answer (none-ruled n)) ∙ e) (why (record_of c) image (heard_of s)))

  -- "An announcement equal .. answers "same" .. Another accepted one answers "new""
  pub new-exactly : ((stepped_of c s image).answer ≡ (Ok answer.New)) ↔ (None (step_tests c s image) × ((a : Announced) × (heard_of s ≡ announced a) × (same_announced (announced_by c) a ≡ false)))
  new-exactly = (there (Ok answer.New) refl, λ w. on_announcement w.0 w.1.0 w.1.1 ∙ ap (λ (o : StepOutcome). answer_of o) (announced-new (record_of c) w.1.0 w.1.2))

  pub same-exactly : ((stepped_of c s image).answer ≡ (Ok answer.Same)) ↔ (None (step_tests c s image) × ((a : Announced) × (heard_of s ≡ announced a) × (same_announced (announced_by c) a ≡ true)))
  same-exactly = (there (Ok answer.Same) refl, λ w. on_announcement w.0 w.1.0 w.1.1 ∙ ap (λ (o : StepOutcome). answer_of o) (announced-same (record_of c) w.1.0 w.1.2))

  -- "A matching block not yet marked answers "stored""
  pub stored-exactly : ((stepped_of c s image).answer ≡ (Ok answer.Stored))
      ↔ (None (step_tests c s image) × ((d : Arrived) × (heard_of s ≡ arrived d) × (received (record_of c) (place_of (announced_by c) d.number) d.block ≡ false)))
  stored-exactly = (
    there (Ok answer.Stored) refl,
    λ w. on-block w.0 w.1.0 w.1.1 ∙ ap (λ (o : StepOutcome). answer_of o) (matched-clear (record_of c) image (place_of (announced_by c) w.1.0.number) w.1.0 w.1.2),
  )

  -- "One already marked with equal bytes answers "repeated""
  pub repeated-exactly : ((stepped_of c s image).answer ≡ (Ok answer.Repeated))
      ↔ (None (step_tests c s image)
      × ((d : Arrived) × (heard_of s ≡ arrived d) × (received (record_of c) (place_of (announced_by c) d.number) d.block ≡ true)
      × (bytes_differ (record_of c) image (place_of (announced_by c) d.number) d ≡ false)))
  repeated-exactly = (there (Ok answer.Repeated) refl, back)
    where
      back : None (step_tests c s image)
          × ((d : Arrived) × (heard_of s ≡ arrived d) × (received (record_of c) (place_of (announced_by c) d.number) d.block ≡ true)
          × (bytes_differ (record_of c) image (place_of (announced_by c) d.number) d ≡ false))
          → (stepped_of c s image).answer ≡ (Ok answer.Repeated)
      back w = on-block w.0 w.1.0 w.1.1 ∙ ap (λ (o : StepOutcome). answer_of o) (matched-equal (record_of c) image (place_of (announced_by c) w.1.0.number) w.1.0 w.1.2 w.1.3)

-- "EQUAL IN DOWNLOADID, BLOCKSIZE AND MODULE LIST (ORDER, NUMBERS, SIZES, VERSIONS)"
same-listed : (m n : Listed) → m.number ≡ n.number → m.size ≡ n.size → m.version ≡ n.version → m ≡ n
same-listed m n e f g =
    ap (λ (x : ℕ). record { number = x; size = m.size; version = m.version }) e
    ∙ ap (λ (x : ℕ). record { number = n.number; size = x; version = m.version }) f
    ∙ ap (λ (x : ℕ). record { number = n.number; size = n.size; version = x }) g

modules-equal : (ms ns : List Listed) → same_modules ms ns ≡ true → ms ≡ ns
unfolding same_modules
modules-equal [] [] e = refl
modules-equal [] (n ∷ ns) e = absurd (clash _ e refl)
modules-equal (m ∷ ms) [] e = absurd (clash _ e refl)
modules-equal (m ∷ ms) (n ∷ ns) e =
    let h = both (eqb m.number n.number && eqb m.size n.size && eqb m.version n.version) (same_modules ms ns) e in
    let k = both (eqb m.number n.number && eqb m.size n.size) (eqb m.version n.version) h.0 in
    let l = both (eqb m.number n.number) (eqb m.size n.size) k.0 in
    rw (same-listed m n (eqb-true _ _ l.0) (eqb-true _ _ l.1) (eqb-true _ _ k.1), modules-equal ms ns h.1)

modules-alike : (ms : List Listed) → same_modules ms ms ≡ true
unfolding same_modules
modules-alike [] = refl
modules-alike (m ∷ ms) = rw (eq-eqb m.number m.number refl, eq-eqb m.size m.size refl, eq-eqb m.version m.version refl) (modules-alike ms)

pub same_means : (a b : Announced) → (same_announced a b ≡ true) ↔ (a ≡ b)
unfolding same_announced
same_means a b = (equal, λ e. rw (← e, eq-eqb a.download a.download refl, eq-eqb a.block_size a.block_size refl) (modules-alike a.modules))
  where
    equal : same_announced a b ≡ true → a ≡ b
    equal e =
        let h = both (eqb a.download b.download && eqb a.block_size b.block_size) (same_modules a.modules b.modules) e in
        let k = both (eqb a.download b.download) (eqb a.block_size b.block_size) h.0 in
        let d = eqb-true a.download b.download k.0 in
        let z = eqb-true a.block_size b.block_size k.1 in
        let m = modules-equal a.modules b.modules h.1 in
        ap (λ (x : ℕ). record { download = x; block_size = a.block_size; modules = a.modules }) d
        ∙ ap (λ (x : ℕ). record { download = b.download; block_size = x; modules = a.modules }) z
        ∙ ap (λ (x : List Listed). record { download = b.download; block_size = b.block_size; modules = x }) m
