-- When a body is accepted, and when each number answers it: exactly the stated case.
use Prim.Native.Nat.{ℕ, ◌+◌, ◌<◌}
use mathlib.Core.Path.{◌≡◌, sym, ◌∙◌}
use mathlib.Core.Logic.{◌↔◌}
use mathlib.Core.Bool.{true, false, ◌&&◌, or-false}
use mathlib.Core.List.{List}
use lib.Dec.{eqb, lit<}
use lib.ListN.{length}
use borrow.Author.Tests.{eq-eqb, eqb-true, not-false}
use Rattle.wire.specs.Items.{items, fills, every}
use Rattle.wire.specs.Tests.{holds, RisingFrom}
use Rattle.wire.proofs.Laws.Steps.{every-both}
use Rattle.wire.proofs.Laws.Tests.{lowest_met, none_met, both}
use Rattle.ait_body.proofs.Laws.Body.{is0}
use Rattle.ait_descriptors.specs.Kinds.{application}
use Rattle.ait_descriptors.specs.Descriptor.{descriptor}
use Rattle.ait_descriptors.specs.Contents.{well_made}
use Rattle.ait_body.specs.Body.{common_length, loop_length, common_loop, application_loop, own_loop, good_loop, sole_loop, well_formed, body_meets7, meets18, body_tests, body_refusal, WellFormed}

module _ (b : List ℕ) where
  rising : RisingFrom 0 (body_tests b)
  rising = (lit< tt, (lit< tt, tt))

  pub the_tests : (holds 7 (body_tests b) ≡ body_meets7 b) × (holds 18 (body_tests b) ≡ meets18 b)
  unfolding holds
  the_tests = (or-false (body_meets7 b), or-false (meets18 b))

  -- THE NUMBER IS n EXACTLY WHEN TEST n HOLDS AND NO LOWER ONE DOES
  pub refused-exactly : (n : ℕ) → 0 < n
      → (body_refusal b ≡ n) ↔ ((holds n (body_tests b) ≡ true) × ((m : ℕ) → m < n → holds m (body_tests b) ≡ false))
  unfolding body_refusal
  refused-exactly n p = lowest_met (body_tests b) rising n p

  abbrev apps : List (List ℕ)
  apps = items application (application_loop b)

  own_loops : every (λ a. good_loop (own_loop a)) apps ≡ (every (λ a. fills descriptor (own_loop a)) apps && every (λ a. every well_made (items descriptor (own_loop a))) apps)
  unfolding good_loop
  own_loops = every-both (λ a. fills descriptor (own_loop a)) (λ a. every well_made (items descriptor (own_loop a))) apps

  -- WELL FORMED EXACTLY WHEN EVERY CLAUSE OF THE PAPER IS KEPT
  pub formed-exactly : (well_formed b ≡ true) ↔ WellFormed b
  unfolding well_formed good_loop
  formed-exactly = (there, back)
    where
      there : well_formed b ≡ true → WellFormed b
      there w =
          let p = both (eqb (4 + common_length b + loop_length b) (length b)
          && (fills descriptor (common_loop b) && every well_made (items descriptor (common_loop b))) && fills application (application_loop b))
          (every (λ a. good_loop (own_loop a)) apps) w in
          let q = both (eqb (4 + common_length b + loop_length b) (length b)
          && (fills descriptor (common_loop b) && every well_made (items descriptor (common_loop b)))) (fills application (application_loop b)) p.0 in
          let r = both (eqb (4 + common_length b + loop_length b) (length b)) (fills descriptor (common_loop b) && every well_made (items descriptor (common_loop b))) q.0 in
          let c = both (fills descriptor (common_loop b)) (every well_made (items descriptor (common_loop b))) r.1 in
          let o = both (every (λ a. fills descriptor (own_loop a)) apps) (every (λ a. every well_made (items descriptor (own_loop a))) apps) (sym own_loops ∙ p.1) in
          record { ends = eqb-true _ _ r.0; common = c.0; common_made = c.1; applications = q.1; own = o.0; own_made = o.1 }

      back : WellFormed b → well_formed b ≡ true
      back w = rw (eq-eqb _ _ w.ends, w.common, w.common_made, w.applications) (own_loops ∙ rw (w.own, w.own_made))

  -- ACCEPTED EXACTLY WHEN WELL FORMED, WITH ONE 0x00 IN EACH APPLICATION
  pub accepted-exactly : (body_refusal b ≡ 0) ↔ (WellFormed b × (every (λ a. sole_loop (own_loop a)) apps ≡ true))
  unfolding body_refusal body_meets7 meets18
  accepted-exactly = (there, back)
    where
      there : body_refusal b ≡ 0 → WellFormed b × (every (λ a. sole_loop (own_loop a)) apps ≡ true)
      there e =
          let f = (none_met (body_tests b) rising).0 e in
          (formed-exactly.0 (not-false _ (sym the_tests.0 ∙ f 7)), not-false _ (sym the_tests.1 ∙ f 18))

      back : WellFormed b × (every (λ a. sole_loop (own_loop a)) apps ≡ true) → body_refusal b ≡ 0
      back w = sym (is0 b (formed-exactly.1 w.0) w.1)
