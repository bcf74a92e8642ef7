-- When each number is given: exactly the stated case.
use Prim.Native.Nat.{ℕ, ◌<◌}
use mathlib.Core.Path.{◌≡◌}
use mathlib.Core.Logic.{◌↔◌}
use mathlib.Core.Bool.{true, false, not, or-false}
use mathlib.Core.List.{List}
use lib.Dec.{lit<}
use lib.ListN.{length}
use Rattle.wire.specs.Tests.{holds, RisingFrom}
use Rattle.wire.proofs.Laws.Tests.{lowest_met, none_met}
use Rattle.carousel_record.specs.declared.Carousel.{Carousel}
use Rattle.carousel_record.specs.Record.{announced_by, record_of, place_of, complete_of, ruled_of}
use Rattle.carousel_record.specs.Refusals.{meets13, meets15}
use Rattle.carousel_handout.specs.Calls.{handout_tests, handout_number, missing_tests, missing_number}

-- THE HAND-OUT AND THE MISSING REPORT: n EXACTLY WHERE TEST n HOLDS AND NO LOWER ONE DOES, 0 EXACTLY WHERE NONE HOLDS
module _ (c : Carousel) (image : List ℕ) (number : ℕ) where
  handout-rising : RisingFrom 0 (handout_tests c image number)
  handout-rising = (lit< tt, (lit< tt, (lit< tt, (lit< tt, tt))))

  pub handout-exactly : (n : ℕ) → 0 < n
      → (handout_number c image number ≡ n) ↔ ((holds n (handout_tests c image number) ≡ true) × ((m : ℕ) → m < n → holds m (handout_tests c image number) ≡ false))
  unfolding handout_number
  handout-exactly n p = lowest_met (handout_tests c image number) handout-rising n p

  pub handout_tests_lem : (holds 1 (handout_tests c image number) ≡ not (ruled_of c)) × (holds 13 (handout_tests c image number) ≡ meets13 (announced_by c) number)
      × (holds 15 (handout_tests c image number) ≡ meets15 (announced_by c) (length image))
      × (holds 20 (handout_tests c image number) ≡ not (complete_of (record_of c) (place_of (announced_by c) number)))
  unfolding holds
  handout_tests_lem = (
    or-false (not (ruled_of c)),
    or-false (meets13 (announced_by c) number),
    or-false (meets15 (announced_by c) (length image)),
    or-false (not (complete_of (record_of c) (place_of (announced_by c) number))),
  )

  pub handout-given : (handout_number c image number ≡ 0) ↔ ((m : ℕ) → holds m (handout_tests c image number) ≡ false)
  unfolding handout_number
  handout-given = none_met (handout_tests c image number) handout-rising

module _ (c : Carousel) (number : ℕ) where
  missing-rising : RisingFrom 0 (missing_tests c number)
  missing-rising = (lit< tt, (lit< tt, tt))

  pub missing-exactly : (n : ℕ) → 0 < n → (missing_number c number ≡ n) ↔ ((holds n (missing_tests c number) ≡ true) × ((m : ℕ) → m < n → holds m (missing_tests c number) ≡ false))
  unfolding missing_number
  missing-exactly n p = lowest_met (missing_tests c number) missing-rising n p

  pub missing_tests_lem : (holds 1 (missing_tests c number) ≡ not (ruled_of c)) × (holds 13 (missing_tests c number) ≡ meets13 (announced_by c) number)
  unfolding holds
  missing_tests_lem = (or-false (not (ruled_of c)), or-false (meets13 (announced_by c) number))

  pub missing-given : (missing_number c number ≡ 0) ↔ ((m : ℕ) → holds m (missing_tests c number) ≡ false)
  unfolding missing_number
  missing-given = none_met (missing_tests c number) missing-rising
