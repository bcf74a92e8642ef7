-- The hand-out and the missing report, from the facts that code learns on its ways.
use Prim.Native.Nat.{ℕ, zero, suc, ◌≤◌, ◌<◌}
use mathlib.Core.Path.{◌≡◌, refl, sym, ap, ◌∙◌}
use mathlib.Core.Bool.{Bool, true, false, cond}
use mathlib.Core.List.{List, [], ◌∷◌}
use native.Mathlib.Omega.{arith}
use lib.Dec.{eqb}
use lib.ListN.{length, get_or}
use borrow.Author.Tests.{eq-eqb, ne_eqb, eqb-true, lt-ltb, le-ltb, ltb-true, ltb-false, not-false}
use Rattle.wire.specs.Outcomes.{answered, number_of}
use Rattle.wire.specs.Tests.{first_met}
use Rattle.wire.proofs.Laws.Order.{none-exactly}
use Rattle.section.specs.Answer.{refused}
use Rattle.carousel_record.specs.declared.Carousel.{Carousel}
use Rattle.std.proofs.Common.{Ok, Err, Some, None}
use Rattle.carousel_record.specs.Record.{announced_by, record_of, starts_by, module_at, place_of, bytes_of, missing_of, module_part, ruled_of}
use Rattle.carousel_record.specs.Refusals.{meets13, meets15}
use Rattle.carousel_handout.specs.Calls.{handout_tests, handout_number, handout_place, handed_out, missing_number, lack_of, report_on, report_of, number_of_report}

-- an answer that a number decides
pub answered-has : {A : Type 0} (n : ℕ) (a b : A) → Ok b ≡ answered n a → b ≡ a
answered-has zero a b e = cc
answered-has (suc n) a b e = let z : ◌≡◌ {A = ℕ} 0 (suc n) = ap number_of e in absurd (omega arith)

-- how many, and none
pub lack-count : (bs : List ℕ) → (lack_of bs).count ≡ length bs
lack-count [] = refl
lack-count (b ∷ bs) = refl

pub lack-whole : (bs : List ℕ) → (lack_of bs).count ≡ 0 → report_on bs ≡ Ok None
unfolding report_on
lack-whole [] e = refl
lack-whole (b ∷ bs) e = absurd (omega arith)

pub lack-some : (bs : List ℕ) → ((lack_of bs).count ≡ 0 → ⊥) → report_on bs ≡ Ok (Some (lack_of bs))
unfolding report_on
lack-some [] n = absurd (n refl)
lack-some (b ∷ bs) n = refl

module _ (c : Carousel) (number : ℕ) where
  abbrev place : ℕ
  place = place_of (announced_by c) number

  abbrev lacks : List ℕ
  lacks = missing_of (record_of c) place

  -- the missing report
  pub report-1 : ruled_of c ≡ false → report_of c number ≡ Err (refused 1)
  unfolding report_of missing_number first_met
  report-1 r = rw r

  module _ (r : ruled_of c ≡ true) where
    pub report-13 : length (announced_by c).modules ≤ place → report_of c number ≡ Err (refused 13)
    unfolding report_of missing_number first_met meets13
    report-13 h = rw (r, le-ltb place (length (announced_by c).modules) h)

    pub report-is : place < length (announced_by c).modules → report_of c number ≡ report_on lacks
    unfolding report_of missing_number first_met meets13
    report-is h = rw (r, lt-ltb place (length (announced_by c).modules) h)

  -- its number
  on-number : (bs : List ℕ) → number_of_report (report_on bs) ≡ 0
  unfolding report_on
  on-number [] = refl
  on-number (b ∷ bs) = refl

  pub report-number : number_of_report (report_of c number) ≡ missing_number c number
  unfolding report_of
  report-number = go (eqb (missing_number c number) 0) refl
    where
      go : (t : Bool) → eqb (missing_number c number) 0 ≡ t → number_of_report (cond t (report_on lacks) (Err (refused (missing_number c number)))) ≡ missing_number c number
      go true e = on-number lacks ∙ sym (eqb-true (missing_number c number) 0 e)
      go false e = refl

  -- the hand-out's number
  module _ (image : List ℕ) where
    pub out-1 : ruled_of c ≡ false → handout_number c image number ≡ 1
    unfolding handout_number first_met
    out-1 r = rw r

    module _ (r : ruled_of c ≡ true) where
      pub out-13 : length (announced_by c).modules ≤ place → handout_number c image number ≡ 13
      unfolding handout_number first_met meets13
      out-13 h = rw (r, le-ltb place (length (announced_by c).modules) h)

      module _ (h : place < length (announced_by c).modules) where
        pub out-15 : length image < bytes_of (announced_by c) → handout_number c image number ≡ 15
        unfolding handout_number first_met meets13 meets15
        out-15 s = rw (r, lt-ltb place (length (announced_by c).modules) h, lt-ltb (length image) (bytes_of (announced_by c)) s)

        module _ (s : bytes_of (announced_by c) ≤ length image) where
          pub out-20 : ((lack_of lacks).count ≡ 0 → ⊥) → handout_number c image number ≡ 20
          unfolding handout_number first_met meets13 meets15
          out-20 n =
              rw (
                r,
                lt-ltb place (length (announced_by c).modules) h,
                le-ltb (length image) (bytes_of (announced_by c)) s,
                ne_eqb (length lacks) 0 (λ e. n (lack-count lacks ∙ e)),
              )

          pub out-0 : (lack_of lacks).count ≡ 0 → handout_number c image number ≡ 0
          unfolding handout_number first_met meets13 meets15
          out-0 n =
              rw (
                r,
                lt-ltb place (length (announced_by c).modules) h,
                le-ltb (length image) (bytes_of (announced_by c)) s,
                eq-eqb (length lacks) 0 (sym (lack-count lacks) ∙ n),
              )

    -- what is known where a module is handed out
    pub given_out : handout_number c image number ≡ 0 → (ruled_of c ≡ true) × (place < length (announced_by c).modules) × (bytes_of (announced_by c) ≤ length image)
    unfolding handout_number meets13 meets15
    given_out e =
        let f = (none-exactly (handout_tests c image number) (λ z. omega arith, (λ z. omega arith, (λ z. omega arith, (λ z. omega arith, tt))))).0 e in
        (not-false _ f.0, ltb-true place (length (announced_by c).modules) (not-false _ f.1.0), ltb-false (length image) (bytes_of (announced_by c)) f.1.1.0)

    pub out_none : (handout_number c image number ≡ 0 → ⊥) → handed_out c image number ≡ []
    unfolding handed_out
    out_none n = rw (ne_eqb (handout_number c image number) 0 n)

    pub out_part : handout_number c image number ≡ 0 → handed_out c image number ≡ module_part (record_of c) image place
    unfolding handed_out
    out_part e = rw (eq-eqb (handout_number c image number) 0 e)

    -- where it lies
    pub place_none : (handout_number c image number ≡ 0 → ⊥) → handout_place c image number ≡ Err (refused (handout_number c image number))
    unfolding handout_place
    place_none n = rw (ne_eqb (handout_number c image number) 0 n)

    pub place_part : handout_number c image number ≡ 0 → handout_place c image number ≡ Ok (record { start = get_or (starts_by c) place 0; size = (module_at (announced_by c) place).size })
    unfolding handout_place
    place_part e = rw (eq-eqb (handout_number c image number) 0 e)
