-- The hand-out and the missing report. 01, "The carousel record", "Numbers a call may answer".
use Rattle.std.specs.Prelude.{Option, Some, None, Result, Ok, Err, ℕ, suc, ◌+◌, Bool, true, false, not, cond, List, [], ◌∷◌, eqb, length, get_or, take, drop}
use Rattle.wire.specs.Tests.{Tests, first_met}
use Rattle.wire.specs.declared.Span.{Span}
use Rattle.section.specs.declared.Refusal.{Refusal}
use Rattle.section.specs.Answer.{refused}
use Rattle.carousel_record.specs.declared.Carousel.{Carousel}
use Rattle.carousel_handout.specs.declared.Lack.{Lack}
use Rattle.carousel_record.specs.Record.{record_of, announced_by, starts_by, module_at, place_of, complete_of, missing_of, module_part, ruled_of}
use Rattle.carousel_record.specs.Refusals.{meets13, meets15}

-- "Hand-out can answer 1, 13, 15, 20": 20 "module not complete"
abbrev pub handout_tests : Carousel → List ℕ → (number : ℕ) → Tests
handout_tests c image number =
    (1, not (ruled_of c)) ∷ (13, meets13 (announced_by c) number) ∷ (15, meets15 (announced_by c) (length image))
    ∷ (20, not (complete_of (record_of c) (place_of (announced_by c) number))) ∷ []

unfoldable pub handout_number : Carousel → List ℕ → (number : ℕ) → ℕ
handout_number c image number = first_met (handout_tests c image number)

-- where in the image that part lies: its start in the record, and its size; or the refusal
abbrev pub Handed : Type 0
Handed = Result Span Refusal

unfoldable pub handout_place : Carousel → List ℕ → (number : ℕ) → Handed
handout_place c image number = cond (eqb (handout_number c image number) 0)
    (Ok (record { start = get_or (starts_by c) (place_of (announced_by c) number) 0; size = (module_at (announced_by c) (place_of (announced_by c) number)).size }))
    (Err (refused (handout_number c image number)))

-- its number; 0 is no refusal
abbrev pub number_of_handed : Handed → ℕ
number_of_handed (Err r) = r.number
number_of_handed (Ok p) = 0

-- the bytes there, none on a refusal
abbrev pub lent : Handed → List ℕ → List ℕ
lent (Ok p) image = take p.size (drop p.start image)
lent (Err r) image = []

-- "A complete module is handed out as its part of the image. .. where that is a refusal, the part is empty"
unfoldable pub handed_out : Carousel → List ℕ → (number : ℕ) → List ℕ
handed_out c image number = cond (eqb (handout_number c image number) 0) (module_part (record_of c) image (place_of (announced_by c) number)) []

-- "the missing report 1, 13"
abbrev pub missing_tests : Carousel → (number : ℕ) → Tests
missing_tests c number = (1, not (ruled_of c)) ∷ (13, meets13 (announced_by c) number) ∷ []

unfoldable pub missing_number : Carousel → (number : ℕ) → ℕ
missing_number c number = first_met (missing_tests c number)

-- how many blocks there are in a list, and its first
abbrev pub lack_of : List ℕ → Lack
lack_of [] = record { count = 0; lowest = 0 }
lack_of (b ∷ bs) = record { count = suc (length bs); lowest = b }

-- with block b in front, where it is not here
abbrev pub one_more : Lack → ℕ → Bool → Lack
one_more l b true = l
one_more l b false = record { count = l.count + 1; lowest = b }

-- "The missing report gives the number of missing blocks and the lowest missing one, or "none"."
abbrev pub Report : Type 0
Report = Result (Option Lack) Refusal

unfoldable pub report_on : List ℕ → Report
report_on [] = Ok None
report_on (b ∷ bs) = Ok (Some (lack_of (b ∷ bs)))

unfoldable pub report_of : Carousel → (number : ℕ) → Report
report_of c number = cond (eqb (missing_number c number) 0)
    (report_on (missing_of (record_of c) (place_of (announced_by c) number)))
    (Err (refused (missing_number c number)))

-- the paper's number of a report; 0 is no refusal
abbrev pub number_of_report : Report → ℕ
number_of_report (Err r) = r.number
number_of_report (Ok l) = 0
