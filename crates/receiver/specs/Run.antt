-- One place of a stretch, and the run. 01, "The run".
use Rattle.std.specs.Prelude.{Result, Ok, Err, None, ℕ, zero, suc, ◌+◌, cond, ◌||◌, List, [], ◌∷◌, eqb, length, take, drop}
use Rattle.wire.specs.Fields.{byte_at}
use Rattle.wire.specs.Tests.{first_met}
use Rattle.section.specs.declared.Rules.{Rules}
use Rattle.section.specs.declared.Rules.TheVariants.{Application}
use Rattle.section.specs.declared.Rules.TheVariants.{Carousel as Carousels}
use Rattle.section.specs.declared.Refusal.{Refusal}
use Rattle.section.specs.Refusals.{Spot}
use Rattle.section.specs.Answer.{Checked}
use Rattle.section.specs.Header.{application_table}
use Rattle.section.specs.Whole.{is_short, whole_at}
use Rattle.ait_read.specs.declared.Table.{Table as Read}
use Rattle.ait_read.specs.Answers.{read_answer, read_number}
use Rattle.carousel_record.specs.declared.Carousel.{Carousel}
use Rattle.carousel_record.specs.Record.{ruled_of}
use Rattle.carousel_step.specs.Step.{Answered, stepped_of, image_of, step_tests}
use Rattle.receiver.specs.declared.Stop.{Stop}
use Rattle.receiver.specs.declared.Stop.TheVariants as stop
use Rattle.receiver.specs.declared.Kind.{Kind}
use Rattle.receiver.specs.declared.Kind.TheVariants as kind
use Rattle.receiver.specs.declared.Section.{Section}
use Rattle.receiver.specs.declared.Took.{Took}
use Rattle.receiver.specs.declared.Given.{Given}
use Rattle.receiver.specs.declared.Ran.{Ran}

-- "nothing left, stop "end"; byte 0xFF, stop "stuffing"; fewer than 3 or 3 + L bytes, stop "short"; budget used up, stop "budget""
unfoldable pub stop_at : List ℕ → Stop
stop_at s = cond (eqb (length s) 0) stop.End (cond (eqb (byte_at s 0) 0xFF) stop.Stuffing (cond (is_short s) stop.Short stop.Budget))

-- "0x74 by the application rules (kind "table" when accepted), every other by the carousel's"
abbrev pub rules_of : List ℕ → Rules
rules_of s = cond (eqb (byte_at s 0) application_table) Application Carousels

-- what became of a section: its kind, or its refusal
abbrev pub Fate : Type 0
Fate = Result Kind Refusal

unfoldable pub read_fate : Result Read Refusal → Fate
read_fate (Err r) = Err r
read_fate (Ok t) = Ok kind.Table

abbrev pub table_fate : List ℕ → Fate
table_fate s = read_fate (read_answer s)

-- what a judged application section comes to: the same (`fate-judged`), without its table's fields
unfoldable pub judged_fate : Checked → Fate
judged_fate (Err r) = Err r
judged_fate (Ok h) = Ok kind.Table

unfoldable pub carousel_fate : Answered → Fate
carousel_fate (Err r) = Err r
carousel_fate (Ok a) = Ok (kind.Carousel a)

-- what becomes of one whole section, of the record and of the image
unfoldable pub given_of : Carousel → (s image : List ℕ) → Given
given_of c s image = cond (eqb (byte_at s 0) application_table)
    (record { fate = table_fate s; state = c })
    (record { fate = carousel_fate (stepped_of c s image).answer; state = (stepped_of c s image).state })

unfoldable pub image_given : Carousel → (s image : List ℕ) → List ℕ
image_given c s image = cond (eqb (byte_at s 0) application_table) image (image_of c s image)

-- the paper's number of a fate. The name of its kind is in crate report, `kind_name`.
abbrev pub number_of_fate : Fate → ℕ
number_of_fate (Err r) = r.number
number_of_fate (Ok k) = 0

-- and its place: 02, §9
abbrev pub place_of_fate : Fate → Spot
place_of_fate (Err r) = r.place
place_of_fate (Ok k) = None

-- the number by the paper's numbered cases, in their order, of the application section or of the carousel's step
abbrev pub given_number : Carousel → (s image : List ℕ) → ℕ
given_number c s image = cond (eqb (byte_at s 0) application_table) (read_number s) (first_met (step_tests c s image))

-- "At each place": "state" before all, then the stops in their order, "else take one section, accepted or refused"
abbrev pub stopped_by : Carousel → Stop → Took
stopped_by c x = record { what = Err x; state = c }

unfoldable pub took_of : Carousel → (s image : List ℕ) → (budget : ℕ) → Took
took_of c s image budget = cond (ruled_of c)
    (cond (eqb (whole_at s) 0 || eqb budget 0)
    (stopped_by c (stop_at s))
    (record {
      what = Ok (record { length = whole_at s; fate = (given_of c (take (whole_at s) s) image).fate });
      state = (given_of c (take (whole_at s) s) image).state;
    }))
    (stopped_by c stop.State)

unfoldable pub image_took : Carousel → (s image : List ℕ) → (budget : ℕ) → List ℕ
image_took c s image budget = cond (ruled_of c) (cond (eqb (whole_at s) 0 || eqb budget 0) image (image_given c (take (whole_at s) s) image)) image

-- what stands at a place: a section, taken, or a stop
abbrev pub What : Type 0
What = Result Section Stop

-- the number of what was taken; a stop has none, and counts as 0
abbrev pub number_took : What → ℕ
number_took (Ok x) = number_of_fate x.fate
number_took (Err x) = 0

unfoldable pub took_number : Carousel → (s image : List ℕ) → (budget : ℕ) → ℕ
took_number c s image budget = cond (ruled_of c) (cond (eqb (whole_at s) 0 || eqb budget 0) 0 (given_number c (take (whole_at s) s) image)) 0

-- THE RUN, of a record that keeps its rule: what it leaves, and the image beside it. Sections taken is the count here.
pub record RunOutcome : Type 0 where
  pub state : Carousel
  pub image : List ℕ
  pub taken : ℕ
  pub passed : ℕ
  pub stop : Stop

abbrev pub halted : Carousel → List ℕ → Stop → RunOutcome
halted c image x = record { state = c; image = image; taken = 0; passed = 0; stop = x }

-- one section of n bytes before it
abbrev pub run_after : ℕ → RunOutcome → RunOutcome
run_after n o = record { state = o.state; image = o.image; taken = suc o.taken; passed = n + o.passed; stop = o.stop }

unfoldable pub runs : ℕ → Carousel → (s image : List ℕ) → RunOutcome
runs zero c s image = halted c image (stop_at s)
runs (suc budget) c s image = cond (eqb (whole_at s) 0)
    (halted c image (stop_at s))
    (run_after (whole_at s) (runs budget (given_of c (take (whole_at s) s) image).state (drop (whole_at s) s) (image_given c (take (whole_at s) s) image)))

-- "A broken record stops it before any other stop, "state", taken and passed 0."
unfoldable pub run_of : Carousel → (s image : List ℕ) → (budget : ℕ) → RunOutcome
run_of c s image budget = cond (ruled_of c) (runs budget c s image) (halted c image stop.State)

abbrev pub ran_of : Carousel → (s image : List ℕ) → (budget : ℕ) → Ran
ran_of c s image budget =
    record { passage = record { taken = (run_of c s image budget).taken; passed = (run_of c s image budget).passed; stop = (run_of c s image budget).stop }; state = (run_of c s image budget).state }

abbrev pub image_ran : Carousel → (s image : List ℕ) → (budget : ℕ) → List ℕ
image_ran c s image budget = (run_of c s image budget).image

-- the sections that a run takes, one run_after another: they are whatever whole sections stand in the stretch, accepted or refused
unfoldable pub sections_of : (budget : ℕ) → List ℕ → List (List ℕ)
sections_of zero s = []
sections_of (suc budget) s = cond (eqb (whole_at s) 0) [] (take (whole_at s) s ∷ sections_of budget (drop (whole_at s) s))

-- and what becomes of each
unfoldable pub fates_of : (budget : ℕ) → Carousel → (s image : List ℕ) → List Fate
fates_of zero c s image = []
fates_of (suc budget) c s image = cond (eqb (whole_at s) 0)
    []
    ((given_of c (take (whole_at s) s) image).fate ∷ fates_of budget (given_of c (take (whole_at s) s) image).state (drop (whole_at s) s) (image_given c (take (whole_at s) s) image))

-- a record and an image, carried from call to call over one section run_after another
pub record Held : Type 0 where
  pub state : Carousel
  pub image : List ℕ

-- one call on one section; and one run_after another
abbrev pub given : Held → List ℕ → Held
given x s = record { state = (given_of x.state s x.image).state; image = image_given x.state s x.image }

unfoldable pub walk : Held → List (List ℕ) → Held
walk x [] = x
walk x (s ∷ ss) = walk (given x s) ss
