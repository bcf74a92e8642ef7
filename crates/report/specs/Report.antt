-- THE PROGRAM'S TEXT. 01, "The run": "It prints the header below, one line for each section taken, index from 0, then the stop."
-- 02, §9: "the run's printed line included as a fourth column, "place", empty for other answers".
use Rattle.std.specs.Prelude.{Ok, Err, Some, None, ℕ, suc, List, [], ◌∷◌, ◌++◌}
use Rattle.text.specs.Text.{codes, decimal}
use Rattle.carousel_record.specs.Changes.{empty_record}
use Rattle.receiver.specs.declared.Stop.{Stop}
use Rattle.receiver.specs.declared.Stop.TheVariants as stop
use Rattle.receiver.specs.Run.{number_of_fate, place_of_fate, fates_of, run_of}
use Rattle.section.specs.Refusals.{Spot}
use Rattle.receiver.specs.Run.{Fate}
use Rattle.receiver.specs.declared.Kind.TheVariants as kind
use Rattle.carousel_step.specs.declared.Answer.TheVariants as answer

-- the kind's name: "kind "table" when accepted", "new", "same", "stored", "repeated"; "A refused section's kind is "none"."
unfoldable pub kind_name : Fate → List ℕ
kind_name (Ok kind.Table) = codes "table"
kind_name (Ok (kind.Carousel answer.New)) = codes "new"
kind_name (Ok (kind.Carousel answer.Same)) = codes "same"
kind_name (Ok (kind.Carousel answer.Stored)) = codes "stored"
kind_name (Ok (kind.Carousel answer.Repeated)) = codes "repeated"
kind_name (Err r) = codes "none"

-- the stop's name
unfoldable pub stop_name : Stop → List ℕ
stop_name stop.End = codes "end"
stop_name stop.Stuffing = codes "stuffing"
stop_name stop.Short = codes "short"
stop_name stop.Budget = codes "budget"
stop_name stop.State = codes "state"

-- "a fourth column, "place", empty for other answers": the byte where the section broke, the comma before it
unfoldable pub place_field : Spot → List ℕ
place_field None = codes ","
place_field (Some p) = codes "," ++ decimal p

-- "the header below"
abbrev pub header : List ℕ
header = codes "index,answer,kind,place\n"

-- "one line for each section taken, index from 0"
abbrev pub line_of : (index : ℕ) → Fate → List ℕ
line_of index f = decimal index ++ codes "," ++ decimal (number_of_fate f) ++ codes "," ++ kind_name f ++ place_field (place_of_fate f) ++ codes "\n"

unfoldable pub lines_from : (index : ℕ) → List Fate → List ℕ
lines_from index [] = []
lines_from index (f ∷ fs) = line_of index f ++ lines_from (suc index) fs

-- "then the stop"
abbrev pub last_line : Stop → List ℕ
last_line x = codes "stop," ++ stop_name x ++ codes "\n"

-- "(empty record, .., budget 65,536)"
abbrev pub budget : ℕ
budget = 65536

unfoldable pub printed : (stretch image : List ℕ) → List ℕ
printed s image = header ++ lines_from 0 (fates_of budget empty_record s image) ++ last_line (run_of empty_record s image budget).stop
