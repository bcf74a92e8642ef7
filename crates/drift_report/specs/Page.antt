-- WHAT THE PROGRAM PRINTS of a stretch and a module's number. 02, §1, the program `driftlist`: standard input as the paper's program has it ("empty record", budget 65,536).
use Rattle.std.specs.Prelude.{Ok, Err, Some, None, ℕ, cond, List, [], ◌++◌, eqb}
use Rattle.text.specs.Text.{codes, decimal}
use Rattle.carousel_record.specs.declared.Carousel.{Carousel}
use Rattle.carousel_record.specs.Changes.{empty_record}
use Rattle.carousel_handout.specs.Calls.{handout_number, handed_out, report_of}
use Rattle.receiver.specs.Run.{run_of}
use Rattle.drift_report.specs.Lines.{list_text}
use Rattle.carousel_handout.specs.Calls.{Report}

-- the missing report's two numbers: how many blocks are missing, and the lowest of them
unfoldable pub lack_text : Report → List ℕ
lack_text (Ok (Some l)) = codes "," ++ decimal l.count ++ codes "," ++ decimal l.lowest
lack_text (Ok None) = []
lack_text (Err r) = []

-- "handout,N" where the hand-out answers 1, 13 or 15; "handout,20,COUNT,LOWEST" where it answers 20
unfoldable pub refused_text : Carousel → (number n : ℕ) → List ℕ
refused_text c number n = codes "handout," ++ decimal n ++ cond (eqb n 20) (lack_text (report_of c number)) [] ++ codes "\n"

-- of a record and an image: nothing is read of a module that is not handed out
unfoldable pub module_text : Carousel → (image : List ℕ) → (number : ℕ) → List ℕ
module_text c image number = cond (eqb (handout_number c image number) 0)
    (list_text (handed_out c image number))
    (refused_text c number (handout_number c image number))

-- of a whole stretch
abbrev pub page_budget : ℕ
page_budget = 65_536

unfoldable pub page_text : (stretch image : List ℕ) → (number : ℕ) → List ℕ
page_text s image number = module_text (run_of empty_record s image page_budget).state (run_of empty_record s image page_budget).image number
