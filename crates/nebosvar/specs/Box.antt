-- The library's answers as structs of numbers, for C and Rust. `include/nebosvar.h` names the numbers.
use Rattle.std.specs.Prelude.{Ok, Err, Some, None, ℕ, List}
use Rattle.carousel_record.specs.declared.Carousel.{Carousel}
use Rattle.carousel_step.specs.Step.{stepped_of}
use Rattle.carousel_handout.specs.Calls.{Handed, handout_place}
use Rattle.receiver.specs.Run.{number_of_fate, place_of_fate, carousel_fate, took_of, ran_of}
use Rattle.receiver.specs.Kinds.{kind_number, stop_number}
use Rattle.nebosvar.specs.declared.FateOut.{FateOut}
use Rattle.nebosvar.specs.declared.TakenOut.{TakenOut}
use Rattle.ait_numbers.specs.declared.PartOut.{PartOut}
use Rattle.ait_numbers.specs.Shapes.{nowhere, spot_number}
use Rattle.nebosvar.specs.declared.LackOut.{LackOut}
use Rattle.nebosvar.specs.declared.PassageOut.{PassageOut}
use Rattle.carousel_handout.specs.Calls.{Report}
use Rattle.receiver.specs.Run.{Fate}
use Rattle.receiver.specs.Run.{What}

-- where it broke, the paper's number (0: accepted), and the kind
abbrev pub fate_out : Fate → FateOut
fate_out f = record { refused_at = spot_number (place_of_fate f); refusal = number_of_fate f; kind = kind_number f }

-- an answer, beside the record after it
pub record Beside (A : Type 0) : Type 0 where
  pub answer : A
  pub state : Carousel

unfoldable pub step_out : Carousel → (s image : List ℕ) → Beside FateOut
step_out c s image = record { answer = fate_out (carousel_fate (stepped_of c s image).answer); state = (stepped_of c s image).state }

abbrev pub what_out : What → TakenOut
what_out (Err x) = record { length = 0; refused_at = nowhere; stop = stop_number x; refusal = 0; kind = 0 }
what_out (Ok x) = record { length = x.length; refused_at = spot_number (place_of_fate x.fate); stop = 0; refusal = number_of_fate x.fate; kind = kind_number x.fate }

unfoldable pub take_out : Carousel → (s image : List ℕ) → (budget : ℕ) → Beside TakenOut
take_out c s image budget = record { answer = what_out (took_of c s image budget).what; state = (took_of c s image budget).state }

unfoldable pub run_out : Carousel → (s image : List ℕ) → (budget : ℕ) → Beside PassageOut
run_out c s image budget =
    record {
      answer = record {
        taken = (ran_of c s image budget).passage.taken;
        passed = (ran_of c s image budget).passage.passed;
        stop = stop_number (ran_of c s image budget).passage.stop;
      };
      state = (ran_of c s image budget).state;
    }

-- no refusal of the hand-out has a place
abbrev pub place_out : Handed → PartOut
place_out (Ok p) = record { at = p.start; length = p.size; refused_at = nowhere; refusal = 0 }
place_out (Err r) = record { at = 0; length = 0; refused_at = nowhere; refusal = r.number }

abbrev pub part_out : Carousel → (image : List ℕ) → (number : ℕ) → PartOut
part_out c image number = place_out (handout_place c image number)

abbrev pub lack_out : Report → LackOut
lack_out (Err r) = record { count = 0; lowest = 0; refusal = r.number }
lack_out (Ok None) = record { count = 0; lowest = 0; refusal = 0 }
lack_out (Ok (Some l)) = record { count = l.count; lowest = l.lowest; refusal = 0 }
