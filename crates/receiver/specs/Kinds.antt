-- Kinds and stops as numbers, for whoever prints them or hands them on.
use Rattle.std.specs.Prelude.{Ok, Err, ℕ}
use Rattle.receiver.specs.declared.Stop.{Stop}
use Rattle.receiver.specs.declared.Stop.TheVariants as stop
use Rattle.carousel_step.specs.declared.Answer.TheVariants as answer
use Rattle.receiver.specs.declared.Kind.TheVariants as kind
use Rattle.receiver.specs.Run.{Fate}

-- kinds: none 0, table 1, new 2, same 3, stored 4, repeated 5
abbrev pub kind_number : Fate → ℕ
kind_number (Err r) = 0
kind_number (Ok kind.Table) = 1
kind_number (Ok (kind.Carousel answer.New)) = 2
kind_number (Ok (kind.Carousel answer.Same)) = 3
kind_number (Ok (kind.Carousel answer.Stored)) = 4
kind_number (Ok (kind.Carousel answer.Repeated)) = 5

-- stops: end 1, stuffing 2, short 3, budget 4, state 5; 0 is a section that was taken
unfoldable pub stop_number : Stop → ℕ
stop_number stop.End = 1
stop_number stop.Stuffing = 2
stop_number stop.Short = 3
stop_number stop.Budget = 4
stop_number stop.State = 5
