-- The names of kinds and stops stand in the program's two texts where their numbers say.
use mathlib.Core.Path.{◌≡◌, refl}
use Rattle.text.specs.Text.{codes, word_at}
use Rattle.receiver.specs.declared.Stop.{Stop}
use Rattle.receiver.specs.declared.Stop.TheVariants as stop
use Rattle.receiver.specs.Kinds.{kind_number, stop_number}
use Rattle.report.specs.Report.{kind_name, stop_name}
use Rattle.std.proofs.Common.{Ok, Err}
use Rattle.receiver.specs.Run.{Fate}
use Rattle.receiver.specs.declared.Kind.TheVariants as kind
use Rattle.carousel_step.specs.declared.Answer.TheVariants as answer

pub kind-word : (f : Fate) → word_at (kind_number f) (codes "none table new same stored repeated") ≡ kind_name f
unfolding word_at kind_name
kind-word (Ok kind.Table) = refl
kind-word (Ok (kind.Carousel answer.New)) = refl
kind-word (Ok (kind.Carousel answer.Same)) = refl
kind-word (Ok (kind.Carousel answer.Stored)) = refl
kind-word (Ok (kind.Carousel answer.Repeated)) = refl
kind-word (Err r) = refl

pub stop-word : (x : Stop) → word_at (stop_number x) (codes "- end stuffing short budget state") ≡ stop_name x
unfolding word_at stop_name stop_number
stop-word stop.End = refl
stop-word stop.Stuffing = refl
stop-word stop.Short = refl
stop-word stop.Budget = refl
stop-word stop.State = refl
