-- `ait_read::labels::label_place` meets its contract.
use mathlib.Core.Path.{◌≡◌, sym, ap, ◌∙◌}
use Rattle.wire.specs.Places.{Place, part_at}
use Rattle.ait_descriptors.specs.declared.Test.TheVariants.{Tagged}
use Rattle.ait_read.specs.Places.{own_at}
use Rattle.ait_read.specs.Labels.{first_to}
use Rattle.ait_descriptors.proofs.Laws.Lists.{inside_of}
use Rattle.ait_read.proofs.Laws.Places.{sound-own}
use Rattle.ait_read.proofs.Laws.Labels.{label-none, label_is}
use Rattle.ait_read.proofs.labels.label_place.Goals as goal
use Rattle.ait_read.proofs.labels.label_place.Goals.{After-find_within}

pub find_within-requires : goal.find_within-requires
find_within-requires c = inside_of (own_at _) (sound-own _) _ c.args.s.now c.own_place.ensures

-- the 0x00 descriptor among the application's own
hit : (c : After-find_within) → first_to (Tagged 0x00) (part_at (own_at c.args.i c.args.s.now) c.args.s.now) ≡ c.find_within.result
hit c = sym (c.find_within.ensures ∙ ap (λ (p : Place). first_to (Tagged 0x00) (part_at p c.args.s.now)) c.own_place.ensures)

pub returns-in_err-j : goal.returns-in_err-j
returns-in_err-j c = c.from_residual.ensures ∙ label-none _ _ _ (hit (goal.at.returns-in_err-j c).After-find_within ∙ c.in_err-j.was)

pub returns : goal.returns
returns c = c.repeated_place.ensures ∙ label_is _ _ _ _ (hit (goal.at.returns c).After-find_within ∙ c.in_ok-j.was)
