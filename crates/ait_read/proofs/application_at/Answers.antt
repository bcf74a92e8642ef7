-- `ait_read::application_at` meets its contract.
use mathlib.Core.Path.{◌≡◌, ap, ◌∙◌}
use Rattle.std.proofs.Common.{rules, Err}
use Prim.Native.Nat.{◌<◌}
use lib.ListN.{take, drop}
use Rattle.ait_read.specs.Places.{application_at}
use Rattle.ait_read.specs.Records.{application_of}
use Rattle.ait_read.specs.Answers.{span_part, application_answer}
use Rattle.ait_read.proofs.Laws.Acceptance.{told, cut}
use Rattle.ait_read.proofs.Laws.Places.{sound-application}
use Rattle.ait_read.proofs.Laws.Numbers.{refused_there, made_there}
use Rattle.ait_read.proofs.application_at.Goals as goal
use Rattle.ait_read.proofs.application_at.Goals.{In_ok-at}

-- the part that is cut out where the thing lies
there : (c : In_ok-at) → let at = c.in_ok-at.at in (span_part c.args.s.now at.start at.size ≡ take at.size (drop at.start c.args.s.now)) × (at.start < 65536)
there c =
    let q = application_at c.args.i c.args.s.now in
    cut _ q (sound-application c.args.i c.args.s.now) _ (told _ _ q _ _ c.application_place.ensures c.locate.ensures c.in_ok-at.was)

pub returns-in_err-at : goal.returns-in_err-at
unfolding application_answer
returns-in_err-at c =
    let r : c.from_residual.result ≡ Err c.in_err-at.field-0.0 = search rules in
    rw r (refused_there (λ a n. application_of (take n (drop a c.args.s.now))) _ _ _ _ c.application_place.ensures c.locate.ensures _ c.in_err-at.was)

pub returns : goal.returns
unfolding application_answer
returns c =
    let x = there (goal.at.returns c).In_ok-at in
    made_there (λ a n. application_of (take n (drop a c.args.s.now))) _ _ _ _ c.application_place.ensures c.locate.ensures _ c.in_ok-at.was _
    (c.application_of.ensures ∙ ap (λ l. application_of l) (c.part.ensures ∙ x.0))
