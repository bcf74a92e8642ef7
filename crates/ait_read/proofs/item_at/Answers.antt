-- `ait_read::item_at` meets its contract.
use mathlib.Core.Path.{◌≡◌, ap, ◌∙◌}
use Rattle.std.proofs.Common.{rules, Err}
use native.Mathlib.Omega.{arith}
use Prim.Native.Nat.{◌<◌}
use lib.ListN.{take, drop}
use Rattle.ait_read.specs.Places.{repeated_at}
use Rattle.ait_descriptors.specs.Contents.{item_of}
use Rattle.ait_read.specs.Answers.{span_part, item_answer}
use Rattle.ait_read.proofs.Laws.Acceptance.{told, cut}
use Rattle.ait_read.proofs.Laws.Places.{sound_repeated}
use Rattle.ait_read.proofs.Laws.Numbers.{refused_there, made_there}
use Rattle.ait_read.proofs.item_at.Goals as goal
use Rattle.ait_read.proofs.item_at.Goals.{In_ok-at}

-- the part that is cut out where the thing lies
there : (c : In_ok-at) → let at = c.in_ok-at.at in (span_part c.args.s.now at.start at.size ≡ take at.size (drop at.start c.args.s.now)) × (at.start < 65536)
there c =
    let q = repeated_at c.args.scope c.args.j c.args.what c.args.k c.args.s.now in
    cut _ q (sound_repeated c.args.scope c.args.j c.args.what c.args.k c.args.s.now) _ (told _ _ q _ _ c.repeated_place.ensures c.locate.ensures c.in_ok-at.was)

pub returns-in_err-at : goal.returns-in_err-at
unfolding item_answer
returns-in_err-at c =
    let r : c.from_residual.result ≡ Err c.in_err-at.field-0.0 = search rules in
    rw r (refused_there (λ a n. item_of c.args.what (take n (drop a c.args.s.now)) a) _ _ _ _ c.repeated_place.ensures c.locate.ensures _ c.in_err-at.was)

pub overflow_cast-at : goal.overflow_cast-at
overflow_cast-at c = omega (arith, (there (goal.at.overflow_cast-at c).In_ok-at).1)

pub returns : goal.returns
unfolding item_answer
returns c =
    let x = there (goal.at.returns c).In_ok-at in
    made_there (λ a n. item_of c.args.what (take n (drop a c.args.s.now)) a) _ _ _ _ c.repeated_place.ensures c.locate.ensures _ c.in_ok-at.was _
    (c.item_of.ensures ∙ ap (λ l. item_of c.args.what l c.in_ok-at.at.start) (c.part.ensures ∙ x.0))
