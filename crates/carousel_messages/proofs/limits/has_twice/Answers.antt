-- `carousel_messages::limits::has_twice` meets its contract. The invariant: of the numbers left one comes twice just where one of all does.
use mathlib.Core.Path.{◌≡◌, refl, sym, ap, ◌∙◌}
use Prim.Native.Nat.{◌+◌}
use native.Mathlib.Omega.{arith}
use lib.Dec.{ltb}
use lib.ListN.{length, get_or, drop}
use borrow.Author.Tests.{ltb-true, ltb-false}
use Rattle.std.proofs.Common.{is_some}
use Rattle.carousel_messages.specs.Heard.{none_listed, place_in}
use Rattle.carousel_messages.proofs.Laws.Limits.{found-some, twice_hit, twice-next, twice-done}
use Rattle.carousel_messages.proofs.limits.has_twice.Goals as goal
use Rattle.carousel_messages.proofs.limits.has_twice.Goals.{After-is_some}

-- whether the number has a place among the later ones
seen : (c : After-is_some) → let ms = c.args.modules.now in
    c.is_some.result ≡ ltb (c.loop-i.i + 1 + place_in (get_or ms c.loop-i.i none_listed).number (drop (c.loop-i.i + 1) ms)) (length ms)
seen c = c.is_some.ensures ∙ ap is_some c.place_from.ensures ∙ found-some _ _

pub loop-i-init : goal.loop-i-init
loop-i-init c = refl

pub returns-then-is_some : goal.returns-then-is_some
returns-then-is_some c = sym (twice_hit c.args.modules.now c.loop-i.i c.loop-i-test.true (ltb-true _ _ (sym (seen (goal.at.returns-then-is_some c).After-is_some) ∙ c.if-is_some.true)))
    ∙ c.loop-i.invariant

pub loop-i-preserved : goal.loop-i-preserved
loop-i-preserved c = twice-next c.args.modules.now c.loop-i.i c.loop-i-test.true (ltb-false _ _ (sym (seen (goal.at.loop-i-preserved c).After-is_some) ∙ c.if-is_some.false)) ∙ c.loop-i.invariant

pub returns : goal.returns
returns c = sym (twice-done c.args.modules.now c.loop-i.i (omega arith)) ∙ c.loop-i.invariant
