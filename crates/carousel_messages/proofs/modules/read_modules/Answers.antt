-- `carousel_messages::modules::read_modules` meets its contract. The invariant: the first i are those of the list, and the others begin at byte `at`.
use mathlib.Core.Path.{◌≡◌, refl, ap, ◌∙◌}
use Prim.Native.Nat.{◌+◌}
use native.Mathlib.Omega.{arith}
use lib.ListN.{length-set, get_or}
use Rattle.std.proofs.Common.{unwrap_or}
use Rattle.carousel_messages.specs.Heard.{none_listed, list_of}
use Rattle.carousel_messages.proofs.Laws.Limits.{filled_next}
use Rattle.carousel_messages.proofs.Laws.Listed.{sized-number}
use Rattle.carousel_messages.proofs.Laws.Reading.{Reading, reading-none, reading-here, reading-next}
use Rattle.carousel_messages.proofs.modules.read_modules.Goals as goal
use Rattle.carousel_messages.proofs.modules.read_modules.Goals.{After-unwrap_or-at}

pub loop-i-init : goal.loop-i-init
loop-i-init c = (refl, refl, reading-none c.args.list.now)

-- the next module
here : (c : After-unwrap_or-at) → c.unwrap_or_default.result ≡ get_or (list_of c.args.list.now) c.loop-i.i none_listed
here c =
    let l = c.loop-i in
    let e = c.module_at.ensures ∙ reading-here c.args.list.now l.i l.at l.invariant.2 (omega (arith, c.requires.1)) in
    rw e at c.unwrap_or_default.ensures

onward : (c : After-unwrap_or-at) → let l = c.loop-i in
    Reading c.args.list.now (l.i + 1) (l.at + c.unwrap_or-at.result)
onward c =
    let l = c.loop-i in
    reading-next c.args.list.now l.i l.at l.invariant.2 _ (c.unwrap_or-at.ensures ∙ ap (λ o. unwrap_or o 0) c.measured_size.ensures ∙ sized-number _) (omega (arith, c.requires.1))

pub overflow_add-at : goal.overflow_add-at
overflow_add-at c = omega (arith, (onward (goal.at.overflow_add-at c).After-unwrap_or-at).0)

pub loop-i-preserved : goal.loop-i-preserved
loop-i-preserved c =
    let l = c.loop-i in
    let e = here (goal.at.loop-i-preserved c).After-unwrap_or-at in (
      length-set l.ms l.i _ ∙ l.invariant.0,
      filled_next none_listed l.ms (list_of c.args.list.now) l.i _ (omega (arith, c.requires.0, l.invariant.0)) (omega (arith, c.requires.1)) e l.invariant.1,
      onward (goal.at.loop-i-preserved c).After-unwrap_or-at,
    )
