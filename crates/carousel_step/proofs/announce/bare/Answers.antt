-- `carousel_step::announce::bare` meets its contract. The invariant: the record has the first i modules, `sum` is their sizes together, and the others begin at byte `at`.
use Prim.Native.Nat.{◌+◌}
use mathlib.Core.Path.{◌≡◌, refl, ap, ◌∙◌}
use native.Mathlib.Omega.{arith}
use lib.ListN.{get_or}
use Rattle.carousel_messages.specs.Limits.{total}
use Rattle.carousel_messages.specs.declared.Listed.{Listed}
use Rattle.carousel_messages.specs.Heard.{none_listed, list_of}
use Rattle.std.proofs.Common.{unwrap_or}
use Rattle.carousel_messages.proofs.Laws.Listed.{sized-number}
use Rattle.carousel_messages.proofs.Laws.Reading.{Reading, reading-none, reading-here, reading-next}
use Rattle.carousel_step.proofs.Laws.Afresh.{filled, before, filled_none, filled_next, filled-all, before-next, before_le}
use Rattle.carousel_step.proofs.announce.bare.Goals as goal
use Rattle.carousel_step.proofs.announce.bare.Goals.{After-unwrap_or-at, After-unwrap_or_default-l}

pub loop-i-init : goal.loop-i-init
unfolding total
loop-i-init c =
    let p = c.args in
    (refl, rw c.empty-next.ensures (filled_none p.a (list_of p.list.now)), reading-none p.list.now)

-- the announced module at i is what was read
here : (c : After-unwrap_or_default-l) → c.unwrap_or_default-l.result ≡ get_or (list_of c.args.list.now) c.loop-i.i none_listed
here c =
    let l = c.loop-i in
    let e = c.module_at.ensures ∙ reading-here c.args.list.now l.i l.at l.invariant.2 (omega (arith, c.requires.1)) in
    rw e at c.unwrap_or_default-l.ensures

-- the sizes together with one more
sum-next : (c : After-unwrap_or_default-l) → let l = c.loop-i in
    l.sum + c.unwrap_or_default-l.result.size ≡ before (list_of c.args.list.now) (l.i + 1)
sum-next c =
    let l = c.loop-i in
    let m = c.unwrap_or_default-l.result in
    let z : m.size ≡ (get_or (list_of c.args.list.now) l.i none_listed).size = ap (λ (m : Listed). m.size) (here c) in
    let n = before-next (list_of c.args.list.now) l.i (omega (arith, c.requires.1)) in
    omega (arith, l.invariant.0)

pub overflow_add-sum : goal.overflow_add-sum
overflow_add-sum c =
    let e = sum-next (goal.at.overflow_add-sum c).After-unwrap_or_default-l in
    let b = before_le (list_of c.args.list.now) (c.loop-i.i + 1) in
    omega (arith, c.requires.2)

-- the next module
onward : (c : After-unwrap_or-at) → let l = c.loop-i in
    Reading c.args.list.now (l.i + 1) (l.at + c.unwrap_or-at.result)
onward c =
    let l = c.loop-i in
    reading-next c.args.list.now l.i l.at l.invariant.2 _ (c.unwrap_or-at.ensures ∙ ap (λ o. unwrap_or o 0) c.measured_size.ensures ∙ sized-number _) (omega (arith, c.requires.1))

pub overflow_add-at : goal.overflow_add-at
overflow_add-at c = omega (arith, (onward (goal.at.overflow_add-at c).After-unwrap_or-at).0)

pub loop-i-preserved : goal.loop-i-preserved
loop-i-preserved c =
    let l = c.loop-i in
    let k = (goal.at.loop-i-preserved c).After-unwrap_or_default-l in
    let m = c.unwrap_or_default-l.result in
    let e : c.entry.result ≡ record { number = m.number; size = m.size; version = m.version; start = before (list_of c.args.list.now) l.i } = rw (← l.invariant.0) c.entry.ensures in (
      sum-next k,
      filled_next c.args.a (list_of c.args.list.now) l.i (omega (arith, c.requires.1)) (omega (arith, c.requires.0)) _ _ _ l.invariant.1 (here k) e,
      onward (goal.at.loop-i-preserved c).After-unwrap_or-at,
    )

pub returns : goal.returns
returns c =
    let l = c.loop-i in
    let all : l.i ≡ c.args.a.count = omega arith in
    l.invariant.1 ∙ ap (filled c.args.a (list_of c.args.list.now)) all ∙ filled-all c.args.a c.args.list.now c.requires.1
