-- `carousel_step::announce::is_same_list` meets its contract. The invariant: what is left is the same just where all is, and the announced modules that are left begin at byte `at`.
use Prim.Native.Nat.{suc, ◌+◌, ◌≤◌}
use mathlib.Core.Path.{◌≡◌, refl, sym, ap, ◌∙◌}
use mathlib.Core.List.{List, ◌∷◌}
use native.Mathlib.Numerals.{add-one}
use native.Mathlib.Omega.{arith}
use lib.ListN.{length, get_or, drop}
use lib.Seq.{drop-cons}
use Rattle.carousel_messages.specs.declared.Listed.{Listed}
use Rattle.carousel_messages.specs.Heard.{none_listed, list_of}
use Rattle.std.proofs.Common.{unwrap_or}
use Rattle.carousel_messages.proofs.Laws.Listed.{sized-number}
use Rattle.carousel_messages.proofs.Laws.Reading.{Reading, reading-none, reading-here, reading-next}
use Rattle.carousel_record.specs.declared.Module.{Module}
use Rattle.carousel_step.proofs.Laws.Sames.{same-off, same_next, same-done}
use Rattle.carousel_step.proofs.announce.is_same_list.Goals as goal
use Rattle.carousel_step.proofs.announce.is_same_list.Goals.{After-is_same_module, After-unwrap_or-at, Start}

abbrev ms : Start → List Module
ms s = s.args.ms

abbrev list : Start → List Listed
list s = list_of s.args.list.now

enough : (s : Start) → s.args.n ≤ length (ms s)
enough s = let e = s.well_formed.0.1.0.1 in omega (arith, s.requires.0)

-- the announced module at i is what was read
here : (c : After-is_same_module) → let l = c.loop-i in
    drop l.i (list (goal.at.After-is_same_module c).Start) ≡ c.unwrap_or_default.result ∷ drop (l.i + 1) (list (goal.at.After-is_same_module c).Start)
here c =
    let l = c.loop-i in
    let f = c.module_at.ensures ∙ reading-here c.args.list.now l.i l.at l.invariant.1 (omega (arith, c.requires.1)) in
    let e : c.unwrap_or_default.result ≡ get_or (list_of c.args.list.now) l.i none_listed = rw f at c.unwrap_or_default.ensures in
    rw (add-one l.i) (drop-cons (list (goal.at.After-is_same_module c).Start) l.i none_listed (omega (arith, c.requires.1)) ∙ ap (λ (x : Listed). x ∷ drop (suc l.i)
    (list (goal.at.After-is_same_module c).Start)) (sym e))

pub loop-i-init : goal.loop-i-init
loop-i-init c = (refl, reading-none c.args.list.now)

pub returns-then-not-is_same_module : goal.returns-then-not-is_same_module
returns-then-not-is_same_module c =
    let l = c.loop-i in
    sym (same-off (ms (goal.at.returns-then-not-is_same_module c).Start) c.args.n (enough (goal.at.returns-then-not-is_same_module c).Start) l.i (omega arith) _ (list
    (goal.at.returns-then-not-is_same_module c).Start) (here (goal.at.returns-then-not-is_same_module c).After-is_same_module) (sym c.is_same_module.ensures ∙ c.if-not-is_same_module.true))
    ∙ l.invariant.0

-- the next module
onward : (c : After-unwrap_or-at) → let l = c.loop-i in
    Reading c.args.list.now (l.i + 1) (l.at + c.unwrap_or-at.result)
onward c =
    let l = c.loop-i in
    reading-next c.args.list.now l.i l.at l.invariant.1 _ (c.unwrap_or-at.ensures ∙ ap (λ o. unwrap_or o 0) c.measured_size.ensures ∙ sized-number _) (omega (arith, c.requires.1))

pub overflow_add-at : goal.overflow_add-at
overflow_add-at c = omega (arith, (onward (goal.at.overflow_add-at c).After-unwrap_or-at).0)

pub loop-i-preserved : goal.loop-i-preserved
loop-i-preserved c =
    let l = c.loop-i in (
      same_next (ms (goal.at.loop-i-preserved c).Start) c.args.n (enough (goal.at.loop-i-preserved c).Start) l.i (omega arith) _ (list (goal.at.loop-i-preserved c).Start) (here
          (goal.at.loop-i-preserved c).After-is_same_module) (sym c.is_same_module.ensures ∙ c.if-not-is_same_module.false) ∙ l.invariant.0,
      onward (goal.at.loop-i-preserved c).After-unwrap_or-at,
    )

pub returns : goal.returns
returns c =
    let l = c.loop-i in
    sym (same-done (ms (goal.at.returns c).Start) c.args.n (enough (goal.at.returns c).Start) l.i (omega arith) (list (goal.at.returns c).Start) (omega (arith, c.requires.1))) ∙ l.invariant.0
