-- `carousel_step::announce::is_same` meets its contract: downloadId, blockSize, the number of modules, then module by module.
use mathlib.Core.Path.{◌∙◌}
use native.Mathlib.Omega.{arith}
use Prim.Native.Nat.{◌≤◌}
use mathlib.Core.List.{map}
use lib.ListN.{length, take}
use borrow.Author.Tests.{eq-eqb, ne_eqb}
use Rattle.carousel_messages.specs.Heard.{list_of, announced_in}
use Rattle.carousel_record.specs.Record.{listed_in, announced_by}
use Rattle.carousel_step.specs.Step.{same_announced}
use Rattle.carousel_step.proofs.Laws.Sames.{modules_lengths}
use Rattle.carousel_record.proofs.Laws.Says.{listed_length}
use Rattle.carousel_step.proofs.announce.is_same.Goals as goal
use Rattle.carousel_step.proofs.announce.is_same.Goals.{Start}

-- the record has as many entries as it may count
enough : (s : Start) → s.args.c.count ≤ length s.args.c.modules
enough s = let e = s.well_formed.0.1.1.1.1.1.0.1.0.1 in omega (arith, s.requires.0)

pub returns-then-c-a : goal.returns-then-c-a
unfolding same_announced announced_by announced_in
returns-then-c-a c = rw (ne_eqb _ _ c.if-c-a.true)

pub returns-then-c-a-2 : goal.returns-then-c-a-2
unfolding same_announced announced_by announced_in
returns-then-c-a-2 c = rw (eq-eqb _ _ c.if-c-a.false, ne_eqb _ _ c.if-c-a-2.true)

pub returns-then-n-a : goal.returns-then-n-a
unfolding same_announced announced_by announced_in
returns-then-n-a c =
    let n = listed_length c.args.c.modules c.args.c.count (enough (goal.at.returns-then-n-a c).Start) in
    rw (
      eq-eqb _ _ c.if-c-a.false,
      eq-eqb _ _ c.if-c-a-2.false,
      modules_lengths (map listed_in (take c.args.c.count c.args.c.modules)) (list_of c.args.list.now) (λ e. omega (arith, e, n, c.requires.1, c.if-n-a.true)),
    )

pub is_same_list-requires : goal.is_same_list-requires
is_same_list-requires c =
    (c.requires.0, c.if-n-a.false ∙ c.requires.1)

pub returns : goal.returns
unfolding same_announced announced_by announced_in
returns c =
    let e = eq-eqb _ _ c.if-c-a.false in
    let f = eq-eqb _ _ c.if-c-a-2.false in
    c.is_same_list.ensures ∙ rw (e, f)
