-- `transport::tally::counted_as` meets its contract: the first that was counted.
use mathlib.Core.Path.{refl}
use borrow.Author.Tests.{eq-eqb, ne_eqb}
use Rattle.transport.specs.Pieces.{counted_as}
use Rattle.transport.proofs.tally.counted_as.Goals as goal

pub returns-then-c-ne0 : goal.returns-then-c-ne0
unfolding counted_as
returns-then-c-ne0 c =
    rw (ne_eqb c.args.c.broken 0 c.if-c-ne0.true) refl

pub returns-then-c-ne0-2 : goal.returns-then-c-ne0-2
unfolding counted_as
returns-then-c-ne0-2 c =
    rw (eq-eqb c.args.c.broken 0 c.if-c-ne0.false, ne_eqb c.args.c.taken 0 c.if-c-ne0-2.true) refl

pub returns-then-c-ne0-3 : goal.returns-then-c-ne0-3
unfolding counted_as
returns-then-c-ne0-3 c =
    rw (eq-eqb c.args.c.broken 0 c.if-c-ne0.false, eq-eqb c.args.c.taken 0 c.if-c-ne0-2.false, ne_eqb c.args.c.repeated 0 c.if-c-ne0-3.true) refl

pub returns-then-c-ne0-4 : goal.returns-then-c-ne0-4
unfolding counted_as
returns-then-c-ne0-4 c =
    rw (
      eq-eqb c.args.c.broken 0 c.if-c-ne0.false,
      eq-eqb c.args.c.taken 0 c.if-c-ne0-2.false,
      eq-eqb c.args.c.repeated 0 c.if-c-ne0-3.false,
      ne_eqb c.args.c.refused41 0 c.if-c-ne0-4.true,
    ) refl

pub returns-then-c-ne0-5 : goal.returns-then-c-ne0-5
unfolding counted_as
returns-then-c-ne0-5 c =
    rw (
      eq-eqb c.args.c.broken 0 c.if-c-ne0.false,
      eq-eqb c.args.c.taken 0 c.if-c-ne0-2.false,
      eq-eqb c.args.c.repeated 0 c.if-c-ne0-3.false,
      eq-eqb c.args.c.refused41 0 c.if-c-ne0-4.false,
      ne_eqb c.args.c.refused42 0 c.if-c-ne0-5.true,
    ) refl

pub returns : goal.returns
unfolding counted_as
returns c =
    rw (
      eq-eqb c.args.c.broken 0 c.if-c-ne0.false,
      eq-eqb c.args.c.taken 0 c.if-c-ne0-2.false,
      eq-eqb c.args.c.repeated 0 c.if-c-ne0-3.false,
      eq-eqb c.args.c.refused41 0 c.if-c-ne0-4.false,
      eq-eqb c.args.c.refused42 0 c.if-c-ne0-5.false,
    ) refl
