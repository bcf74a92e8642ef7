-- `ait_numbers::kinds::asked_by` meets its contract, kind by kind.
use borrow.Author.Tests.{ne_eqb}
use Rattle.ait_numbers.specs.Reading.{asked_by}
use Rattle.ait_numbers.proofs.kinds.asked_by.Goals as goal

pub returns-in-1 : goal.returns-in-1
unfolding asked_by
returns-in-1 c = rw c.in-1.is

pub returns-in-2 : goal.returns-in-2
unfolding asked_by
returns-in-2 c = rw c.in-2.is

pub returns-in-5 : goal.returns-in-5
unfolding asked_by
returns-in-5 c = rw c.in-5.is

pub returns-in-7 : goal.returns-in-7
unfolding asked_by
returns-in-7 c = rw c.in-7.is

pub returns-in-10 : goal.returns-in-10
unfolding asked_by
returns-in-10 c = rw c.in-10.is

pub returns-in_default : goal.returns-in_default
unfolding asked_by
returns-in_default c =
    let k = c.args.kind in
    let other = c.in_default.in_default-own.rest in
    rw (ne_eqb k 1 other.0.0.0.0.1, ne_eqb k 2 other.0.0.0.1, ne_eqb k 5 other.0.0.1, ne_eqb k 7 other.0.1, ne_eqb k 10 other.1)
