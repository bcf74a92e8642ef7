-- `ait_read::classes::control_of` meets its contract.
use mathlib.Core.Path.{◌≡◌}
use native.Mathlib.Omega.{arith}
use borrow.Author.Tests.{eq-eqb, ne_eqb}
use Rattle.ait_read.specs.Records.{control_of}
use Rattle.ait_read.proofs.classes.control_of.Goals as goal

pub returns-in-1 : goal.returns-in-1
unfolding control_of
returns-in-1 c = let n = c.args.code in let e : n ≡ 1 = c.in-1.is in rw (eq-eqb n 1 e)

pub returns-in-2 : goal.returns-in-2
unfolding control_of
returns-in-2 c = let n = c.args.code in let e : n ≡ 2 = c.in-2.is in rw (ne_eqb n 1 (omega (arith, e)), eq-eqb n 2 e)

pub returns-in-3 : goal.returns-in-3
unfolding control_of
returns-in-3 c = let n = c.args.code in let e : n ≡ 3 = c.in-3.is in rw (ne_eqb n 1 (omega (arith, e)), ne_eqb n 2 (omega (arith, e)), eq-eqb n 3 e)

pub returns-in-4 : goal.returns-in-4
unfolding control_of
returns-in-4 c = let n = c.args.code in let e : n ≡ 4 = c.in-4.is in rw (ne_eqb n 1 (omega (arith, e)), ne_eqb n 2 (omega (arith, e)), ne_eqb n 3 (omega (arith, e)), eq-eqb n 4 e)

pub returns-in-6 : goal.returns-in-6
unfolding control_of
returns-in-6 c = let n = c.args.code in let e : n ≡ 6 = c.in-6.is in
    rw (ne_eqb n 1 (omega (arith, e)), ne_eqb n 2 (omega (arith, e)), ne_eqb n 3 (omega (arith, e)), ne_eqb n 4 (omega (arith, e)), eq-eqb n 6 e)

pub returns-in_default : goal.returns-in_default
unfolding control_of
returns-in_default c = let n = c.args.code in let r = c.in_default.in_default-own.rest in
    rw (ne_eqb n 1 r.0.0.0.0.1, ne_eqb n 2 r.0.0.0.1, ne_eqb n 3 r.0.0.1, ne_eqb n 4 r.0.1, ne_eqb n 6 r.1)
