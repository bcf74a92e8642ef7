-- `carousel_record::entries::place_in` meets its contract. The invariant: the place of the number among those left, from here on, is the same as at the start.
use Prim.Native.Nat.{ℕ, min}
use mathlib.Core.Path.{◌≡◌, ap, ◌∙◌}
use mathlib.Core.List.{List}
use native.Mathlib.Omega.{arith}
use lib.ListN.{length, take}
use Rattle.std.proofs.Common.{Some}
use Rattle.carousel_messages.specs.Heard.{found}
use Rattle.carousel_messages.proofs.Laws.Limits.{found-at, found-none}
use Rattle.carousel_record.specs.Record.{place_among}
use Rattle.carousel_record.proofs.Laws.Entries.{among_hit, among_next, among-done, take_least}
use Rattle.carousel_record.proofs.entries.place_in.Goals as goal
use Rattle.carousel_record.proofs.entries.place_in.Goals.{After-min}

-- the first n of some
abbrev used : After-min → List ℕ
used c = take c.min.result c.args.ns.now

all : (c : After-min) → found (place_among c.args.number (used c)) (length (used c)) ≡ found (place_among c.args.number (take c.args.n c.args.ns.now)) (length (take c.args.n c.args.ns.now))
all c = ap (λ (ns : List ℕ). found (place_among c.args.number ns) (length ns)) (rw c.min.ensures (take_least c.args.n c.args.ns.now))

pub loop-i-init : goal.loop-i-init
loop-i-init c = omega arith

pub returns-then-used-i : goal.returns-then-used-i
returns-then-used-i c =
    let k = (goal.at.returns-then-used-i c).After-min in
    let e = among_hit (used k) c.loop-i.i c.args.number c.loop-i-test.true c.if-used-i.true in
    let p : c.loop-i.i ≡ place_among c.args.number (used k) = omega arith in
    ap Some p ∙ found-at _ _ (omega arith) ∙ all k

pub loop-i-preserved : goal.loop-i-preserved
loop-i-preserved c =
    let e = among_next (used (goal.at.loop-i-preserved c).After-min) c.loop-i.i c.args.number c.loop-i-test.true c.if-used-i.false in
    omega arith

pub returns : goal.returns
returns c =
    let k = (goal.at.returns c).After-min in
    let e = among-done (used k) c.loop-i.i c.args.number (omega arith) in
    found-none _ _ (omega arith) ∙ all k
