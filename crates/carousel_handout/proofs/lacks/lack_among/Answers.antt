-- `carousel_handout::lacks::lack_among` meets its contract. The invariant: what is told so far is told of the blocks from b on.
use mathlib.Core.Path.{◌≡◌, sym, ap, ◌∙◌}
use Prim.Native.Nat.{◌-◌}
use native.Mathlib.Omega.{arith}
use Rattle.carousel_handout.specs.declared.Lack.{Lack}
use Rattle.carousel_handout.proofs.Laws.Lacks.{among_next, among_none, among-few}
use Rattle.carousel_handout.proofs.lacks.lack_among.Goals as goal

pub loop-b-init : goal.loop-b-init
loop-b-init c =
    let s = c.args in
    let e : s.n - s.n ≡ 0 = omega arith in
    (omega arith, rw e (sym (among_none s.words.now s.first s.n)))

pub with_block-lack-requires : goal.with_block-lack-requires
with_block-lack-requires c =
    let l = c.loop-b in
    let e = among-few c.args.words.now c.args.first l.b (c.args.n - l.b) in
    let f = ap (λ (k : Lack). k.count) l.invariant.1 in
    omega (arith, e, f, c.requires, l.invariant.0)

pub loop-b-smaller : goal.loop-b-smaller
loop-b-smaller c = omega arith

pub loop-b-preserved : goal.loop-b-preserved
loop-b-preserved c =
    let l = c.loop-b in
    (omega arith, rw (c.with_block-lack.ensures, c.is_marked-here.ensures, l.invariant.1) (sym (among_next c.args.words.now c.args.first c.args.n l.b (omega arith) (omega arith))))

pub returns : goal.returns
returns c =
    let l = c.loop-b in
    let e : l.b ≡ 0 = omega arith in
    let f : c.args.n - 0 ≡ c.args.n = omega arith in
    l.invariant.1 ∙ rw (e, f)
