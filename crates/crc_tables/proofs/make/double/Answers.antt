-- `crc_tables::make::double` meets its contract.
use Prim.Native.Nat.{ℕ, ◌+◌, ◌≤◌}
use mathlib.Core.Path.{◌≡◌, refl, subst, ◌∙◌}
use native.Mathlib.Omega.{arith}
use lib.ListN.{length, length-set}
use Rattle.crc_tables.proofs.Laws.Made.{Made, doubled}
use Rattle.crc_tables.proofs.make.double.Goals as goal

pub loop-j-init : goal.loop-j-init
loop-j-init c = let z : c.args.at + c.args.w ≡ c.args.at + c.args.w + 0 = omega arith in (refl, subst (Made c.args.t.now) z c.requires.4)

pub loop-j-preserved : goal.loop-j-preserved
loop-j-preserved c =
    let h = c.loop-j in
    let p = c.requires in
    let a = c.args in
    let l : a.at + 256 ≤ length h.t = omega arith in
    (length-set h.t (a.at + a.w + h.j) _ ∙ h.invariant.0, doubled h.t a.at p.3.0 a.w a.x h.j p.0 l p.3.1 p.2 p.5 (omega arith) h.invariant.1)

pub returns : goal.returns
returns c =
    let a = c.args in
    let h = c.loop-j in
    let all : h.j ≡ a.w = omega arith in
    subst (λ (k : ℕ). Made h.t (a.at + a.w + k)) all h.invariant.1
