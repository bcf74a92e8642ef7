-- `crc_tables::from_clear` meets its contract.
use Prim.Native.Nat.{ℕ, suc, ◌+◌, ◌-◌}
use mathlib.Core.Path.{◌≡◌, refl, ap, ◌∙◌}
use native.Mathlib.Omega.{arith}
use lib.ListN.{length, drop}
use Rattle.crc_tables.specs.By.{◌⊕◌, from_clear}
use Rattle.crc_tables.proofs.Laws.Walk.{clear_next, clear_end}
use Rattle.crc_tables.proofs.from_clear.Goals as goal

pub loop-i-init : goal.loop-i-init
loop-i-init c = refl

pub loop-i-preserved : goal.loop-i-preserved
loop-i-preserved c =
    let h = c.loop-i in
    let t = c.args.t.now in
    let s = c.args.s.now in
    let k = length s - 1 - h.i in
    let e : suc k + h.i ≡ length s = omega arith in
    ap (λ (y : ℕ). h.x ⊕ y ⊕ from_clear t (drop (h.i + 1) s)) c.entry-x.ensures ∙ clear_next t h.x k h.i s e ∙ h.invariant

pub returns : goal.returns
returns c = clear_end _ _ c.loop-i.i _ (omega arith) ∙ c.loop-i.invariant
