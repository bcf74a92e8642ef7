-- `section::register::crc` meets its contract.
use Prim.Native.Nat.{ℕ, ◌+◌}
use mathlib.Core.Path.{refl, sym, ap, ◌∙◌}
use native.Mathlib.Omega.{arith}
use lib.ListN.{drop}
use Rattle.section.specs.Crc.{crc_from, crc_of}
use Rattle.section.proofs.Laws.Crc.{from_next, from_end}
use Rattle.section.proofs.register.crc.Goals as goal

pub loop-b-init : goal.loop-b-init
unfolding crc_of
loop-b-init c = refl

pub loop-b-preserved : goal.loop-b-preserved
loop-b-preserved c =
    let h = c.loop-b in
    let s = c.args.s.now in
    ap (λ (x : ℕ). crc_from x (drop (h.b-index + 1) s)) c.with_byte-r.ensures ∙ sym (from_next h.r h.b-index s (omega arith)) ∙ h.invariant

pub returns : goal.returns
returns c = sym (from_end _ c.loop-b.b-index _ (omega arith)) ∙ c.loop-b.invariant
