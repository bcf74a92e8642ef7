-- `crc_tables::with_ones` meets its contract.
use Prim.Native.Nat.{ℕ, ◌+◌, ◌*◌, ◌%◌, ◌^◌}
use mathlib.Core.Path.{sym, ap, ◌∙◌}
use native.Mathlib.Omega.{arith}
use lib.ListN.{drop}
use lib.Bits.{bit_xor}
use Rattle.crc_tables.specs.By.{one, ones}
use Rattle.crc_tables.proofs.Laws.Walk.{one-next, one_end}
use Rattle.crc_tables.proofs.with_ones.Goals as goal

pub loop-b-preserved : goal.loop-b-preserved
unfolding one
loop-b-preserved c =
    let h = c.loop-b in
    let a = c.args in
    let e = ap (bit_xor (h.x * 256 % 2 ^ 32)) c.entry.ensures in
    ap (λ (x : ℕ). ones a.t.now x (drop (h.b-index + 1) a.s.now)) e ∙ sym (one-next a.t.now h.x h.b-index a.s.now (omega arith)) ∙ h.invariant

pub returns : goal.returns
returns c = sym (one_end _ _ c.loop-b.b-index _ (omega arith)) ∙ c.loop-b.invariant
