-- `crc_tables::make::tables` meets its contract.
use Prim.Native.Nat.{ℕ, ◌+◌, ◌*◌, ◌/◌}
use mathlib.Core.Path.{◌≡◌, refl, ap, subst, ◌∙◌}
use native.Mathlib.Omega.{arith}
use lib.ListN.{length-replicate}
use Rattle.crc_tables.specs.Tables.{left, first_entries}
use Rattle.crc_tables.proofs.Laws.Made.{Made, left_one, all_made}
use Rattle.crc_tables.proofs.make.tables.Goals as goal

pub loop-k-init : goal.loop-k-init
unfolding first_entries
loop-k-init c = (length-replicate {A = ℕ} 4096 0, refl, left_one)

pub fill-x-requires : goal.fill-x-requires
fill-x-requires c =
    let h = c.loop-k in
    let e : h.k ≡ h.k * 256 / 256 = omega arith in
    (omega arith, omega arith, h.invariant.1, h.invariant.2 ∙ ap (λ (k : ℕ). left k 1) e)

pub loop-k-preserved : goal.loop-k-preserved
loop-k-preserved c =
    let h = c.loop-k in
    let e : h.k * 256 + 256 ≡ (h.k + 1) * 256 = omega arith in
    let f : h.k * 256 / 256 + 1 ≡ h.k + 1 = omega arith in
    (c.fill-x.auto.t ∙ h.invariant.0, subst (Made c.fill-x.new.t) e c.fill-x.ensures.0, c.fill-x.ensures.1 ∙ ap (λ (k : ℕ). left k 1) f)

pub returns : goal.returns
returns c = let h = c.loop-k in all_made h.t (h.k * 256) h.invariant.0 (omega arith) h.invariant.1
