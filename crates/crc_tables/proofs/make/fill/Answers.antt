-- `crc_tables::make::fill` meets its contract.
use Prim.Native.Nat.{ℕ, ◌+◌, ◌*◌, ◌/◌, ◌%◌, ◌^◌, ◌≤◌, ◌<◌}
use mathlib.Core.Path.{◌≡◌, refl, sym, ap, subst, subst⁻¹, ◌∙◌}
use native.Mathlib.Omega.{arith}
use lib.ListN.{length-set}
use lib.Pow.{pow_mono}
use Rattle.crc_tables.specs.Tables.{left}
use Rattle.crc_tables.proofs.Laws.Made.{twice-is, Next, next-first, next-twice, Made, begun}
use Rattle.crc_tables.proofs.make.fill.Goals as goal

-- the bit n of a byte, as code shifts it
bit : (n : ℕ) → n < 8 → (2 ^ n ≤ 128) × (1 * 2 ^ n % 2 ^ 64 ≡ 2 ^ n)
bit n h =
    let l : n ≤ 7 = omega arith in
    let m : 2 ^ n ≤ 128 = pow_mono l in
    (m, omega (arith, m))

pub loop-n-init : goal.loop-n-init
loop-n-init c = let a = c.args in let p = c.requires in (refl, begun a.t.now a.at p.0 (omega arith) p.2, next-first _ _ p.3)

pub double-requires : goal.double-requires
double-requires c =
    let h = c.loop-n in
    let p = c.requires in
    let b = bit h.n (omega arith) in (
      p.0,
      omega (arith, h.auto.t, length-set c.args.t.now c.args.at 0),
      omega (arith, b),
      (h.n, b.1),
      subst⁻¹ (λ (w : ℕ). Made h.t (c.args.at + w)) b.1 h.invariant.1,
      h.invariant.2.0
          (omega (arith, b.0)) ∙ ap (left (c.args.at / 256)) (sym b.1),
    )

pub loop-n-preserved : goal.loop-n-preserved
loop-n-preserved c =
    let d = c.double in
    let h = c.loop-n in
    let a = c.args in
    let b = bit h.n (omega arith) in
    let w = twice-is h.n (2 ^ h.n) refl in
    let o : a.at + 1 * 2 ^ h.n % 2 ^ 64 + 1 * 2 ^ h.n % 2 ^ 64 ≡ a.at + 2 ^ (h.n + 1) = omega (arith, b.1, w) in (
      d.auto.t ∙ h.invariant.0,
      subst (Made d.new.t) o d.ensures,
      subst (λ (w : ℕ). Next (a.at / 256) w c.with_zero-x.result) w
          (subst⁻¹ (Next (a.at / 256) (2 ^ h.n * 2)) c.with_zero-x.ensures (next-twice _ _ _ (h.invariant.2.0 (omega (arith, b.0))))),
    )

pub returns : goal.returns
returns c =
    let h = c.loop-n in
    let all : h.n ≡ 8 = omega arith in
    (subst (λ (n : ℕ). Made h.t (c.args.at + 2 ^ n)) all h.invariant.1, (subst (λ (n : ℕ). Next (c.args.at / 256) (2 ^ n) h.x) all h.invariant.2).1 refl)
