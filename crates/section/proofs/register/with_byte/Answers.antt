-- `section::register::with_byte` meets its contract. The invariant: the register so far, carried over the n bits that are left, is that after all eight.
use Prim.Native.Nat.{ℕ, ◌-◌, ◌/◌, ◌%◌, ◌^◌}
use mathlib.Core.Path.{◌≡◌, refl, sym, ap, ◌∙◌}
use native.Mathlib.Omega.{arith}
use lib.Bits.{and_mask}
use Rattle.section.specs.Crc.{crc_bit, crc_bits}
use Rattle.section.proofs.Laws.Crc.{bits_none, bits-next}
use Rattle.section.proofs.register.with_byte.Goals as goal

pub loop-n-init : goal.loop-n-init
loop-n-init c = (omega arith, refl)

pub overflow_shr-byte : goal.overflow_shr-byte
overflow_shr-byte c = omega arith

pub loop-n-smaller : goal.loop-n-smaller
loop-n-smaller c = omega arith

pub loop-n-preserved : goal.loop-n-preserved
loop-n-preserved c =
    let h = c.loop-n in
    let b = c.args.b in
    let e : c.with_bit-x.result ≡ crc_bit h.x (b / 2 ^ (h.n - 1) % 2) = c.with_bit-x.ensures ∙ ap (crc_bit h.x) (and_mask (b / 2 ^ (h.n - 1)) 1) in
    (omega arith, ap (crc_bits (h.n - 1) b) e ∙ sym (bits-next h.n b h.x (omega arith)) ∙ h.invariant.1)

pub returns : goal.returns
returns c =
    let h = c.loop-n in
    let b = c.args.b in
    let z : h.n ≡ 0 = omega arith in
    sym (bits_none b h.x) ∙ ap (λ (n : ℕ). crc_bits n b h.x) (sym z) ∙ h.invariant.1
