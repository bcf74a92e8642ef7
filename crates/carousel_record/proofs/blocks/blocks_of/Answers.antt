-- `carousel_record::blocks::blocks_of` meets its contract. The bound: a quotient is no more than what is divided.
use Rattle.carousel_record.specs.Blocks.{blocks_of}
use Prim.Native.Nat.{◌+◌, ◌-◌}
use mathlib.Core.Path.{refl, sym}
use native.Mathlib.Nat.{div-zero, div-le_self}
use native.Mathlib.Omega.{arith}
use Rattle.carousel_record.proofs.blocks.blocks_of.Goals as goal

pub returns-then-block_size-eq0 : goal.returns-then-block_size-eq0
unfolding blocks_of
returns-then-block_size-eq0 c = (rw c.if-block_size-eq0.true (sym (div-zero _)), omega arith)

pub returns : goal.returns
unfolding blocks_of
returns c =
    let p = c.args in
    let l = div-le_self (p.size + (p.block_size - 1)) p.block_size in
    let z = p.size in
    (refl, omega (arith, l))
