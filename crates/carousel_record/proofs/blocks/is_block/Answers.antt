-- `carousel_record::blocks::is_block` meets its contract.
use borrow.Author.Tests.{lt-ltb, le-ltb}
use Prim.Native.Nat.{◌≤◌, ◌<◌}
use native.Mathlib.Omega.{arith}
use Rattle.carousel_record.specs.Blocks.{blocks_of}
use Rattle.carousel_record.proofs.blocks.is_block.Goals as goal

pub returns-then-blocks_of-block : goal.returns-then-blocks_of-block
returns-then-blocks_of-block c =
    let s = c.args in
    let h : blocks_of s.block_size s.size ≤ s.block = omega (arith, c.blocks_of.ensures.0, c.if-blocks_of-block.true) in
    rw (le-ltb s.block (blocks_of s.block_size s.size) h)

pub returns : goal.returns
returns c =
    let s = c.args in
    let h : s.block < blocks_of s.block_size s.size = omega (arith, c.blocks_of.ensures.0, c.if-blocks_of-block.false) in
    rw (lt-ltb s.block (blocks_of s.block_size s.size) h, c.block_length.ensures)
