-- `carousel_record::blocks::block_length` meets its contract: every block but the last has the block size, and the last begins before the module ends.
use Prim.Native.Nat.{ℕ, ◌*◌, ◌<◌}
use mathlib.Core.Path.{sym}
use native.Mathlib.Omega.{arith}
use Rattle.carousel_record.proofs.Laws.Blocks.{begins, inner_length, last_length}
use Rattle.carousel_record.proofs.Laws.Words.{block-sized, blocks-most}
use Rattle.carousel_record.proofs.blocks.block_length.Goals as goal
use Rattle.carousel_record.proofs.blocks.block_length.Goals.{Else-block-blocks_of, Start}

pub overflow_add-block : goal.overflow_add-block
overflow_add-block c =
    let p = c.args in
    let m = blocks-most p.block_size p.size in
    let h = c.requires in
    omega arith

abbrev bs : Start → ℕ
bs s = s.args.block_size

abbrev size : Start → ℕ
size s = s.args.size

sized : (s : Start) → 0 < bs s
sized s = block-sized (bs s) (size s) s.args.block s.requires

pub returns-then-block-blocks_of : goal.returns-then-block-blocks_of
returns-then-block-blocks_of c =
    sym (inner_length (bs (goal.at.returns-then-block-blocks_of c).Start) (size (goal.at.returns-then-block-blocks_of c).Start) (sized (goal.at.returns-then-block-blocks_of c).Start) c.args.block
    (omega (arith, c.blocks_of.ensures.0)))

-- the last block begins before the module ends
early : (c : Else-block-blocks_of) → c.args.block * bs (goal.at.Else-block-blocks_of c).Start < size (goal.at.Else-block-blocks_of c).Start
early c = begins (bs (goal.at.Else-block-blocks_of c).Start) (size (goal.at.Else-block-blocks_of c).Start) (sized (goal.at.Else-block-blocks_of c).Start) c.args.block c.requires

pub overflow_mul-result : goal.overflow_mul-result
overflow_mul-result c = let h = early (goal.at.overflow_mul-result c).Else-block-blocks_of in omega arith

pub overflow_sub-result : goal.overflow_sub-result
overflow_sub-result c = let h = early (goal.at.overflow_sub-result c).Else-block-blocks_of in omega arith

pub returns : goal.returns
returns c =
    sym (last_length (bs (goal.at.returns c).Start) (size (goal.at.returns c).Start) (sized (goal.at.returns c).Start) c.args.block (omega (arith, c.blocks_of.ensures.0)))
