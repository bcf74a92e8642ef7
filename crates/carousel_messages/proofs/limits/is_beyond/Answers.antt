-- `carousel_messages::limits::is_beyond` meets its contract: one limit after another.
use mathlib.Core.Path.{◌≡◌, sym, ◌∙◌}
use mathlib.Core.Bool.{◌||◌}
use native.Mathlib.Omega.{arith}
use lib.Dec.{ltb}
use borrow.Author.Tests.{eqb-true, eqb-false}
use Rattle.carousel_messages.specs.Limits.{most_bytes, some_bad, total, beyond10}
use Rattle.carousel_messages.specs.Heard.{sizes_of}
use Rattle.carousel_messages.proofs.Laws.Limits.{beyond-none, beyond-large, beyond-empty, beyond-count, beyond-sizes}
use Rattle.carousel_messages.proofs.limits.is_beyond.Goals as goal
use Rattle.carousel_messages.proofs.limits.is_beyond.Goals.{Else-modules-gt-MOST_MODULES}

-- past the first four tests only the sizes are left
rest-is : (c : Else-modules-gt-MOST_MODULES) → let a = c.args in let ms = a.modules.now in
    beyond10 a.block_size (sizes_of ms) ≡ (some_bad a.block_size (sizes_of ms) || ltb most_bytes (total (sizes_of ms)))
rest-is c = beyond-sizes c.args.block_size c.args.modules.now c.if-block_size-eq0.false c.if-block_size-gt-LARGEST_BLOCK.false (eqb-false _ _ (sym c.is_empty.ensures ∙ c.if-is_empty.false))
    (omega arith)

pub returns-then-block_size-eq0 : goal.returns-then-block_size-eq0
returns-then-block_size-eq0 c = let a = c.args in sym (beyond-none a.block_size a.modules.now c.if-block_size-eq0.true)

pub returns-then-block_size-gt-LARGEST_BLOCK : goal.returns-then-block_size-gt-LARGEST_BLOCK
returns-then-block_size-gt-LARGEST_BLOCK c = let a = c.args in sym (beyond-large a.block_size a.modules.now c.if-block_size-eq0.false c.if-block_size-gt-LARGEST_BLOCK.true)

pub returns-then-is_empty : goal.returns-then-is_empty
returns-then-is_empty c = sym (beyond-empty c.args.block_size c.args.modules.now c.if-block_size-eq0.false c.if-block_size-gt-LARGEST_BLOCK.false (eqb-true _ _ (sym c.is_empty.ensures
    ∙ c.if-is_empty.true)))

pub returns-then-modules-gt-MOST_MODULES : goal.returns-then-modules-gt-MOST_MODULES
returns-then-modules-gt-MOST_MODULES c = sym (beyond-count c.args.block_size c.args.modules.now c.if-block_size-eq0.false c.if-block_size-gt-LARGEST_BLOCK.false (omega arith))

pub returns-then-some_bad : goal.returns-then-some_bad
returns-then-some_bad c = rw (rest-is (goal.at.returns-then-some_bad c).Else-modules-gt-MOST_MODULES, sym c.some_bad.ensures ∙ c.if-some_bad.true)

pub returns : goal.returns
returns c = rw (rest-is (goal.at.returns c).Else-modules-gt-MOST_MODULES, sym c.some_bad.ensures ∙ c.if-some_bad.false, c.sum.ensures)
