-- `carousel_play::sections::write_block` meets its contract: the block that the place chooses lies in the image, and is put where there is room.
use Prim.Native.Nat.{ℕ, ◌+◌, ◌-◌, ◌*◌, ◌%◌, ◌≤◌, ◌<◌, min}
use mathlib.Core.Path.{◌≡◌, ap, ◌∙◌}
use mathlib.Core.List.{List}
use native.Mathlib.Omega.{arith}
use lib.ListN.{length, get_or, take, drop}
use lib.Seq.{sets}
use Rattle.section.specs.Header.{block_table}
use Rattle.carousel_messages.specs.declared.Listed.{Listed}
use Rattle.carousel_messages.specs.Limits.{most_bytes, most_modules}
use Rattle.carousel_messages.specs.Heard.{Announced, none_listed}
use Rattle.carousel_record.specs.Blocks.{block_length_of}
use Rattle.carousel_record.specs.Record.{module_at}
use Rattle.carousel_play.specs.Bytes.{section_bytes, message_bytes, carried_bytes, block_bytes}
use Rattle.carousel_play.specs.Calls.{to_play}
use Rattle.carousel_play.proofs.Laws.Spots.{played-count, entry-is}
use Rattle.carousel_play.proofs.Laws.Chosen.{length-is, Chosen, chosen, block-is, block-long, cut, part-long}
use Rattle.carousel_play.proofs.Laws.Refusals.{no_room, room}
use Rattle.carousel_play.proofs.sections.write_block.Goals as goal
use Rattle.carousel_play.proofs.sections.write_block.Goals.{After-min-last, After-min-size, Start}

abbrev said : Start → Announced
said c = to_play c.args.p

abbrev m : Start → Listed
m c = get_or c.args.p.modules c.args.spot.which none_listed

there : (c : Start) → c.args.spot.which < length (said c).modules
there c = c.requires.3.0

is-module : (c : Start) → module_at (said c) c.args.spot.which ≡ m c
is-module c =
    let g = played-count c.args.p c.well_formed.1.0.1.1.1.1.1.0.1.0.1 c.requires.0 in
    entry-is c.args.p c.args.spot.which (omega (arith, there c))

abbrev block : Start → ℕ
block c = c.args.spot.block

abbrev its-length : Start → ℕ
its-length c = block_length_of c.args.p.block_size (m c).size (block c)

known : (c : Start) → Chosen (said c) c.args.spot.which (block c) (m c)
unfolding to_play
known c = chosen (said c) c.requires.1 c.args.spot.which (block c) (there c) c.requires.3.1 (m c) (is-module c)

lies : (c : Start) → c.args.spot.start + block c * c.args.p.block_size + its-length c ≤ length c.args.image.now
unfolding to_play
lies c = let k = known c in let e = c.requires.3.2 in omega (arith, e, k.inside, c.requires.2)

small : (c : Start) → c.args.spot.start + block c * c.args.p.block_size + its-length c ≤ most_bytes
unfolding to_play
small c = let k = known c in let e = c.requires.3.2 in omega (arith, e, k.inside, k.bounded)

long : (c : Start) → length (block_bytes (said c) c.args.spot.which (block c) c.args.image.now) ≡ 30 + its-length c
unfolding to_play
long c = block-long (said c) c.requires.1 c.args.spot.which (block c) (there c) c.requires.3.1 (m c) (is-module c) c.args.image.now c.requires.2

-- and how long it is
length-told : (c : After-min-size) → c.min-size.result ≡ its-length (goal.at.After-min-size c).Start
unfolding to_play
length-told c =
    let k = known (goal.at.After-min-size c).Start in
    let bs = c.args.p.block_size in
    let e : c.min-size.result ≡ min bs ((m (goal.at.After-min-size c).Start).size - block (goal.at.After-min-size c).Start * bs) = c.min-size.ensures in
    e ∙ length-is bs (m (goal.at.After-min-size c).Start).size k.some (block (goal.at.After-min-size c).Start) k.one

-- its module is one of those in the array
below : (c : Start) → c.args.spot.which < most_modules
below c = let g = played-count c.args.p c.well_formed.1.0.1.1.1.1.1.0.1.0.1 c.requires.0 in omega (arith, there c, c.requires.0)

pub offset_bounds-ms-spot : goal.offset_bounds-ms-spot
offset_bounds-ms-spot c = let h = below (goal.at.offset_bounds-ms-spot c).Start in omega arith

pub bounds-ms-spot : goal.bounds-ms-spot
bounds-ms-spot c = let h = below (goal.at.bounds-ms-spot c).Start in omega arith

pub overflow_mul-before : goal.overflow_mul-before
overflow_mul-before c = let h = small (goal.at.overflow_mul-before c).Start in omega arith

pub overflow_sub-m : goal.overflow_sub-m
unfolding to_play
overflow_sub-m c = let k = (known (goal.at.overflow_sub-m c).Start).begun in omega arith

pub overflow_add-size : goal.overflow_add-size
overflow_add-size c = let e = length-told c in let h = small (goal.at.overflow_add-size c).Start in omega arith

pub returns-then-out-size : goal.returns-then-out-size
returns-then-out-size c = let e = length-told (goal.at.returns-then-out-size c).After-min-size in let l = long (goal.at.returns-then-out-size c).Start in no_room _ _ (omega
    (arith, c.if-out-size.true))

pub overflow_add-from : goal.overflow_add-from
overflow_add-from c = let h = small (goal.at.overflow_add-from c).Start in omega arith

pub overflow_add-end : goal.overflow_add-end
overflow_add-end c = let e = length-told (goal.at.overflow_add-end c).After-min-size in let h = small (goal.at.overflow_add-end c).Start in omega arith

-- the bytes that are cut out of the image
abbrev data-cut : After-min-last → List ℕ
data-cut c =
    let from = c.args.spot.start + block (goal.at.After-min-last c).Start * c.args.p.block_size in
    take (from + c.min-size.result - from) (drop from c.args.image.now)

cut-long : (c : After-min-last) → length (data-cut c) ≡ its-length (goal.at.After-min-last c).Start
cut-long c = part-long _ _ _ _ (length-told (goal.at.After-min-last c).After-min-size) (lies (goal.at.After-min-last c).Start)

-- and what is written for them
written : (c : After-min-last) → let x = m (goal.at.After-min-last c).Start in
    section_bytes block_table x.number (x.version % 32) (block (goal.at.After-min-last c).Start % 256) c.min-last.result
    (message_bytes 0x1003 c.args.p.download (carried_bytes x.number x.version (block (goal.at.After-min-last c).Start) (data-cut c)))
    ≡ block_bytes (said (goal.at.After-min-last c).Start) c.args.spot.which (block (goal.at.After-min-last c).Start) c.args.image.now
unfolding to_play
written c =
    let l = c.min-last.ensures ∙ ap (λ (n : ℕ). min 255 (n - 1)) c.blocks_of.ensures.0 in
    let s = (goal.at.After-min-last c).Start in
    block-is (said s) c.requires.1 c.args.spot.which (block s) (there s) c.requires.3.1 (m s) (is-module s) c.args.image.now c.min-last.result l (data-cut c)
    (cut _ _ _ _ _ _ (length-told (goal.at.After-min-last c).After-min-size) c.requires.3.2)

pub overflow_sub-blocks_of : goal.overflow_sub-blocks_of
unfolding to_play
overflow_sub-blocks_of c = let k = (known (goal.at.overflow_sub-blocks_of c).Start).one in let e = c.blocks_of.ensures.0 in omega arith

pub overflow_cast-spot : goal.overflow_cast-spot
overflow_cast-spot c = let k = (known (goal.at.overflow_cast-spot c).Start).below in omega arith

pub slice_bounds-put_block-end : goal.slice_bounds-put_block-end
slice_bounds-put_block-end c = let e = length-told (goal.at.slice_bounds-put_block-end c).After-min-size in let h = lies (goal.at.slice_bounds-put_block-end c).Start in omega arith

pub put_block-requires : goal.put_block-requires
unfolding to_play
put_block-requires c =
    let e = cut-long (goal.at.put_block-requires c).After-min-last in
    let f = length-told (goal.at.put_block-requires c).After-min-size in
    let k = (known (goal.at.put_block-requires c).Start).short in
    (omega arith, omega (arith, c.if-out-size.false))

pub returns : goal.returns
returns c =
    let e = length-told (goal.at.returns c).After-min-size in
    let l = long (goal.at.returns c).Start in
    let k = cut-long (goal.at.returns c).After-min-last in
    room _ _ _ _ (omega (arith, c.if-out-size.false))
    (c.put_block.ensures.0 ∙ ap (sets c.args.out.now 0) (written (goal.at.returns c).After-min-last))
    (c.put_block.ensures.1 ∙ omega arith)
