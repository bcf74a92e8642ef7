-- `carousel_handout::lacks::lack_of` meets its contract: the marks of a module begin at so many times its place, and its blocks are no more.
use Prim.Native.Nat.{ℕ, ◌*◌, ◌≤◌, ◌<◌}
use mathlib.Core.Path.{◌≡◌, sym, ap, ◌∙◌}
use native.Mathlib.Omega.{arith}
use lib.ListN.{length, get_or}
use Rattle.carousel_messages.specs.Limits.{most_modules, most_blocks}
use Rattle.carousel_messages.specs.declared.Listed.{Listed}
use Rattle.carousel_record.specs.Blocks.{blocks_of}
use Rattle.carousel_record.specs.Marks.{clear_among}
use Rattle.carousel_record.specs.Record.{announced_by, record_of, module_at, block_count, missing_of, unused}
use Rattle.carousel_handout.specs.Calls.{lack_of}
use Rattle.carousel_record.proofs.Laws.Blocks.{few}
use Rattle.carousel_record.proofs.Laws.Places.{block-size_pos, size-most}
use Rattle.carousel_record.proofs.Laws.Rule.{kept, ruled-says, ruled-count}
use Rattle.carousel_record.proofs.Laws.Says.{says-count, says_module}
use Rattle.carousel_handout.proofs.lacks.lack_of.Goals as goal
use Rattle.carousel_handout.proofs.lacks.lack_of.Goals.{Start}

all-entries : (s : Start) → length s.args.c.modules ≡ most_modules
all-entries s = s.well_formed.0.1.1.1.1.1.0.1.0.1

few-modules : (s : Start) → s.args.c.count ≤ most_modules
few-modules s = ruled-count s.args.c s.requires.0

count : (s : Start) → length (announced_by s.args.c).modules ≡ s.args.c.count
count s = says-count s.args.c (all-entries s) (few-modules s)

-- the module's blocks, as code counts them
blocks : (s : Start) → blocks_of s.args.c.block_size (get_or s.args.c.modules s.args.place unused).size ≡ block_count (announced_by s.args.c) s.args.place
unfolding announced_by
blocks s = sym (ap (λ (m : Listed). blocks_of s.args.c.block_size m.size) (says_module s.args.c s.args.place s.requires.1))

-- are not too many
most : (s : Start) → block_count (announced_by s.args.c) s.args.place ≤ most_blocks
most s =
    let a = announced_by s.args.c in
    let n = count s in
    let u : s.args.place < length a.modules = omega (arith, s.requires.1) in
    let k = kept (record_of s.args.c) (omega arith) (ruled-says s.args.c s.requires.0) in
    few a.block_size (module_at a s.args.place).size (block-size_pos a.block_size a.modules k.limits) most_blocks (size-most a.block_size a.modules k.limits s.args.place u)

pub bounds-ms-place : goal.bounds-ms-place
bounds-ms-place c = let n = few-modules (goal.at.bounds-ms-place c).Start in omega (arith, c.requires.1)

pub lack_among-requires : goal.lack_among-requires
lack_among-requires c =
    let m = most (goal.at.lack_among-requires c).Start in
    let e = blocks (goal.at.lack_among-requires c).Start in
    let n = few-modules (goal.at.lack_among-requires c).Start in
    omega (arith, c.blocks_of.ensures.0, c.requires.1)

pub returns : goal.returns
unfolding missing_of
returns c =
    let e = c.blocks_of.ensures.0 ∙ blocks (goal.at.returns c).Start in
    c.lack_among.ensures ∙ ap (λ (n : ℕ). lack_of (clear_among c.args.c.marks (most_blocks * c.args.place) 0 n)) e
