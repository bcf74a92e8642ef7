-- The rule of a record with modules, taken apart and put together; who keeps it; and what the rule of the record as the code holds it adds.
use Prim.Native.Nat.{ℕ, ◌/◌, ◌%◌, ◌≤◌, ◌<◌}
use mathlib.Core.Path.{◌≡◌, sym, ◌∙◌}
use mathlib.Core.Bool.{Bool, true, false, not, ◌&&◌}
use mathlib.Core.List.{List, map}
use native.Mathlib.Omega.{arith}
use native.Mathlib.Decide.{dec_lt}
use lib.Dec.{eqb, leb, lit≤}
use lib.ListN.{length, drop, length-map, length-set}
use borrow.Author.Tests.{eq-eqb, ne_eqb, eqb-true, leb-true, not-true}
use Rattle.wire.proofs.Laws.Copies.{same-is, same_refl}
use Rattle.wire.proofs.Laws.Tests.{both}
use Rattle.wire.specs.Copies.{same_numbers}
use Rattle.carousel_messages.specs.Limits.{most_modules, most_blocks, beyond10, twice11}
use Rattle.carousel_messages.specs.Heard.{Announced, sizes_of, numbers_of}
use Rattle.carousel_record.specs.declared.Carousel.{Carousel}
use Rattle.carousel_record.specs.Blocks.{blocks_of}
use Rattle.carousel_record.specs.Marks.{module_words, mark_words, mark_of, is_marked, marks_with, marks_within}
use Rattle.carousel_record.specs.Record.{Record, record_of, module_at, sums, block_count, within_limits, ruled, all_unused, ruled_of}
use Rattle.carousel_record.specs.Changes.{marking}
use Rattle.carousel_record.proofs.Laws.Tests.{joint}
use Rattle.carousel_record.proofs.Laws.Marks.{within-with, within_means}
use Rattle.carousel_record.proofs.Laws.Blocks.{few}
use Rattle.carousel_record.proofs.Laws.Places.{sized, block-size_pos, some-modules, few-modules, size-most}

-- the numbers of blocks of the modules
abbrev pub counts_of : Announced → List ℕ
counts_of a = map (λ z. blocks_of a.block_size z) (sizes_of a.modules)

pub record Kept (r : Record) : Type 0 where
  pub words : length r.marks ≡ mark_words
  pub limits : beyond10 r.announced.block_size (sizes_of r.announced.modules) ≡ false
  pub numbers : twice11 (numbers_of r.announced.modules) ≡ false
  pub running : r.starts ≡ sums 0 (sizes_of r.announced.modules)
  pub placed : marks_within module_words (counts_of r.announced) r.marks ≡ true

-- the limits, where there is a module
within : (a : Announced) → 0 < length a.modules
    → within_limits a ≡ (not (beyond10 a.block_size (sizes_of a.modules)) && not (twice11 (numbers_of a.modules)))
unfolding within_limits
within a some = rw (ne_eqb (length a.modules) 0 (λ z. omega arith))

pub kept : (r : Record) → 0 < length r.announced.modules → ruled r ≡ true → Kept r
unfolding ruled
kept r some e =
    let a = r.announced in
    let h = both (eqb (length r.marks) mark_words && within_limits a && same_numbers r.starts (sums 0 (sizes_of a.modules))) (marks_within module_words (counts_of a) r.marks) e in
    let k = both (eqb (length r.marks) mark_words && within_limits a) (same_numbers r.starts (sums 0 (sizes_of a.modules))) h.0 in
    let l = both (eqb (length r.marks) mark_words) (within_limits a) k.0 in
    let m = both (not (beyond10 a.block_size (sizes_of a.modules))) (not (twice11 (numbers_of a.modules))) (sym (within a some) ∙ l.1) in
    record { words = eqb-true _ _ l.0; limits = not-true _ m.0; numbers = not-true _ m.1; running = same-is _ _ k.1; placed = h.1 }

-- of any record that keeps it, with modules or not
pub words-all : (r : Record) → ruled r ≡ true → length r.marks ≡ mark_words
unfolding ruled
words-all r e =
    let a = r.announced in
    let h = both (eqb (length r.marks) mark_words && within_limits a && same_numbers r.starts (sums 0 (sizes_of a.modules))) (marks_within module_words (counts_of a) r.marks) e in
    let k = both (eqb (length r.marks) mark_words && within_limits a) (same_numbers r.starts (sums 0 (sizes_of a.modules))) h.0 in
    eqb-true _ _ (both (eqb (length r.marks) mark_words) (within_limits a) k.0).0

pub few-all : (r : Record) → ruled r ≡ true → length r.announced.modules ≤ most_modules
few-all r e = elim (dec_lt 0 (length r.announced.modules)) [
  | yes p ↦ few-modules r.announced.block_size r.announced.modules (kept r p e).limits
  | no n ↦ omega arith
]

pub keeps : (r : Record) → Kept r → ruled r ≡ true
unfolding ruled
keeps r k =
    let a = r.announced in
    let w : within_limits a ≡ true = within a (some-modules a.block_size a.modules k.limits) ∙ rw (k.limits, k.numbers) in
    joint _ _ (joint _ _ (joint _ _ (eq-eqb _ _ k.words) w) (rw k.running (same_refl (sums 0 (sizes_of a.modules))))) k.placed

module _ (r : Record) (k : Kept r) where
  abbrev a : Announced
  a = r.announced

  counts_length : length (counts_of a) ≡ length a.modules
  counts_length = length-map (sizes_of a.modules) _ ∙ length-map a.modules _

  module _ (i b : ℕ) (u : i < length a.modules) (v : b < block_count a i) where
    -- a block's number is below the most blocks, and its mark is in the words
    pub number_small : b < most_blocks
    number_small =
        let h = few a.block_size (module_at a i).size (block-size_pos a.block_size a.modules k.limits) most_blocks (size-most a.block_size a.modules k.limits i u) in
        omega arith

    pub in_words : mark_of i b / 32 < length r.marks
    in_words = let w = k.words in let s = number_small in let n = few-modules a.block_size a.modules k.limits in omega arith

    marks_length : length (marks_with r.marks (mark_of i b)) ≡ mark_words
    unfolding marks_with
    marks_length = simp length-set k.words

    -- a record with one more mark, that of a block, keeps the rule
    pub mark-kept : Kept (marking r (mark_of i b))
    unfolding marking
    mark-kept = record {
      words = marks_length;
      limits = k.limits;
      numbers = k.numbers;
      running = k.running;
      placed = within-with module_words (counts_of a) r.marks i b (let c = counts_length in omega arith) (rw (sized (λ z. blocks_of a.block_size z) a.modules i u) v) number_small k.placed;
    }

  -- "MARKS PAST A LAST BLOCK ARE ZERO": a mark that is set is that of an announced module's block
  pub marks_mean : (m : ℕ) → is_marked r.marks m ≡ true → (m / most_blocks < length a.modules) × (m % most_blocks < block_count a (m / most_blocks))
  marks_mean m e =
      let h = within_means module_words (lit≤ tt) (counts_of a) r.marks m k.placed e in
      let l = h.0 in
      let c = counts_length in
      let u : m / most_blocks < length a.modules = omega arith in
      (u, rw (sized (λ z. blocks_of a.block_size z) a.modules (m / most_blocks) u) at h.1)

-- The rule of the record as the code holds it: not too many modules, unused entries zero, and the paper's rule of what it says.
abbrev pub shaped : Carousel → Bool
shaped c = leb c.count most_modules && all_unused (drop c.count c.modules)

module _ (c : Carousel) where
  pub ruled-parts : ruled_of c ≡ true → (shaped c ≡ true) × (ruled (record_of c) ≡ true)
  unfolding ruled_of
  ruled-parts e = both (shaped c) (ruled (record_of c)) e

  pub parts-ruled : shaped c ≡ true → ruled (record_of c) ≡ true → ruled_of c ≡ true
  unfolding ruled_of
  parts-ruled e f = joint (shaped c) (ruled (record_of c)) e f

  pub ruled-says : ruled_of c ≡ true → ruled (record_of c) ≡ true
  ruled-says e = (ruled-parts e).1

  pub ruled-count : ruled_of c ≡ true → c.count ≤ most_modules
  ruled-count e = leb-true _ _ (both (leb c.count most_modules) (all_unused (drop c.count c.modules)) (ruled-parts e).0).0

  pub ruled-unused : ruled_of c ≡ true → all_unused (drop c.count c.modules) ≡ true
  ruled-unused e = (both (leb c.count most_modules) (all_unused (drop c.count c.modules)) (ruled-parts e).0).1
