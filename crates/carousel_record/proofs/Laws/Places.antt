-- Laws of the announcement: what the limits give, the place of a number, and that modules do not overlap.
use Prim.Native.Nat.{ℕ, zero, suc, ◌+◌, ◌*◌, ◌≤◌, ◌<◌}
use mathlib.Core.Path.{◌≡◌, refl, sym, ap, ◌∙◌}
use mathlib.Core.Bool.{Bool, true, false, cond}
use mathlib.Core.List.{List, [], ◌∷◌, map}
use native.Mathlib.Omega.{arith}
use lib.Dec.{eqb, ltb}
use lib.ListN.{length, get_or, length-map}
use borrow.Author.Tests.{eq-eqb, ne_eqb, eqb-true, eqb-false, ltb-false}
use Rattle.wire.proofs.Laws.Tests.{neither}
use Rattle.carousel_messages.specs.declared.Listed.{Listed}
use Rattle.carousel_messages.specs.Limits.{largest_block, most_modules, most_blocks, most_bytes, bad_size, some_bad, total, beyond10, among, twice11}
use Rattle.carousel_messages.specs.Heard.{none_listed, sizes_of, numbers_of, place_in}
use Rattle.carousel_messages.proofs.Laws.Limits.{among-place, Within, within}
use Rattle.carousel_record.specs.Record.{sums}

-- the number of the module at a found place
pub number_at : (n : ℕ) (ms : List Listed) → place_in n ms < length ms → (get_or ms (place_in n ms) none_listed).number ≡ n
unfolding place_in
number_at n [] h = absurd (omega arith)
number_at n (m ∷ ms) h = go (eqb m.number n) refl h (λ k. number_at n ms k)
  where
    go : (t : Bool) → eqb m.number n ≡ t → cond t 0 (suc (place_in n ms)) < suc (length ms)
        → (place_in n ms < length ms → (get_or ms (place_in n ms) none_listed).number ≡ n)
        → (get_or (m ∷ ms) (cond t 0 (suc (place_in n ms))) none_listed).number ≡ n
    go true e k f = eqb-true m.number n e
    go false e k f = f (omega arith)

-- a module's number is found, at its place or before
pub place_le : (n : ℕ) (ms : List Listed) (i : ℕ) → i < length ms → (get_or ms i none_listed).number ≡ n → place_in n ms ≤ i
unfolding place_in
place_le n [] i h e = absurd (omega arith)
place_le n (m ∷ ms) zero h e = rw (eq-eqb m.number n e) (omega arith)
place_le n (m ∷ ms) (suc i) h e = go (eqb m.number n) (place_le n ms i (omega arith) e)
  where
    go : (t : Bool) → place_in n ms ≤ i → cond t 0 (suc (place_in n ms)) ≤ suc i
    go true k = omega arith
    go false k = omega arith

-- where no number comes twice, a module's number is found at its place
pub place_is : (ms : List Listed) (i : ℕ) → twice11 (numbers_of ms) ≡ false → i < length ms → place_in (get_or ms i none_listed).number ms ≡ i
unfolding place_in twice11
place_is [] i t h = absurd (omega arith)
place_is (m ∷ ms) zero t h = rw (eq-eqb m.number m.number refl)
place_is (m ∷ ms) (suc i) t h =
    let n = neither (among m.number (numbers_of ms)) (twice11 (numbers_of ms)) t in
    let l = ltb-false (place_in m.number ms) (length ms) (sym (among-place m.number ms) ∙ n.0) in
    let k : i < length ms = omega arith in
    rw (ne_eqb m.number (get_or ms i none_listed).number (λ e. let p = place_le m.number ms i k (sym e) in absurd (omega arith))) (ap suc (place_is ms i n.1 k))

-- f of each size, by place
pub sized : (f : ℕ → ℕ) (ms : List Listed) (i : ℕ) → i < length ms → get_or (map f (sizes_of ms)) i 0 ≡ f (get_or ms i none_listed).size
sized f [] i h = absurd (omega arith)
sized f (m ∷ ms) zero h = refl
sized f (m ∷ ms) (suc i) h = sized f ms i (omega arith)

-- a module begins at s or later and ends within the sizes together
pub starts_from : (s : ℕ) (ms : List Listed) (j : ℕ) → j < length ms → s ≤ get_or (sums s (sizes_of ms)) j 0
unfolding sums
starts_from s [] j h = absurd (omega arith)
starts_from s (m ∷ ms) zero h = omega arith
starts_from s (m ∷ ms) (suc j) h = let k = starts_from (s + m.size) ms j (omega arith) in omega arith

pub module-fits : (s : ℕ) (ms : List Listed) (j : ℕ) → j < length ms → get_or (sums s (sizes_of ms)) j 0 + (get_or ms j none_listed).size ≤ s + total (sizes_of ms)
unfolding sums total
module-fits s [] j h = absurd (omega arith)
module-fits s (m ∷ ms) zero h = omega arith
module-fits s (m ∷ ms) (suc j) h = let k = module-fits (s + m.size) ms j (omega arith) in omega arith

-- of two modules, the first ends before the second begins
pub modules-apart : (s : ℕ) (ms : List Listed) (j k : ℕ) → j < k → k < length ms → get_or (sums s (sizes_of ms)) j 0 + (get_or ms j none_listed).size ≤ get_or (sums s (sizes_of ms)) k 0
unfolding sums
modules-apart s [] j k l h = absurd (omega arith)
modules-apart s (m ∷ ms) j zero l h = absurd (omega arith)
modules-apart s (m ∷ ms) zero (suc k) l h = starts_from (s + m.size) ms k (omega arith)
modules-apart s (m ∷ ms) (suc j) (suc k) l h = modules-apart (s + m.size) ms j k (omega arith) (omega arith)

-- what the limits of refusal 10 give
size_limits : (bs : ℕ) (ms : List Listed) (i : ℕ) → some_bad bs (sizes_of ms) ≡ false → i < length ms
    → (0 < (get_or ms i none_listed).size) × ((get_or ms i none_listed).size ≤ most_blocks * bs)
unfolding some_bad
size_limits bs [] i e h = absurd (omega arith)
size_limits bs (m ∷ ms) zero e h =
    let n = neither (bad_size bs m.size) (some_bad bs (sizes_of ms)) e in
    let k = neither (eqb m.size 0) (ltb (most_blocks * bs) m.size) n.0 in
    let z = eqb-false m.size 0 k.0 in
    (omega arith, ltb-false (most_blocks * bs) m.size k.1)
size_limits bs (m ∷ ms) (suc i) e h = size_limits bs ms i (neither (bad_size bs m.size) (some_bad bs (sizes_of ms)) e).1 (omega arith)

module _ (bs : ℕ) (ms : List Listed) (e : beyond10 bs (sizes_of ms) ≡ false) where
  limits : Within bs (sizes_of ms)
  limits = within bs (sizes_of ms) e

  pub block-size_pos : 0 < bs
  block-size_pos = limits.block_some

  pub block-size-most : bs ≤ largest_block
  block-size-most = limits.block_most

  pub some-modules : 0 < length ms
  some-modules = let l = length-map ms (λ m. m.size) in omega (arith, limits.some)

  pub few-modules : length ms ≤ most_modules
  few-modules = let l = length-map ms (λ m. m.size) in omega (arith, limits.few)

  pub size_pos : (i : ℕ) → i < length ms → 0 < (get_or ms i none_listed).size
  size_pos i h = (size_limits bs ms i limits.sizes h).0

  pub size-most : (i : ℕ) → i < length ms → (get_or ms i none_listed).size ≤ most_blocks * bs
  size-most i h = (size_limits bs ms i limits.sizes h).1

  pub bytes_most : total (sizes_of ms) ≤ most_bytes
  bytes_most = limits.together
