-- The record's first n entries one at a time, as the loops over them take them.
use Prim.Native.Nat.{ℕ, suc, ◌+◌, ◌*◌, ◌≤◌, ◌<◌, min}
use mathlib.Core.Path.{◌≡◌, refl, sym, ap, ap₂, ◌∙◌}
use mathlib.Core.Bool.{true, false, cond}
use mathlib.Core.List.{List, [], ◌∷◌, map}
use native.Mathlib.Numerals.{add-one}
use native.Mathlib.Omega.{arith}
use native.Mathlib.Decide.{dec_lt}
use lib.ListN.{length, get_or, take, drop, length-map, length-take, drop_of_length-le, get_or-map}
use lib.Seq.{drop-cons, get_or-take, drop-drop, take_all}
use lib.Dec.{eqb}
use borrow.Author.Tests.{eq-eqb, ne_eqb}
use Rattle.wire.specs.Copies.{same_numbers}
use Rattle.carousel_messages.specs.declared.Listed.{Listed}
use Rattle.carousel_record.specs.declared.Module.{Module}
use Rattle.carousel_messages.proofs.Laws.Limits.{take_map}
use Rattle.carousel_record.specs.declared.Carousel.{Carousel}
use Rattle.carousel_record.specs.Blocks.{blocks_of}
use Rattle.carousel_record.specs.Marks.{module_words, clear_from, marks_within}
use Rattle.carousel_messages.specs.Heard.{sizes_of, place_in, found}
use Rattle.carousel_record.specs.Record.{listed_in, start_in, number_in, place_among, announced_by, sums, unused, is_unused, all_unused}

module _ (ms : List Module) (n : ℕ) (h : n ≤ length ms) where
  abbrev listed : List Listed
  listed = map listed_in (take n ms)

  abbrev starts : List ℕ
  starts = map start_in (take n ms)

  long : {A : Type 0} (f : Module → A) → length (map f (take n ms)) ≡ n
  long f = length-map (take n ms) f ∙ length-take n ms ∙ omega arith

  -- as many modules as entries
  pub listed-long : length listed ≡ n
  listed-long = long listed_in

  pub next : {A : Type 0} (f : Module → A) (i : ℕ) → i < n → drop i (map f (take n ms)) ≡ f (get_or ms i unused) ∷ drop (i + 1) (map f (take n ms))
  next {A} f i l =
      let k = long f in
      rw (add-one i) (drop-cons (map f (take n ms)) i (f unused) (omega arith)
      ∙ ap (λ (x : A). x ∷ drop (suc i) (map f (take n ms))) (get_or-map f (take n ms) i unused ∙ ap f (get_or-take n ms i unused l)))

  pub none_left : {A : Type 0} (f : Module → A) (i : ℕ) → n ≤ i → drop i (map f (take n ms)) ≡ []
  none_left f i l = let k = long f in let m : length (map f (take n ms)) ≤ i = omega arith in drop_of_length-le (map f (take n ms)) m

  module _ (i : ℕ) (l : i < n) where
    -- marks past a module's blocks, or none
    module _ (bs : ℕ) (ws : List ℕ) where
      abbrev here : List ℕ
      here = take module_words (drop (module_words * i) ws)

      pub place-off : clear_from (blocks_of bs (get_or ms i unused).size) here ≡ false → marks_within module_words (map (λ z. blocks_of bs z) (sizes_of (drop i listed))) (drop
          (module_words * i) ws) ≡ false
      unfolding marks_within
      place-off e = rw (next listed_in i l, e)

      pub place_kept : clear_from (blocks_of bs (get_or ms i unused).size) here ≡ true
          → marks_within module_words (map (λ z. blocks_of bs z) (sizes_of (drop (i + 1) listed))) (drop (module_words * (i + 1)) ws)
          ≡ marks_within module_words (map (λ z. blocks_of bs z) (sizes_of (drop i listed))) (drop (module_words * i) ws)
      unfolding marks_within
      place_kept e =
          let k : module_words * (i + 1) ≡ module_words * i + module_words = omega arith in
          rw (next listed_in i l, e, k, ← (drop-drop module_words (module_words * i) ws))

  -- none left
  module _ (i : ℕ) (l : n ≤ i) where
    pub marks-done : (bs : ℕ) (ws : List ℕ) → marks_within module_words (map (λ z. blocks_of bs z) (sizes_of (drop i listed))) ws ≡ clear_from 0 ws
    unfolding marks_within
    marks-done bs ws = rw (none_left listed_in i l)

-- the place of a number among some: the one here is it, or is not, or there is none left
module _ (ns : List ℕ) (i k : ℕ) where
  among-here : i < length ns → drop i ns ≡ get_or ns i 0 ∷ drop (i + 1) ns
  among-here h = rw (add-one i) (drop-cons ns i 0 h)

  pub among_hit : i < length ns → get_or ns i 0 ≡ k → place_among k (drop i ns) ≡ 0
  unfolding place_among
  among_hit h e = rw (among-here h, eq-eqb (get_or ns i 0) k e)

  pub among_next : i < length ns → (get_or ns i 0 ≡ k → ⊥) → place_among k (drop i ns) ≡ suc (place_among k (drop (i + 1) ns))
  unfolding place_among
  among_next h e = rw (among-here h, ne_eqb (get_or ns i 0) k e)

  pub among-done : length ns ≤ i → place_among k (drop i ns) ≡ 0
  unfolding place_among
  among-done l = rw (drop_of_length-le ns l)

-- the first n of some are the first of as many as there are
pub take_least : (n : ℕ) (ns : List ℕ) → take (min n (length ns)) ns ≡ take n ns
take_least n ns = elim (dec_lt n (length ns)) [
  | yes p ↦ let f : min n (length ns) ≡ n = omega arith in rw f
  | no p ↦ let f : min n (length ns) ≡ length ns = omega arith in rw f (take_all (length ns) ns (omega arith) ∙ sym (take_all n ns (omega arith)))
]

-- and among the numbers of entries it is the module's place
pub among-is : (k : ℕ) (ms : List Module) → place_among k (map number_in ms) ≡ place_in k (map listed_in ms)
unfolding place_among place_in
among-is k [] = refl
among-is k (m ∷ ms) = ap (λ (x : ℕ). cond (eqb m.number k) 0 (suc x)) (among-is k ms)

pub among-entries : (k n : ℕ) (ms : List Module) → place_among k (take n (map number_in ms)) ≡ place_in k (map listed_in (take n ms))
among-entries k n ms = ap (place_among k) (take_map number_in n ms) ∙ among-is k (take n ms)

-- and so as a call answers it
pub found-entries : (k n : ℕ) (ms : List Module) → found (place_among k (take n (map number_in ms))) (length (take n (map number_in ms)))
    ≡ found (place_in k (map listed_in (take n ms))) (length (map listed_in (take n ms)))
found-entries k n ms =
    ap₂ found (among-entries k n ms) (ap length (take_map number_in n ms) ∙ length-map (take n ms) number_in ∙ sym (length-map (take n ms) listed_in))

-- the entries in use, as announced modules, are what the record says
pub said-by : (c : Carousel) (ls : List Listed) → ls ≡ map listed_in c.modules → take c.count ls ≡ (announced_by c).modules
unfolding announced_by
said-by c ls e = ap (take c.count) e ∙ take_map listed_in c.count c.modules

-- entries one after another
module _ (ms : List Module) (i : ℕ) where
  one_more : i < length ms → drop i ms ≡ get_or ms i unused ∷ drop (i + 1) ms
  one_more l = rw (add-one i) (drop-cons ms i unused l)

  -- a start that is the running sum, or is not
  pub running-off : i < length ms → (s : ℕ) → ((get_or ms i unused).start ≡ s → ⊥) → same_numbers (map start_in (drop i ms)) (sums s (sizes_of (map listed_in (drop i ms)))) ≡ false
  unfolding sums same_numbers
  running-off l s e = rw (one_more l, ne_eqb (get_or ms i unused).start s e)

  pub running-next : i < length ms → (s : ℕ) → (get_or ms i unused).start ≡ s
      → same_numbers (map start_in (drop (i + 1) ms)) (sums (s + (get_or ms i unused).size) (sizes_of (map listed_in (drop (i + 1) ms))))
      ≡ same_numbers (map start_in (drop i ms)) (sums s (sizes_of (map listed_in (drop i ms))))
  unfolding sums same_numbers
  running-next l s e = rw (one_more l, eq-eqb (get_or ms i unused).start s e)

  pub running-done : length ms ≤ i → (s : ℕ) → same_numbers (map start_in (drop i ms)) (sums s (sizes_of (map listed_in (drop i ms)))) ≡ true
  unfolding sums same_numbers
  running-done l s = rw (drop_of_length-le ms l)

  -- entries that are not used
  pub used-here : i < length ms → is_unused (get_or ms i unused) ≡ false → all_unused (drop i ms) ≡ false
  unfolding all_unused
  used-here l e = rw (drop-cons ms i unused l, e)

  pub unused-next : i < length ms → is_unused (get_or ms i unused) ≡ true → all_unused (drop (i + 1) ms) ≡ all_unused (drop i ms)
  unfolding all_unused
  unused-next l e = rw (add-one i, drop-cons ms i unused l, e)

  pub unused-done : length ms ≤ i → all_unused (drop i ms) ≡ true
  unfolding all_unused
  unused-done l = rw (drop_of_length-le ms l)
