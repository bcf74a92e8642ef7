-- Laws of what a new announcement keeps: "the same module" as tests and as facts; the marks after it, place by place; and that the rule is kept.
use Prim.Native.Nat.{ℕ, zero, suc, ◌+◌, ◌*◌, ◌/◌, ◌%◌, ◌^◌, ◌≤◌, ◌<◌}
use mathlib.Core.Path.{◌≡◌, refl, sym, ap, ◌∙◌}
use mathlib.Core.Logic.{◌↔◌}
use mathlib.Core.Bool.{Bool, true, false, cond, ◌&&◌}
use mathlib.Core.List.{List, [], ◌∷◌, map}
use native.Mathlib.Omega.{arith}
use lib.Dec.{eqb, ltb}
use lib.ListN.{length, get_or, take, drop, replicate, length-append, length-take, length-drop, length-replicate, length-map, get_or-append, replicate-append-replicate}
use lib.Seq.{take_at, drop_at, get_or-append-add, get_or-take, get_or-drop, drop-drop}
use borrow.Author.Tests.{eqb-true, ltb-true, eq-eqb, lt-ltb, le-ltb}
use Rattle.wire.proofs.Laws.Tests.{both}
use Rattle.carousel_messages.specs.declared.Listed.{Listed}
use Rattle.carousel_messages.specs.Limits.{most_modules, most_blocks, beyond10, twice11}
use Rattle.carousel_messages.specs.Heard.{none_listed, Announced, sizes_of, numbers_of}
use Rattle.carousel_record.specs.Blocks.{blocks_of}
use Rattle.carousel_record.specs.Marks.{module_words, mark_words, mark_of, is_marked, clear_from, marks_within}
use Rattle.carousel_record.specs.Record.{Record, module_at, received, ruled}
use Rattle.carousel_record.specs.Keeping.{modules_in, place_for, start_at, same_at, SameAt, place_before, is_kept, words_at, words_kept, words_from, marks_kept}
use Rattle.carousel_record.specs.Changes.{unmarked, afresh}
use Rattle.carousel_record.proofs.Laws.Tests.{joint}
use Rattle.carousel_record.proofs.Laws.Marks.{clear, clear_zero}
use Rattle.carousel_record.proofs.Laws.Places.{place_is, few-modules, sized}
use Rattle.carousel_record.proofs.Laws.Rule.{Kept, kept, words-all, few-all, counts_of}

-- "the same module", as tests and as facts
module _ (r q : Record) (i j : ℕ) where
  pub same_means : same_at r q i j ≡ true → SameAt r q i j
  unfolding same_at
  same_means e =
      let m = module_at r.announced i in
      let n = module_at q.announced j in
      let h1 = both _ (eqb (start_at r i) (start_at q j)) e in
      let h2 = both _ (eqb m.size n.size) h1.0 in
      let h3 = both _ (eqb m.version n.version) h2.0 in
      let h4 = both _ (eqb m.number n.number) h3.0 in
      let h5 = both _ (eqb r.announced.block_size q.announced.block_size) h4.0 in
      let h6 = both _ (eqb r.announced.download q.announced.download) h5.0 in
      let h7 = both (ltb i (modules_in r)) (ltb j (modules_in q)) h6.0 in
      record {
        before = ltb-true _ _ h7.0;
        now = ltb-true _ _ h7.1;
        download = eqb-true _ _ h6.1;
        block_size = eqb-true _ _ h5.1;
        number = eqb-true _ _ h4.1;
        version = eqb-true _ _ h3.1;
        size = eqb-true _ _ h2.1;
        start = eqb-true _ _ h1.1;
      }

  pub same_back : SameAt r q i j → same_at r q i j ≡ true
  unfolding same_at
  same_back s =
      rw (
        lt-ltb _ _ s.before,
        lt-ltb _ _ s.now,
        eq-eqb _ _ s.download,
        eq-eqb _ _ s.block_size,
        eq-eqb _ _ s.number,
        eq-eqb _ _ s.version,
        eq-eqb _ _ s.size,
        eq-eqb _ _ s.start,
      )

  -- past the modules there is none
  none-same : modules_in q ≤ j → same_at r q i j ≡ false
  unfolding same_at
  none-same h = rw (le-ltb j (modules_in q) h) (go (ltb i (modules_in r)))
    where
      go : (t : Bool) → (t && false && eqb r.announced.download q.announced.download
          && eqb r.announced.block_size q.announced.block_size
          && eqb (module_at r.announced i).number (module_at q.announced j).number
          && eqb (module_at r.announced i).version (module_at q.announced j).version
          && eqb (module_at r.announced i).size (module_at q.announced j).size
          && eqb (start_at r i) (start_at q j)) ≡ false
      go true = refl
      go false = refl

-- of the words of marks, those of the module at place i are clear from its last block on
within-at : (ns ws : List ℕ) (i : ℕ) → marks_within module_words ns ws ≡ true → i < length ns → clear_from (get_or ns i 0) (take module_words (drop (module_words * i) ws)) ≡ true
unfolding marks_within
within-at [] ws i e h = absurd (omega arith)
within-at (n ∷ ns) ws zero e h = (both (clear_from n (take module_words ws)) (marks_within module_words ns (drop module_words ws)) e).0
within-at (n ∷ ns) ws (suc i) e h =
    let f = both (clear_from n (take module_words ws)) (marks_within module_words ns (drop module_words ws)) e in
    let p : module_words * suc i ≡ module_words + module_words * i = omega arith in
    rw (p, ← (drop-drop (module_words * i) module_words ws)) (within-at ns (drop module_words ws) i f.1 (omega arith))

module _ (r : Record) (long : length r.marks ≡ mark_words) (few : modules_in r ≤ most_modules) (q : Record) where
  -- mark b of the words of a place, in the record before
  at_old : (i b : ℕ) → b < most_blocks → is_marked (words_at r i) b ≡ received r i b
  unfolding is_marked
  at_old i b l =
      let d : mark_of i b / 32 ≡ module_words * i + b / 32 = omega arith in
      let m : mark_of i b % 32 ≡ b % 32 = omega arith in
      let w : get_or (words_at r i) (b / 32) 0 ≡ get_or r.marks (module_words * i + b / 32) 0
      = get_or-take module_words (drop (module_words * i) r.marks) (b / 32) 0 (omega arith) ∙ get_or-drop (module_words * i) r.marks (b / 32) 0 in
      rw (d, m) (ap (λ (v : ℕ). eqb (v / 2 ^ (b % 32) % 2) 1) w)

  kept-mark : (j b : ℕ) → b < most_blocks → is_marked (words_kept r q j) b ≡ (is_kept r q j && received r (place_before r q j) b)
  unfolding words_kept
  kept-mark j b l = go (is_kept r q j)
    where
      go : (t : Bool) → is_marked (cond t (words_at r (place_before r q j)) (replicate module_words 0)) b ≡ (t && received r (place_before r q j) b)
      go true = at_old (place_before r q j) b l
      go false = clear module_words b

  -- the words of one place
  pub words_length : (j : ℕ) → length (words_kept r q j) ≡ module_words
  unfolding words_kept
  words_length j = go (is_kept r q j) refl
    where
      go : (t : Bool) → is_kept r q j ≡ t → length (cond t (words_at r (place_before r q j)) (replicate module_words 0)) ≡ module_words
      go true h =
          let p = (same_means r q _ j h).before in
          let w = long in
          let f = few in
          simp (length-take, length-drop) (omega arith)
      go false h = length-replicate {A = ℕ} module_words 0

  pub from_length : (j n : ℕ) → length (words_from r q j n) ≡ module_words * n
  unfolding words_from
  from_length j zero = refl
  from_length j (suc n) =
      let l = length-append (words_kept r q j) (words_from r q (suc j) n) in
      let u = words_length j in
      let v = from_length (suc j) n in
      omega arith

  -- word w of place j + i
  word_at : (j n i w : ℕ) → i < n → w < module_words → get_or (words_from r q j n) (module_words * i + w) 0 ≡ get_or (words_kept r q (j + i)) w 0
  unfolding words_from
  word_at j zero i w h l = absurd (omega arith)
  word_at j (suc n) zero w h l =
      let u = words_length j in
      let p : module_words * 0 + w ≡ w = omega arith in
      let o : j + 0 ≡ j = omega arith in
      rw (p, o) (get_or-append (words_kept r q j) (words_from r q (suc j) n) 0 w (omega arith))
  word_at j (suc n) (suc i) w h l =
      let u = words_length j in
      let p : module_words * suc i + w ≡ length (words_kept r q j) + (module_words * i + w) = omega arith in
      let o : j + suc i ≡ suc j + i = omega arith in
      rw (p, o) (get_or-append-add (words_kept r q j) (words_from r q (suc j) n) (module_words * i + w) 0 ∙ word_at (suc j) n i w (omega arith) l)

  marks-at : (j b : ℕ) → j < most_modules → b < most_blocks → is_marked (marks_kept r q) (mark_of j b) ≡ (is_kept r q j && received r (place_before r q j) b)
  unfolding is_marked marks_kept
  marks-at j b h l =
      let d : mark_of j b / 32 ≡ module_words * j + b / 32 = omega arith in
      let m : mark_of j b % 32 ≡ b % 32 = omega arith in
      let o : 0 + j ≡ j = omega arith in
      rw (d, m, word_at 0 most_modules j (b / 32) h (omega arith), o) (kept-mark j b l)

  -- past the modules nothing is kept
  pub none_from : (j n : ℕ) → modules_in q ≤ j → words_from r q j n ≡ replicate (module_words * n) 0
  unfolding words_from words_kept
  none_from j zero h = refl
  none_from j (suc n) h =
      let p : module_words * suc n ≡ module_words + module_words * n = omega arith in
      rw (none-same r q (place_before r q j) j h, none_from (suc j) n (omega arith), p) (replicate-append-replicate module_words (module_words * n) 0)

module _ (r : Record) (e : ruled r ≡ true) (q : Record) where
  -- a place's words are clear from its module's last block on
  kept-within : (j : ℕ) → clear_from (blocks_of q.announced.block_size (module_at q.announced j).size) (words_kept r q j) ≡ true
  unfolding words_kept
  kept-within j = go (is_kept r q j) refl
    where
      its : ℕ
      its = blocks_of q.announced.block_size (module_at q.announced j).size

      go : (t : Bool) → is_kept r q j ≡ t → clear_from its (cond t (words_at r (place_before r q j)) (replicate module_words 0)) ≡ true
      go true h =
          let i = place_before r q j in
          let s = same_means r q i j h in
          let p = s.before in
          let c = kept r (omega arith) e in
          let l = length-map (sizes_of r.announced.modules) (λ z. blocks_of r.announced.block_size z) ∙ length-map r.announced.modules (λ m. m.size) in
          let w = within-at (counts_of r.announced) r.marks i c.placed (omega arith) in
          let n : get_or (counts_of r.announced) i 0 ≡ its =
          sized (λ z. blocks_of r.announced.block_size z) r.announced.modules i p
          ∙ ap (λ (n : ℕ). blocks_of n (module_at r.announced i).size) s.block_size
          ∙ ap (λ (n : ℕ). blocks_of q.announced.block_size n) s.size in
          rw n at w
      go false h = clear_zero its module_words

  -- and so are those of all: ms are the modules from place j on
  all-within : (ms : List Listed) (j n : ℕ) → length ms ≤ n → modules_in q ≡ j + length ms
      → ((i : ℕ) → i < length ms → module_at q.announced (j + i) ≡ get_or ms i none_listed)
      → marks_within module_words (map (λ z. blocks_of q.announced.block_size z) (sizes_of ms)) (words_from r q j n) ≡ true
  unfolding marks_within words_from
  all-within [] j n l c f = rw (none_from r (words-all r e) (few-all r e) q j n (omega arith)) (clear_zero 0 (module_words * n))
  all-within (m ∷ ms) j zero l c f = absurd (omega arith)
  all-within (m ∷ ms) j (suc n) l c f =
      let u = words_length r (words-all r e) (few-all r e) q j in
      let ws = words_from r q (suc j) n in
      let z : (module_at q.announced j).size ≡ m.size = ap (λ (k : ℕ). (module_at q.announced k).size) (omega arith) ∙ ap (λ (x : Listed). x.size) (f 0 (omega arith)) in
      let g : (i : ℕ) → i < length ms → module_at q.announced (suc j + i) ≡ get_or ms i none_listed =
      λ i h. ap (λ (k : ℕ). module_at q.announced k) (omega arith) ∙ f (suc i) (omega arith) in
      rw (take_at (words_kept r q j) ws module_words u, drop_at (words_kept r q j) ws module_words u)
      (joint _ _ (ap (λ (k : ℕ). clear_from (blocks_of q.announced.block_size k) (words_kept r q j)) (sym z) ∙ kept-within j)
      (all-within ms (suc j) n (omega arith) (omega arith) g))

module _ (r : Record) (e : ruled r ≡ true) (a : Announced) where
  -- THE MARKS. Block b of the module at place j is marked exactly where that module is kept and had the block.
  pub keeping-marks : (j b : ℕ) → j < most_modules → b < most_blocks → received (afresh r a) j b ≡ (is_kept r (afresh r a) j && received r (place_before r (afresh r a) j) b)
  unfolding afresh same_at
  keeping-marks j b h l = marks-at r (words-all r e) (few-all r e) (unmarked a) j b h l

  -- "THE RECORD'S RULE IS UNCHANGED."
  pub fresh_kept : beyond10 a.block_size (sizes_of a.modules) ≡ false → twice11 (numbers_of a.modules) ≡ false → Kept (afresh r a)
  unfolding afresh marks_kept
  fresh_kept l n =
      let f = few-modules a.block_size a.modules l in
      record {
        words = from_length r (words-all r e) (few-all r e) (unmarked a) 0 most_modules;
        limits = l;
        numbers = n;
        running = refl;
        placed = all-within r e (unmarked a) a.modules 0 most_modules f (omega arith) (λ i h. ap (λ (k : ℕ). module_at a k) (omega arith));
      }

  -- The same in plain facts: block b of the module at place j is marked after the announcement exactly where a module of the record before is the same in all six, and had it.
  pub marked-exactly : (j b : ℕ) → j < most_modules → b < most_blocks
      → (received (afresh r a) j b ≡ true) ↔ ((i : ℕ) × SameAt r (afresh r a) i j × (received r i b ≡ true))
  marked-exactly j b h l =
      let m = keeping-marks j b h l in
      let p = place_before r (afresh r a) j in (
        (λ t. let k = both (is_kept r (afresh r a) j) (received r p b) (sym m ∙ t) in (p, same_means r (afresh r a) p j k.0, k.1)),
        (λ t.
            let s = t.1 in
            let u = s.before in
            let c = kept r (omega arith) e in
            let i : p ≡ t.0 = ap (place_for r) (sym s.number) ∙ place_is r.announced.modules t.0 c.numbers u in
            m ∙ joint _ _ (ap (λ (z : ℕ). same_at r (afresh r a) z j) i ∙ same_back r (afresh r a) t.0 j s) (ap (λ (z : ℕ). received r z b) i ∙ t.2)),
      )
