-- The marks that a new announcement keeps, one place at a time, as the loop brings them. r is the record before, q the one after, without a mark.
use Prim.Native.Nat.{ℕ, zero, suc, ◌+◌, ◌-◌, ◌*◌, ◌≤◌, ◌<◌}
use mathlib.Core.Path.{◌≡◌, refl, sym, ap, ◌∙◌}
use mathlib.Core.Bool.{Bool, true, false, cond, ◌&&◌}
use mathlib.Core.List.{List, map, ◌++◌, append_assoc, append-nil}
use native.Mathlib.Nat.{add-sub_cancel_left}
use native.Mathlib.Omega.{arith}
use lib.Dec.{eqb, ltb}
use lib.ListN.{length, get_or, take, drop, replicate, length-append, length-replicate, replicate-append-replicate}
use lib.Seq.{take_at, drop_at, drop-drop}
use borrow.Author.Tests.{ltb-true, ltb-false, lt-ltb, le-ltb, eq-eqb}
use Rattle.wire.specs.Copies.{overwrite}
use Rattle.carousel_messages.specs.Limits.{most_modules}
use Rattle.std.proofs.Common.{Option, Some, None, unwrap_or}
use Rattle.carousel_messages.specs.declared.Listed.{Listed}
use Rattle.carousel_messages.specs.Heard.{found}
use Rattle.carousel_record.specs.declared.Module.{Module}
use Rattle.carousel_record.specs.declared.Carousel.{Carousel}
use Rattle.carousel_record.specs.Marks.{module_words, mark_words}
use Rattle.carousel_record.specs.Record.{Record, announced_by, record_of, number_in, place_among, place_of, slot_at, slot_of, unused}
use Rattle.carousel_record.specs.Keeping.{modules_in, place_for, same_at, SameAt, place_before, is_kept, words_kept, words_from, marks_kept}
use Rattle.carousel_record.proofs.Laws.Entries.{found-entries}
use Rattle.carousel_record.proofs.Laws.Says.{says_module, says-start, says-count, said-within}
use Rattle.carousel_step.specs.Held.{still_at}
use Rattle.carousel_step.proofs.Laws.Slots.{found-slot, no_slot}
use Rattle.carousel_record.proofs.Laws.Keeping.{same_means, words_length, from_length, none_from}

-- the test that is left where downloadId and blockSize are the same: the two entries are the same
abbrev same_entry : Module → Module → Bool
same_entry m k = eqb m.number k.number && eqb m.version k.version && eqb m.size k.size && eqb m.start k.start

-- Two records of one downloadId and one blockSize, and the module at place j of the second.
module _ (c d : Carousel) (j : ℕ) (lc : length c.modules ≡ most_modules) (ld : length d.modules ≡ most_modules) (fc : c.count ≤ most_modules) (fd : d.count ≤ most_modules)
    (e : c.download ≡ d.download) (f : c.block_size ≡ d.block_size) (k : j < d.count) where
  abbrev m : Module
  m = get_or d.modules j unused

  -- where it was: the place of its number among those of the record before
  abbrev p : ℕ
  p = place_of (announced_by c) m.number

  pub was-at : p ≡ place_before (record_of c) (record_of d) j
  was-at = sym (ap (λ (x : Listed). place_for (record_of c) x.number) (says_module d j k))

  same-there : (i : ℕ) → i < c.count → same_at (record_of c) (record_of d) i j ≡ same_entry (get_or c.modules i unused) m
  unfolding same_at announced_by
  same-there i l =
      rw (
        says-count c lc fc,
        says-count d ld fd,
        lt-ltb i c.count l,
        lt-ltb j d.count k,
        eq-eqb _ _ e,
        eq-eqb _ _ f,
        says_module c i l,
        says_module d j k,
        says-start c i l,
        says-start d j k,
      ) refl

  same-nowhere : (i : ℕ) → c.count ≤ i → same_at (record_of c) (record_of d) i j ≡ false
  unfolding same_at announced_by
  same-nowhere i l = rw (says-count c lc fc, le-ltb i c.count l) refl

  -- its old place, where it is the same
  pub still-is : still_at (slot_of c m.number) m ≡ cond (same_at (record_of c) (record_of d) p j) (Some p) None
  still-is = go (ltb p c.count) refl
    where
      go : (t : Bool) → ltb p c.count ≡ t → still_at (slot_of c m.number) m ≡ cond (same_at (record_of c) (record_of d) p j) (Some p) None
      go true h =
          let l = ltb-true p c.count h in
          ap (λ o. still_at o m) (found-slot c lc fc m.number l) ∙ ap (λ (t : Bool). cond t (Some p) None) (sym (same-there p l))
      go false h =
          let l = ltb-false p c.count h in
          ap (λ o. still_at o m) (no_slot c lc fc m.number l) ∙ ap (λ (t : Bool). cond t (Some p) None) (sym (same-nowhere p l))

-- one that is the same is there
pub same-within : (c d : Carousel) (i j : ℕ) → same_at (record_of c) (record_of d) i j ≡ true → i < c.count
same-within c d i j e = said-within c i (same_means (record_of c) (record_of d) i j e).before

-- what such an answer tells
pub still-has : (t : Bool) (p i : ℕ) → Some i ≡ cond t (Some p) None → (i ≡ p) × (t ≡ true)
still-has true p i e = (ap (λ o. unwrap_or o 0) e, refl)
still-has false p i e = let z : ◌≡◌ {A = ℕ} 0 1 = cc in absurd (omega arith)

pub still-none : (t : Bool) (p : ℕ) → None ≡ cond t (Some p) None → t ≡ false
still-none true p e = let z : ◌≡◌ {A = ℕ} 0 1 = cc in absurd (omega arith)
still-none false p e = refl

-- the entry that was found among the numbers of entries
pub slot-is : (c : Carousel) (k : ℕ) (ns : List ℕ) → ns ≡ map number_in c.modules
    → slot_at (found (place_among k (take c.count ns)) (length (take c.count ns))) c.modules ≡ slot_of c k
unfolding announced_by
slot-is c k ns e =
    ap (λ (ns : List ℕ). slot_at (found (place_among k (take c.count ns)) (length (take c.count ns))) c.modules) e
    ∙ ap (λ (o : Option ℕ). slot_at o c.modules) (found-entries k c.count c.modules)

-- where no module is the same, none keeps its marks
module _ (r q : Record) (other : (i j : ℕ) → SameAt r q i j → ⊥) where
  not_same : (i j : ℕ) → same_at r q i j ≡ false
  not_same i j = go (same_at r q i j) refl
    where
      go : (t : Bool) → same_at r q i j ≡ t → t ≡ false
      go true h = absurd (other i j (same_means r q i j h))
      go false h = refl

  emptied-from : (j n : ℕ) → words_from r q j n ≡ replicate (module_words * n) 0
  unfolding words_from words_kept
  emptied-from j zero = refl
  emptied-from j (suc n) =
      let p : module_words * suc n ≡ module_words + module_words * n = omega arith in
      rw (not_same (place_before r q j) j, emptied-from (suc j) n, p) (replicate-append-replicate {A = ℕ} module_words (module_words * n) 0)

  pub all-emptied : replicate mark_words 0 ≡ marks_kept r q
  unfolding marks_kept
  all-emptied = sym (emptied-from 0 most_modules)

-- the words of n places and of m more
from-both : (r q : Record) (j n m : ℕ) → words_from r q j (n + m) ≡ words_from r q j n ++ words_from r q (j + n) m
unfolding words_from
from-both r q j zero m =
    let a : 0 + m ≡ m = omega arith in
    let b : j + 0 ≡ j = omega arith in
    rw (a, b)
from-both r q j (suc n) m =
    let a : suc n + m ≡ suc (n + m) = omega arith in
    let b : j + suc n ≡ suc j + n = omega arith in
    rw (a, b, from-both r q (suc j) n m) (sym (append_assoc (words_kept r q j) (words_from r q (suc j) n) (words_from r q (suc j + n) m)))

from_next : (r q : Record) (n : ℕ) → words_from r q 0 (n + 1) ≡ words_from r q 0 n ++ words_kept r q n
unfolding words_from
from_next r q n =
    let b : 0 + n ≡ n = omega arith in
    from-both r q 0 n 1 ∙ rw b (ap (λ (l : List ℕ). words_from r q 0 n ++ l) (append-nil (words_kept r q n)))

-- words laid at the seam of others and zeros
at_seam : (before ws : List ℕ) (at n m : ℕ) → length before ≡ at → length ws ≡ n → overwrite (before ++ replicate (n + m) 0) at ws ≡ (before ++ ws) ++ replicate m 0
unfolding overwrite
at_seam before ws at n m a e =
    rw (
      take_at before (replicate (n + m) 0) at a,
      e,
      ← drop-drop n at (before ++ replicate (n + m) 0),
      drop_at before (replicate (n + m) 0) at a,
      ← replicate-append-replicate {A = ℕ} n m 0,
      drop_at (replicate n 0) (replicate m 0) n (length-replicate {A = ℕ} n 0),
    ) (sym (append_assoc before ws (replicate m 0)))

-- the marks when the first j places have theirs
abbrev pub kept_so_far : (r q : Record) (j : ℕ) → List ℕ
kept_so_far r q j = words_from r q 0 j ++ replicate (module_words * (most_modules - j)) 0

pub none_so_far : (r q : Record) → replicate mark_words 0 ≡ kept_so_far r q 0
unfolding words_from
none_so_far r q = refl

-- a place is laid with its words, whichever they are
laid_next : (r : Record) → length r.marks ≡ mark_words → modules_in r ≤ most_modules → (q : Record) (j : ℕ) → j < most_modules
    → overwrite (kept_so_far r q j) (module_words * j) (words_kept r q j) ≡ kept_so_far r q (j + 1)
laid_next r long few q j h =
    let a : module_words * (most_modules - j) ≡ module_words + module_words * (most_modules - (j + 1)) = omega arith in
    rw (a, from_next r q j)
    (at_seam (words_from r q 0 j) (words_kept r q j) (module_words * j) module_words (module_words * (most_modules - (j + 1))) (from_length r long few q 0 j) (words_length r long few q j))

module _ (r : Record) (long : length r.marks ≡ mark_words) (few : modules_in r ≤ most_modules) (q : Record) (j : ℕ) where
  pub so_far_length : j ≤ most_modules → length (kept_so_far r q j) ≡ mark_words
  so_far_length h =
      let a = length-append (words_from r q 0 j) (replicate (module_words * (most_modules - j)) 0) in
      let b = from_length r long few q 0 j in
      let e = length-replicate {A = ℕ} (module_words * (most_modules - j)) 0 in
      omega arith

  -- a module that is the same brings its words
  pub kept_next : j < most_modules → (marks next : List ℕ) (i : ℕ) → marks ≡ kept_so_far r q j → i ≡ place_before r q j → same_at r q i j ≡ true
      → next ≡ overwrite marks (module_words * j) (take (module_words * i + module_words - module_words * i) (drop (module_words * i) r.marks)) → next ≡ kept_so_far r q (j + 1)
  unfolding words_kept
  kept_next h marks next i m p s e =
      let n = module_words * i + module_words - module_words * i in
      let w : n ≡ module_words = add-sub_cancel_left (module_words * i) module_words in
      let t : is_kept r q j ≡ true = ap (λ (k : ℕ). same_at r q k j) (sym p) ∙ s in
      let v : take n (drop (module_words * i) r.marks) ≡ words_kept r q j = rw (t, w, p) in
      e ∙ rw (v, m) (laid_next r long few q j h)

  -- another has none
  pub left-next : j < most_modules → (marks next : List ℕ) (i : ℕ) → marks ≡ kept_so_far r q j → i ≡ place_before r q j → same_at r q i j ≡ false
      → next ≡ marks → next ≡ kept_so_far r q (j + 1)
  unfolding words_kept
  left-next h marks next i m p s e =
      let t : is_kept r q j ≡ false = ap (λ (k : ℕ). same_at r q k j) (sym p) ∙ s in
      let z : words_kept r q j ≡ replicate module_words 0 = rw t in
      let w = words_from r q 0 j in
      let k = module_words * (most_modules - (j + 1)) in
      let a : module_words * (most_modules - j) ≡ module_words + k = omega arith in
      e ∙ m ∙ rw (a, from_next r q j, z, ← replicate-append-replicate {A = ℕ} module_words k 0) (sym (append_assoc w (replicate module_words 0) (replicate k 0)))

  -- all modules of the record after have theirs
  pub all-so_far : j ≤ most_modules → modules_in q ≤ j → kept_so_far r q j ≡ marks_kept r q
  unfolding marks_kept
  all-so_far h k =
      let a : most_modules ≡ j + (most_modules - j) = omega arith in
      let b : 0 + j ≡ j = omega arith in
      let z : words_from r q (0 + j) (most_modules - j) ≡ replicate (module_words * (most_modules - j)) 0 = rw b (none_from r long few q j (most_modules - j) k) in
      let o : words_from r q 0 most_modules ≡ words_from r q 0 (j + (most_modules - j)) = ap (words_from r q 0) a in
      sym (o ∙ from-both r q 0 j (most_modules - j) ∙ ap (λ (l : List ℕ). words_from r q 0 j ++ l) z)
