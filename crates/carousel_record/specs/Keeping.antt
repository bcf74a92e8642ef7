-- WHAT A NEW ANNOUNCEMENT KEEPS. 02 §5: "a module with the same downloadId, blockSize, number, version, size and start as before keeps its marks; all others begin empty."
-- r is the record before, q the record after; a module is the one at place i of r, or at place j of q.
use Rattle.std.specs.Prelude.{ℕ, zero, suc, ◌*◌, ◌<◌, ◌≡◌, Bool, cond, ◌&&◌, List, [], ◌++◌, eqb, ltb, length, get_or, take, drop, replicate}
use Rattle.carousel_messages.specs.Limits.{most_modules}
use Rattle.carousel_record.specs.Marks.{module_words}
use Rattle.carousel_record.specs.Record.{Record, module_at, place_of}

abbrev pub modules_in : Record → ℕ
modules_in r = length r.announced.modules

abbrev pub place_for : Record → (number : ℕ) → ℕ
place_for r k = place_of r.announced k

abbrev pub start_at : Record → (place : ℕ) → ℕ
start_at r i = get_or r.starts i 0

-- "the same downloadId, blockSize, number, version, size and start": the test
unfoldable pub same_at : (r q : Record) (i j : ℕ) → Bool
same_at r q i j =
    ltb i (modules_in r)
    && ltb j (modules_in q)
    && eqb r.announced.download q.announced.download
    && eqb r.announced.block_size q.announced.block_size
    && eqb (module_at r.announced i).number (module_at q.announced j).number
    && eqb (module_at r.announced i).version (module_at q.announced j).version
    && eqb (module_at r.announced i).size (module_at q.announced j).size
    && eqb (start_at r i) (start_at q j)

-- The same spelled out, for a reader: six equalities. (A law says that it is.)
pub record SameAt (r q : Record) (i j : ℕ) : Type 0 where
  pub before : i < modules_in r
  pub now : j < modules_in q
  pub download : r.announced.download ≡ q.announced.download
  pub block_size : r.announced.block_size ≡ q.announced.block_size
  pub number : (module_at r.announced i).number ≡ (module_at q.announced j).number
  pub version : (module_at r.announced i).version ≡ (module_at q.announced j).version
  pub size : (module_at r.announced i).size ≡ (module_at q.announced j).size
  pub start : start_at r i ≡ start_at q j

-- of the module with number k, wherever each record has it
abbrev pub same_module : (r q : Record) (k : ℕ) → Bool
same_module r q k = same_at r q (place_for r k) (place_for q k)

abbrev pub SameModule : (r q : Record) (k : ℕ) → Type 0
SameModule r q k = SameAt r q (place_for r k) (place_for q k)

-- where the module at place j of q was: the place of its number in r
abbrev pub place_before : (r q : Record) (j : ℕ) → ℕ
place_before r q j = place_for r (module_at q.announced j).number

abbrev pub is_kept : (r q : Record) (j : ℕ) → Bool
is_kept r q j = same_at r q (place_before r q j) j

-- "keeps its marks": the words of one module's marks go from its old place to its new one; "all others begin empty"
abbrev pub words_at : Record → (place : ℕ) → List ℕ
words_at r i = take module_words (drop (module_words * i) r.marks)

unfoldable pub words_kept : (r q : Record) (j : ℕ) → List ℕ
words_kept r q j = cond (is_kept r q j) (words_at r (place_before r q j)) (replicate module_words 0)

-- those of n places from j on, one after another; and of all places, in use or not
unfoldable pub words_from : (r q : Record) (j n : ℕ) → List ℕ
words_from r q j zero = []
words_from r q j (suc n) = words_kept r q j ++ words_from r q (suc j) n

unfoldable pub marks_kept : (r q : Record) → List ℕ
marks_kept r q = words_from r q 0 most_modules
