-- The record of an announcement, one module at a time, as the loop makes it.
use Prim.Native.Nat.{ℕ, zero, suc, ◌+◌, ◌-◌, ◌≤◌, ◌<◌}
use mathlib.Core.Path.{◌≡◌, refl, sym, ap, ◌∙◌}
use mathlib.Core.List.{List, [], ◌∷◌}
use native.Mathlib.Numerals.{add-one}
use native.Mathlib.Omega.{arith}
use lib.ListN.{length, get_or, set, take, drop, replicate, length-replicate}
use lib.Seq.{paste, paste-zero, paste-suc, take-length}
use Rattle.carousel_record.specs.Marks.{mark_words}
use Rattle.carousel_messages.specs.declared.Listed.{Listed}
use Rattle.carousel_messages.specs.declared.Announcement.{Announcement}
use Rattle.carousel_messages.specs.Limits.{most_modules, total}
use Rattle.carousel_messages.specs.Heard.{Announced, none_listed, list_of, announced_in, sizes_of}
use Rattle.carousel_record.specs.declared.Module.{Module}
use Rattle.carousel_record.specs.declared.Carousel.{Carousel}
use Rattle.carousel_record.specs.Record.{record_of, unused}
use Rattle.carousel_record.specs.Keeping.{marks_kept}
use Rattle.carousel_record.specs.Changes.{empty_record, entries, bare_record, made_afresh}

-- the record of an announcement with its first i modules in it
abbrev pub filled : Announcement → List Listed → ℕ → Carousel
filled a ms i = record { download = a.download; block_size = a.block_size; count = a.count; modules = paste (replicate most_modules unused) 0 (entries 0 ms) i; marks = replicate mark_words 0 }

-- the sizes of the first i modules together
abbrev pub before : List Listed → ℕ → ℕ
before ms i = total (sizes_of (take i ms))

pub filled_none : (a : Announcement) (ms : List Listed)
    → record { download = a.download; block_size = a.block_size; count = a.count; modules = empty_record.modules; marks = empty_record.marks } ≡ filled a ms 0
unfolding empty_record
filled_none a ms =
    ap
    (λ (l : List Module). record { download = a.download; block_size = a.block_size; count = a.count; modules = l; marks = replicate mark_words 0 })
    (paste-zero (replicate most_modules unused) 0 (entries 0 ms))

pub before-next : (ms : List Listed) (i : ℕ) → i < length ms → before ms (i + 1) ≡ before ms i + (get_or ms i none_listed).size
unfolding total
before-next [] i h = absurd (omega arith)
before-next (m ∷ ms) zero h = omega arith
before-next (m ∷ ms) (suc i) h = let e = before-next ms i (omega arith) in rw (add-one (suc i)) (let f : before ms (suc i) ≡ before ms (i + 1) = ap (before ms) (sym (add-one i)) in omega arith)

pub before_le : (ms : List Listed) (i : ℕ) → before ms i ≤ total (sizes_of ms)
unfolding total
before_le ms zero = omega arith
before_le [] (suc i) = omega arith
before_le (m ∷ ms) (suc i) = let e = before_le ms i in omega arith

entry_at : (s : ℕ) (ms : List Listed) (i : ℕ) → i < length ms
    → get_or (entries s ms) i unused ≡ record { number = (get_or ms i none_listed).number; size = (get_or ms i none_listed).size; version = (get_or ms i none_listed).version; start = s + before ms i }
unfolding entries total
entry_at s [] i h = absurd (omega arith)
entry_at s (m ∷ ms) zero h = ap (λ (n : ℕ). record { number = m.number; size = m.size; version = m.version; start = n }) (omega arith)
entry_at s (m ∷ ms) (suc i) h =
    entry_at (s + m.size) ms i (omega arith)
    ∙ ap (λ (n : ℕ). record { number = (get_or ms i none_listed).number; size = (get_or ms i none_listed).size; version = (get_or ms i none_listed).version; start = n }) (omega arith)

pub entries_length : (s : ℕ) (ms : List Listed) → length (entries s ms) ≡ length ms
unfolding entries
entries_length s [] = refl
entries_length s (m ∷ ms) = ap suc (entries_length (s + m.size) ms)

-- one module more
modules-next : (a : Announcement) (ms : List Listed) (i : ℕ) → i < length ms → i < most_modules
    → set (filled a ms i).modules i (record { number = (get_or ms i none_listed).number; size = (get_or ms i none_listed).size; version = (get_or ms i none_listed).version; start = before ms i })
    ≡ (filled a ms (i + 1)).modules
modules-next a ms i h k =
    let l = entries_length 0 ms in
    let m = length-replicate {A = Module} most_modules unused in
    let e = entry_at 0 ms i h in
    let z : 0 + before ms i ≡ before ms i = omega arith in
    let o : i ≡ 0 + i = omega arith in
    let f : get_or (entries 0 ms) i unused ≡ record {
      number = (get_or ms i none_listed).number;
      size = (get_or ms i none_listed).size;
      version = (get_or ms i none_listed).version;
      start =
          before ms i;
    } =
    e ∙ ap (λ (n : ℕ). record { number = (get_or ms i none_listed).number; size = (get_or ms i none_listed).size; version = (get_or ms i none_listed).version; start = n }) z in
    rw (add-one i) (ap (λ (x : Module). set (filled a ms i).modules i x) (sym f)
    ∙ ap (λ (n : ℕ). set (filled a ms i).modules n (get_or (entries 0 ms) i unused)) o
    ∙ paste-suc (replicate most_modules unused) 0 (entries 0 ms) i unused (omega arith) (omega arith))

pub filled_next : (a : Announcement) (ms : List Listed) (i : ℕ) → i < length ms → i < most_modules → (next : Carousel) (l : Listed) (e : Module)
    → next ≡ filled a ms i → l ≡ get_or ms i none_listed → e ≡ record { number = l.number; size = l.size; version = l.version; start = before ms i }
    → record { download = next.download; block_size = next.block_size; count = next.count; modules = set next.modules i e; marks = next.marks } ≡ filled a ms (i + 1)
filled_next a ms i h k next l e n f g =
    rw (n, g, f)
    (ap (λ (x : List Module). record { download = a.download; block_size = a.block_size; count = a.count; modules = x; marks = replicate mark_words 0 }) (modules-next a ms i h k))

-- all of them
drop-unused : (n m : ℕ) → drop n (replicate m unused) ≡ replicate (m - n) unused
drop-unused zero m = let e : m ≡ m - 0 = omega arith in ap (λ (k : ℕ). replicate k unused) e
drop-unused (suc n) zero = let e : 0 ≡ 0 - suc n = omega arith in ap (λ (k : ℕ). replicate k unused) e
drop-unused (suc n) (suc m) = let e : m - n ≡ suc m - suc n = omega arith in drop-unused n m ∙ ap (λ (k : ℕ). replicate k unused) e

pub filled-all : (a : Announcement) (list : List ℕ) → a.count ≡ length (list_of list) → filled a (list_of list) a.count ≡ bare_record (announced_in a list)
unfolding bare_record announced_in
filled-all a list e =
    let l = entries_length 0 (list_of list) in
    let t : take (length (list_of list)) (entries 0 (list_of list)) ≡ entries 0 (list_of list) = ap (λ (n : ℕ). take n (entries 0 (list_of list))) (sym l) ∙ take-length (entries 0 (list_of list)) in
    let o : 0 + length (list_of list) ≡ length (list_of list) = omega arith in
    rw (e, t, o, drop-unused (length (list_of list)) most_modules)

-- and with the marks that are kept
pub made_so : (c : Carousel) (a : Announced) (next : Carousel) (marks : List ℕ) → next ≡ bare_record a → marks ≡ marks_kept (record_of c) (record_of next)
    → record { download = next.download; block_size = next.block_size; count = next.count; modules = next.modules; marks = marks } ≡ made_afresh c a
unfolding made_afresh
made_so c a next marks e m =
    (λ i. record { download = next.download; block_size = next.block_size; count = next.count; modules = next.modules; marks = m i })
    ∙ ap
    (λ (n : Carousel). record { download = n.download; block_size = n.block_size; count = n.count; modules = n.modules; marks = marks_kept (record_of c) (record_of n) })
    e
