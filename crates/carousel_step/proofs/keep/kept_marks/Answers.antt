-- `carousel_step::keep::kept_marks` meets its contract. The invariant: the first j places have the words that are theirs, and all others none.
use mathlib.Core.Bool.{true, cond}
use Prim.Native.Nat.{ℕ, ◌+◌, ◌-◌, ◌*◌, ◌≤◌, ◌<◌}
use mathlib.Core.Path.{◌≡◌, sym, ap, ◌∙◌}
use native.Mathlib.Omega.{arith}
use lib.ListN.{length, get_or, drop, length-take}
use Rattle.std.proofs.Common.{Some, None}
use Rattle.carousel_messages.specs.Limits.{most_modules}
use Rattle.carousel_record.specs.Marks.{module_words, mark_words}
use Rattle.carousel_record.specs.Record.{announced_by, record_of, place_of, unused}
use Rattle.carousel_record.specs.Keeping.{modules_in, same_at, place_before}
use Rattle.carousel_record.proofs.Laws.Says.{says-count}
use Rattle.carousel_step.specs.Held.{still_at}
use Rattle.carousel_step.proofs.Laws.Keeping.{none_so_far, kept_next, left-next, all-so_far, all-emptied, still-is, still-has, still-none, slot-is, was-at}
use Rattle.carousel_step.proofs.keep.kept_marks.Goals as goal
use Rattle.carousel_step.proofs.keep.kept_marks.Goals.{After-still_at, Else-c-next, Else-c-next-2, Start, in-Some, in_default}

-- both records have as many entries, and the one before as many words, as there are
all_words : (s : Start) → length s.args.c.marks ≡ mark_words
all_words s = s.well_formed.0.1.1.1.1.1.1.0.1.0.1

all-before : (s : Start) → length s.args.c.modules ≡ most_modules
all-before s = s.well_formed.0.1.1.1.1.1.0.1.0.1

all-now : (s : Start) → length s.args.next.modules ≡ most_modules
all-now s = s.well_formed.1.0.1.1.1.1.1.0.1.0.1

few-before : (s : Start) → modules_in (record_of s.args.c) ≤ most_modules
few-before s = let u = says-count s.args.c (all-before s) s.requires.0 in omega (arith, s.requires.0)

-- where the module that the turn looks at was
abbrev was : After-still_at → ℕ
was c = place_of (announced_by c.args.c) (get_or c.args.next.modules c.loop-j.j unused).number

before : (c : After-still_at) → was c ≡ place_before (record_of c.args.c) (record_of c.args.next) c.loop-j.j
before c =
    let s = (goal.at.After-still_at c).Start in
    was-at c.args.c c.args.next c.loop-j.j (all-before s) (all-now s) c.requires.0 c.requires.1 c.if-c-next.false c.if-c-next-2.false c.loop-j-test.true

-- and whether it is the same
told : (c : After-still_at) → c.still_at.result ≡ cond (same_at (record_of c.args.c) (record_of c.args.next) (was c) c.loop-j.j) (Some (was c)) None
told c =
    let s = (goal.at.After-still_at c).Start in
    c.still_at.ensures
    ∙ ap (λ o. still_at o (get_or c.args.next.modules c.loop-j.j unused)) (c.slot_in-slot.ensures ∙ slot-is c.args.c _ _ c.numbers_of-numbers.ensures)
    ∙ still-is c.args.c c.args.next c.loop-j.j (all-before s) (all-now s) c.requires.0 c.requires.1 c.if-c-next.false c.if-c-next-2.false c.loop-j-test.true

pub returns-then-c-next : goal.returns-then-c-next
unfolding announced_by
returns-then-c-next c = let a = c.args in all-emptied (record_of a.c) (record_of a.next) (λ i j s. c.if-c-next.true s.download)

pub returns-then-c-next-2 : goal.returns-then-c-next-2
unfolding announced_by
returns-then-c-next-2 c =
    let a = c.args in
    all-emptied (record_of a.c) (record_of a.next) (λ i j s. c.if-c-next-2.true s.block_size)

pub loop-j-init : goal.loop-j-init
loop-j-init c = none_so_far (record_of c.args.c) (record_of c.args.next)

pub loop-j-preserved : goal.loop-j-preserved
loop-j-preserved c =
    let l = c.loop-j in
    let s = (goal.at.loop-j-preserved c).Start in
    let k = (goal.at.loop-j-preserved c).After-still_at in
    elim c.match-still_at.branch [
      | in-Some w ↦
          let e = still-has _ _ _ (sym w.in-Some.is ∙ told k) in
          kept_next (record_of c.args.c) (all_words s) (few-before s) (record_of c.args.next) l.j (omega (arith, c.requires.1)) l.marks _ w.in-Some.i l.invariant (e.0 ∙ before k)
          (ap (λ (i : ℕ). same_at (record_of c.args.c) (record_of c.args.next) i l.j) e.0 ∙ e.1) (w.marks-is ∙ w.put_words.ensures)
      | in_default w ↦
          left-next (record_of c.args.c) (all_words s) (few-before s) (record_of c.args.next) l.j (omega (arith, c.requires.1)) l.marks _ (was k) l.invariant (before k)
          (still-none _ _ (sym w.in_default.is ∙ told k)) w.marks-is
    ]

pub returns : goal.returns
returns c =
    let l = c.loop-j in
    let s = (goal.at.returns c).Start in
    let n = says-count c.args.next (all-now s) c.requires.1 in
    l.invariant ∙ all-so_far (record_of c.args.c) (all_words s) (few-before s) (record_of c.args.next) l.j (omega (arith, c.requires.1)) (omega arith)
