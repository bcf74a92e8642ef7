-- `receiver::run` meets its contract. The invariant: the record in its parts is whole and keeps its rule, and the run from here on, after what was taken and passed, is the run of the
-- whole.
use Prim.Native.Nat.{ℕ, ◌+◌, ◌-◌, ◌≤◌, ◌<◌}
use mathlib.Core.Path.{◌≡◌, refl, sym, ap, ap₂, ◌∙◌}
use mathlib.Core.Bool.{true}
use mathlib.Core.List.{List, map}
use Rattle.std.proofs.Common.{rules, Option, Ok}
use native.Mathlib.Omega.{arith}
use lib.ListN.{length, take, drop, length-drop, length-map}
use lib.Seq.{length-take-le}
use Rattle.wire.proofs.Laws.Sizes.{sized-none, sized-has}
use Rattle.wire.proofs.Laws.Loops.{tail}
use Rattle.wire.proofs.Laws.Finders.{part}
use Rattle.crc_tables.proofs.Laws.Right.{Bytes, lent}
use Rattle.carousel_messages.specs.declared.Block.{Block}
use Rattle.carousel_messages.specs.declared.Message.TheVariants as message
use Rattle.carousel_messages.specs.Limits.{most_modules}
use Rattle.carousel_messages.specs.Heard.{found}
use Rattle.carousel_messages.specs.Judged.{judged_by, judged_of}
use Rattle.carousel_messages.proofs.Laws.Heard.{block_inside}
use Rattle.carousel_record.specs.declared.Carousel.{Carousel}
use Rattle.carousel_record.specs.declared.Head.{Head}
use Rattle.carousel_record.specs.declared.Module.{Module}
use Rattle.carousel_record.specs.declared.Slot.{Slot}
use Rattle.carousel_record.specs.Record.{announced_by, head_of, joined_of, number_in, place_among, slot_at, slot_of, ruled_of}
use Rattle.carousel_record.proofs.Laws.Entries.{found-entries}
use Rattle.carousel_step.proofs.Held.{joined-own, found-stands, held_record, held-image}
use Rattle.receiver.specs.declared.Stop.{Stop}
use Rattle.receiver.specs.declared.Given.{Given}
use Rattle.receiver.specs.declared.Ran.{Ran}
use Rattle.section.specs.Whole.{whole_at}
use Rattle.receiver.specs.Run.{stop_at, given_of, image_given, runs, run_of}
use Rattle.receiver.proofs.Runs.{given_rule}
use Rattle.receiver.proofs.Laws.Runs.{ahead, ahead_none, ahead-halted, run-state, run-ruled, runs-stop, runs_done, turned, ran-is}
use Rattle.receiver.proofs.Laws.Held.{Whole, given-refused, given-carried, part_bytes}
use Rattle.receiver.proofs.run.Goals as goal
use Rattle.receiver.proofs.run.Goals.{in-Err, in-Ok-Carried, in-Ok-Announced}
use Rattle.receiver.proofs.run.Goals.{After-hear-judged, After-marks-1, After-struct_known-in-Ok-Carried-1, In-Some, At-loop-taken, Else-not-ruled}

-- the block that a section carries
abbrev block : After-struct_known-in-Ok-Carried-1 → Block
block c =
    c.in-Ok-Carried.b

-- the record that is held
abbrev held : At-loop-taken → Carousel
held c = joined_of c.loop-taken.h c.loop-taken.ms c.loop-taken.marks

all-entries : (c : At-loop-taken) → length c.loop-taken.ms ≡ most_modules
all-entries c = sym (length-map c.loop-taken.ms number_in) ∙ ap length (sym c.loop-taken.invariant.3.0) ∙ c.loop-taken.invariant.3.1

ruled : (c : Else-not-ruled) → ruled_of c.args.c ≡ true
ruled c = sym c.is_ruled-ruled.ensures ∙ c.if-not-ruled.false

abbrev ending : Carousel → ℕ → ℕ → Stop → Ran
ending c t p x = record { passage = record { taken = t; passed = p; stop = x }; state = c }

-- the place: what is left of the stretch
rest : (c : At-loop-taken) → let s = c.args.stretch.now in take (length s - c.loop-taken.passed) (drop c.loop-taken.passed s) ≡ drop c.loop-taken.passed s
rest c = tail c.args.stretch.now c.loop-taken.passed

-- and the section that stands there
whole : (c : In-Some) → c.in-Some.n ≡ whole_at (drop c.loop-taken.passed c.args.stretch.now)
whole c = (sized-has _ _ c.in-Some.ensures.0).0 ∙ ap whole_at (rest (goal.at.In-Some c).At-loop-taken)

fits : (c : In-Some) → c.loop-taken.passed + c.in-Some.n ≤ length c.args.stretch.now
fits c =
    let l = ap length (rest (goal.at.In-Some c).At-loop-taken) in
    let m = length-drop c.loop-taken.passed c.args.stretch.now in
    let w = c.in-Some.ensures.1 in
    let i = c.loop-taken.invariant.0 in
    omega arith

abbrev section-at : In-Some → List ℕ
section-at c =
    let s = c.args.stretch.now in
    take c.in-Some.n (take (length s - c.loop-taken.passed) (drop c.loop-taken.passed s))

-- the register is its own, and so it is judged by it
bytes : (c : In-Some) → Bytes (section-at c)
bytes c =
    let s = c.args.stretch.now in
    part_bytes c.in-Some.n (length s - c.loop-taken.passed) c.loop-taken.passed s (λ i. (c.shared_slice_known-1.given i).fits)

judged-is : (c : After-hear-judged) → c.hear-judged.result ≡ judged_of (section-at (goal.at.After-hear-judged c).In-Some)
judged-is c =
    c.hear-judged.ensures ∙ ap (λ (g : ℕ). judged_by g (section-at (goal.at.After-hear-judged c).In-Some)) (lent _
    (section-at (goal.at.After-hear-judged c).In-Some) _ c.tables-tables.ensures (bytes (goal.at.After-hear-judged c).In-Some) c.crc_by.ensures)

-- the invariant after one section more: x is the record in its parts, l the image
one_more_lem : (c : After-hear-judged) (h : Head) (ms : List Module) (numbers marks l : List ℕ) →
    let a = c.args in
    let image = c.loop-taken.image in
    let d = held (goal.at.After-hear-judged c).At-loop-taken in
    let s = section-at (goal.at.After-hear-judged c).In-Some in
    let t = c.loop-taken.taken + 1 in
    let p = c.loop-taken.passed + c.in-Some.n in
    length l ≡ length image → Whole h ms numbers marks → joined_of h ms marks ≡ (given_of d s image).state → l ≡ image_given d s image
    → (p ≤ length a.stretch.now)
    × (t ≤ a.budget)
    × (length l ≡ length a.image.now)
    × (Whole h ms numbers marks)
    × (ahead t p (runs (a.budget - t) (joined_of h ms marks) (drop p a.stretch.now) l) ≡ runs a.budget (joined_of c.head_of-h.result a.c.modules a.c.marks) a.stretch.now a.image.now)
one_more_lem c h ms numbers marks l same_length k e f =
    let a = c.args in
    let i = c.loop-taken in
    let w = (goal.at.After-hear-judged c).In-Some in
    let at = (goal.at.After-hear-judged c).At-loop-taken in (
      fits w,
      omega arith,
      same_length ∙ i.invariant.2,
      k,
      turned a.stretch.now i.image (held at) i.taken i.passed a.budget _ _ _ (section-at w) (ap (take c.in-Some.n) (rest at)) e f (whole w)
          (sized-has _ _ c.in-Some.ensures.0).1 (omega arith) ∙ i.invariant.4,
    )

pub returns-then-not-ruled : goal.returns-then-not-ruled
returns-then-not-ruled c =
    let s = c.args in
    let p = ran-is s.c s.stretch.now s.image.now s.budget _ _ _ _ _
    (run-state s.c s.stretch.now s.image.now s.budget (sym c.is_ruled-ruled.ensures
    ∙ c.if-not-ruled.true)) in
    (c.ended.ensures ∙ p.0, p.1)

-- where a module's number is found among the numbers, it is in the record
said : (h : Head) (ms : List Module) (numbers marks : List ℕ) (k : ℕ) (o : Option Slot) → numbers ≡ map number_in ms
    → o ≡ slot_at (found (place_among k (take h.count numbers)) (length (take h.count numbers))) ms → o ≡ slot_of (joined_of h ms marks) k
unfolding announced_by
said h ms numbers marks k o e f =
    f ∙ ap (λ (ns : List ℕ). slot_at (found (place_among k (take h.count ns)) (length (take h.count ns))) ms) e ∙ ap (λ (p : Option ℕ). slot_at p ms) (found-entries k h.count ms)

-- other marks leave the head as it is
same_head : (h : Head) (ms : List Module) (ws us : List ℕ) → h ≡ head_of (joined_of h ms ws) → h ≡ head_of (joined_of h ms us)
unfolding announced_by
same_head h ms ws us e = e

-- the record in its parts, as it is taken apart: h is its head, numbers those of its entries
apart : (d : Carousel) (h : Head) (numbers : List ℕ) → h ≡ head_of d → numbers ≡ map number_in d.modules → length numbers ≡ most_modules → ruled_of d ≡ true
    → (Whole h d.modules numbers d.marks) × (joined_of h d.modules d.marks ≡ d)
apart d h numbers e f l r =
    let j = ap (λ (x : Head). joined_of x d.modules d.marks) e ∙ joined-own d in
    ((f, l, e ∙ ap head_of (sym j), ap ruled_of j ∙ r), j)

begun : (c : After-marks-1) → let d = c.args.c in
    let h = c.head_of-h.result in
    (Whole h d.modules c.numbers_of-numbers.result d.marks) × (joined_of h d.modules d.marks ≡ d)
begun c =
    apart c.args.c _ _ c.head_of-h.ensures c.numbers_of-numbers.ensures (search rules) (ruled (goal.at.After-marks-1 c).Else-not-ruled)

pub loop-taken-init : goal.loop-taken-init
loop-taken-init c =
    let s = c.args in
    let h = c.head_of-h.result in
    let d = joined_of h s.c.modules s.c.marks in
    let k : s.budget - 0 ≡ s.budget = omega arith in (
      omega arith,
      omega arith,
      refl,
      (begun c).0,
      ap (λ (n : ℕ). ahead 0 0 (runs n d s.stretch.now s.image.now)) k ∙ sym (ahead_none (runs s.budget d s.stretch.now s.image.now)),
    )

-- the run of the whole is that of the parts
run-of-parts : (c : At-loop-taken) → let s = c.args in
    let h = c.head_of-h.result in
    run_of s.c s.stretch.now s.image.now s.budget ≡ runs s.budget (joined_of h s.c.modules s.c.marks) s.stretch.now s.image.now
run-of-parts c =
    let s = c.args in
    run-ruled s.c s.stretch.now s.image.now s.budget (ruled (goal.at.At-loop-taken c).Else-not-ruled)
    ∙ ap (λ (d : Carousel). runs s.budget d s.stretch.now s.image.now) (sym (begun (goal.at.At-loop-taken c).After-marks-1).1)

pub returns-in_default : goal.returns-in_default
returns-in_default c =
    let s = c.args in
    let l = c.loop-taken in
    let at = (goal.at.returns-in_default c).At-loop-taken in
    let z = ap whole_at (sym (rest at)) ∙ sized-none _ c.in_default.ensures.0 in
    let e = run-of-parts at ∙ sym l.invariant.4 ∙ ap (ahead l.taken l.passed) (runs-stop _ _ _ _ z) ∙ ahead-halted l.taken l.passed _ _ _ in
    let p = ran-is s.c s.stretch.now s.image.now s.budget _ _ _ _ _ e in (
      c.ended-in_default.ensures ∙ ap₂ (λ (d : Carousel) (x : Stop). ending d l.taken l.passed x) c.joined.ensures (c.stop_at.ensures ∙ ap stop_at (rest at)) ∙ p.0,
      p.1,
    )

section-long : (c : In-Some) → length (section-at c) ≡ c.in-Some.n
section-long c = length-take-le _ _ c.in-Some.ensures.1

long : (c : In-Some) → c.in-Some.n < 18446744073709551616
long c = let f = fits c in omega arith

-- A BLOCK, of the section in the bytes that it says
carried : (c : After-struct_known-in-Ok-Carried-1) →
    judged_of (section-at (goal.at.After-struct_known-in-Ok-Carried-1 c).In-Some) ≡ Ok (message.Carried (block c))
carried c =
    sym (judged-is (goal.at.After-struct_known-in-Ok-Carried-1 c).After-hear-judged) ∙ c.in-Ok-Carried.is ∙ ap Ok (rw c.in-Ok-Carried.is at c.in-Ok-Carried.field-0-is)

inside : (c : After-struct_known-in-Ok-Carried-1) → let s = section-at (goal.at.After-struct_known-in-Ok-Carried-1 c).In-Some in (block c).part.start + (block c).part.size ≤ length s
inside c = block_inside (section-at (goal.at.After-struct_known-in-Ok-Carried-1 c).In-Some) (block c) (carried c)

pub overflow_add-e : goal.overflow_add-e
overflow_add-e c =
    let w = inside c in
    let l = section-long (goal.at.overflow_add-e c).In-Some in
    let b = long (goal.at.overflow_add-e c).In-Some in
    omega arith

pub slice_bounds-take_block-end : goal.slice_bounds-take_block-end
slice_bounds-take_block-end c = let w = inside c in omega arith

pub loop-taken-preserved : goal.loop-taken-preserved
loop-taken-preserved c =
    let l = c.loop-taken in
    let j = (goal.at.loop-taken-preserved c).After-hear-judged in
    let d = held (goal.at.loop-taken-preserved c).At-loop-taken in
    let entries = all-entries (goal.at.loop-taken-preserved c).At-loop-taken in
    let s = section-at (goal.at.loop-taken-preserved c).In-Some in
    let r = l.invariant.3.3 in
    elim c.match-judged.branch [
      | in-Err w ↦
          let g = given-refused d s l.image r _ (sym (judged-is j) ∙ w.in-Err.is) in
          rw (w.image-is, w.h-is, w.ms-is, w.numbers-is, w.marks-is) (one_more_lem j l.h l.ms l.numbers l.marks l.image refl l.invariant.3 (sym g.0) (sym g.1))
      | in-Ok-Carried w ↦
          let b = w.in-Ok-Carried.b in
          let o = found-stands d entries r b.number _ (said l.h l.ms l.numbers l.marks b.number _ l.invariant.3.0 w.slot_in-slot.ensures) in
          let p = part s b.part.start b.part.size in
          let e = w.take_block.ensures in
          let k : judged_of s ≡ Ok (message.Carried b) = sym (judged-is j) ∙ w.in-Ok-Carried.is ∙ ap Ok (rw w.in-Ok-Carried.is at w.in-Ok-Carried.field-0-is) in
          let g = given-carried d s l.image r b k in
          let n = held_record d entries r l.image b _ _ l.h _ l.invariant.3.2 p o _ e.1 in
          rw (w.image-is, w.h-is, w.ms-is, w.numbers-is, w.marks-is)
          (one_more_lem j l.h l.ms l.numbers _ _ w.take_block.auto.image
          (l.invariant.3.0, l.invariant.3.1, same_head l.h l.ms l.marks _ l.invariant.3.2, ap ruled_of (n ∙ sym g.0) ∙ given_rule d s l.image r)
          (n ∙ sym g.0)
          (held-image d entries r l.image b _ _ l.h _ l.invariant.3.2 p o _ e.2 ∙ sym g.1))
      | in-Ok-Announced w ↦
          let m = w.joined-in-Ok-Announced.ensures in
          let g = w.give-g.ensures in
          let e = ap (λ (y : Given). y.state) g.0 ∙ ap (λ (d : Carousel). (given_of d s l.image).state) m in
          let a = apart _ _ _ w.head_of-h-in-Ok-Announced.ensures w.numbers_of-numbers-in-Ok-Announced.ensures (search rules) (ap ruled_of e ∙ given_rule d s l.image r) in
          rw (w.image-is, w.h-is, w.ms-is, w.numbers-is, w.marks-is)
          (one_more_lem j _ _ _ _ _ w.give-g.auto.image a.0 (a.1 ∙ e) (g.1 ∙ ap (λ (d : Carousel). image_given d s l.image) m))
    ]

pub returns : goal.returns
returns c =
    let s = c.args in
    let l = c.loop-taken in
    let t : l.taken ≡ s.budget = omega arith in
    let e = run-of-parts (goal.at.returns c).At-loop-taken ∙ sym l.invariant.4 ∙ ap (ahead l.taken l.passed) (runs_done (s.budget - l.taken) _ _ _ (omega arith))
    ∙ ahead-halted l.taken l.passed _ _ _ in
    let p = ran-is s.c s.stretch.now s.image.now s.budget _ _ _ _ _ e in (
      c.ended-2.ensures ∙ ap₂ (λ (d : Carousel) (x : Stop). ending d s.budget l.passed x) c.joined-2.ensures (c.stop_at-2.ensures ∙ ap stop_at (rest (goal.at.returns c).At-loop-taken))
          ∙ ap (λ (n : ℕ). ending (held (goal.at.returns c).At-loop-taken) n l.passed (stop_at (drop l.passed s.stretch.now))) (sym t) ∙ p.0,
      p.1,
    )
