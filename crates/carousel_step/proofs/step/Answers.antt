-- `carousel_step::step` meets its contract: 1 first, then what the section is, then what the record makes of it.
use Prim.Native.Nat.{ℕ, ◌+◌, ◌-◌, ◌≤◌}
use mathlib.Core.Path.{◌≡◌, sym, ap, ◌∙◌}
use mathlib.Core.Bool.{true}
use mathlib.Core.List.{List}
use native.Mathlib.Omega.{arith}
use lib.ListN.{length, take, drop}
use Rattle.carousel_record.specs.Marks.{mark_words}
use Rattle.wire.proofs.Laws.Finders.{part}
use Rattle.carousel_messages.specs.declared.Announcement.{Announcement}
use Rattle.carousel_messages.specs.declared.Message.TheVariants as message
use Rattle.std.proofs.Common.{Ok, Err}
use Rattle.carousel_messages.specs.Limits.{total, most_bytes, most_modules}
use Rattle.carousel_messages.specs.Judged.{judged_by, judged_of}
use Rattle.carousel_messages.specs.Heard.{span_of, list_of, announced_in, heard_in, heard_of, sizes_of}
use Rattle.carousel_messages.proofs.Laws.Heard.{announcement-inside, count-said, heard-small, block_inside, heard_limits}
use Rattle.carousel_record.specs.declared.Head.{Head}
use Rattle.carousel_record.specs.Record.{record_of, head_of, joined_of, ruled_of}
use Rattle.wire.specs.Tests.{first_met}
use Rattle.carousel_record.specs.declared.Carousel.{Carousel}
use Rattle.carousel_step.specs.declared.Stepped.{Stepped}
use Rattle.carousel_step.specs.Step.{Answered, on_announced, returning, stepped_of, image_of, number_of_answer, step_tests}
use Rattle.carousel_step.proofs.Exact.{step-number}
use Rattle.carousel_step.proofs.Held.{found-stands, held-answer, held_record, held-image}
use Rattle.carousel_record.proofs.Laws.Places.{bytes_most}
use Rattle.carousel_record.proofs.Laws.Rule.{ruled-count}
use Rattle.carousel_step.proofs.Laws.Outcomes.{announced-image, stepped-is, comes_broken, comes-refused, comes-announced, comes-carried}
use Rattle.carousel_step.proofs.step.Goals as goal
use Rattle.carousel_step.proofs.step.Goals.{After-judge_by-judged, After-struct_known-1, After-struct_known-in-Ok-Carried-1, Else-not-is_ruled, Start}

all_words : (s : Start) → length s.args.c.marks ≡ mark_words
all_words s = s.well_formed.0.1.1.1.1.1.1.0.1.0.1

all-entries : (s : Start) → length s.args.c.modules ≡ most_modules
all-entries s = s.well_formed.0.1.1.1.1.1.0.1.0.1

-- the record with other marks, by its own head
own-parts : (c : Carousel) (h : Head) (ws : List ℕ) → h ≡ head_of c → joined_of (head_of c) c.modules ws ≡ joined_of h c.modules ws
own-parts c h ws e = ap (λ (x : Head). joined_of x c.modules ws) (sym e)

ruled : (c : Else-not-is_ruled) → ruled_of c.args.c ≡ true
ruled c = sym c.is_ruled.ensures ∙ c.if-not-is_ruled.false

-- an answer and an image, with the answer's number
numbered : (c : Carousel) (s image : List ℕ) (r : Stepped) (l : List ℕ) → r ≡ stepped_of c s image → l ≡ image_of c s image
    → (r ≡ stepped_of c s image) × (l ≡ image_of c s image) × (number_of_answer r.answer ≡ first_met (step_tests c s image))
numbered c s image r l e f = (e, f, ap (λ (x : Stepped). number_of_answer x.answer) e ∙ step-number c s image)

-- what the section was judged to be
judged-is : (c : After-judge_by-judged) → c.judge_by-judged.result ≡ judged_of c.args.s.now
judged-is c = c.judge_by-judged.ensures ∙ ap (λ g. judged_by g c.args.s.now) c.crc_of.ensures

-- an announcement, and the bytes that its modules are read from
is-announced : (c : After-struct_known-1) → judged_of c.args.s.now ≡ Ok (message.Announced c.in-Ok-Announced.a)
is-announced c = sym (judged-is (goal.at.After-struct_known-1 c).After-judge_by-judged) ∙ c.in-Ok-Announced.is ∙ ap Ok (rw c.in-Ok-Announced.is at c.in-Ok-Announced.field-0-is)

abbrev announced : After-struct_known-1 → Announcement
announced c = c.in-Ok-Announced.a

list-is : (c : After-struct_known-1) → let a = announced c in
    take (a.part.start + a.part.size - a.part.start) (drop a.part.start c.args.s.now)
    ≡ span_of c.args.s.now a.part.start a.part.size
list-is c = part c.args.s.now (announced c).part.start (announced c).part.size

small : (c : After-struct_known-1) → let a = announced c in
    total (sizes_of (list_of (span_of c.args.s.now a.part.start a.part.size)))
    ≤ most_bytes
unfolding heard_of heard_in announced_in
small c =
    let a = announced c in
    let s = c.args.s.now in
    bytes_most a.block_size (list_of (span_of s a.part.start a.part.size)) (heard_limits s (announced_in a (span_of s a.part.start a.part.size)) (rw (is-announced c))).0

-- a block
is_carried : (c : After-struct_known-in-Ok-Carried-1) → judged_of c.args.s.now ≡ Ok (message.Carried c.in-Ok-Carried.b)
is_carried c = sym (judged-is (goal.at.After-struct_known-in-Ok-Carried-1 c).After-judge_by-judged) ∙ c.in-Ok-Carried.is ∙ ap Ok (rw c.in-Ok-Carried.is at c.in-Ok-Carried.field-0-is)

pub returns-then-not-is_ruled : goal.returns-then-not-is_ruled
returns-then-not-is_ruled c =
    let s = c.args in
    let p = stepped-is s.c s.s.now s.image.now _ (comes_broken s.c s.s.now s.image.now (sym c.is_ruled.ensures ∙ c.if-not-is_ruled.true)) in
    numbered _ _ _ _ _ (ap (λ (r : Answered). record { answer = r; state = s.c }) c.refuse.ensures ∙ sym p.0) (sym p.1)

pub overflow_add-e : goal.overflow_add-e
overflow_add-e c = let w = announcement-inside c.args.s.now (announced c) (is-announced c) in omega arith

pub slice_bounds-take_announcement-end : goal.slice_bounds-take_announcement-end
slice_bounds-take_announcement-end c = let w = announcement-inside c.args.s.now (announced c) (is-announced c) in omega arith

pub take_announcement-requires : goal.take_announcement-requires
take_announcement-requires c =
    let s = c.args in
    let e = is-announced (goal.at.take_announcement-requires c).After-struct_known-1 in (
      ruled-count s.c (ruled (goal.at.take_announcement-requires c).Else-not-is_ruled),
      heard-small s.s.now (announced (goal.at.take_announcement-requires c).After-struct_known-1) e,
      rw (list-is (goal.at.take_announcement-requires c).After-struct_known-1) (count-said s.s.now (announced (goal.at.take_announcement-requires c).After-struct_known-1) e),
      rw (list-is (goal.at.take_announcement-requires c).After-struct_known-1) (small (goal.at.take_announcement-requires c).After-struct_known-1),
    )

pub overflow_add-e-in-Ok-Carried : goal.overflow_add-e-in-Ok-Carried
overflow_add-e-in-Ok-Carried c = let w = block_inside c.args.s.now c.in-Ok-Carried.b (is_carried c) in omega arith

pub slice_bounds-take_block-end : goal.slice_bounds-take_block-end
slice_bounds-take_block-end c =
    let w = block_inside c.args.s.now c.in-Ok-Carried.b (is_carried (goal.at.slice_bounds-take_block-end c).After-struct_known-in-Ok-Carried-1) in
    omega arith

pub slice_bounds-take_block-end-in-Ok-Carried : goal.slice_bounds-take_block-end-in-Ok-Carried
slice_bounds-take_block-end-in-Ok-Carried c =
    sym (all_words (goal.at.slice_bounds-take_block-end-in-Ok-Carried c).Start)

pub returns-in-Err : goal.returns-in-Err
returns-in-Err c =
    let s = c.args in
    let e = sym (judged-is (goal.at.returns-in-Err c).After-judge_by-judged) ∙ c.in-Err.is in
    let p = stepped-is s.c s.s.now s.image.now _ (comes-refused s.c s.s.now s.image.now (ruled (goal.at.returns-in-Err c).Else-not-is_ruled) _ e) in
    numbered _ _ _ _ _ (sym p.0) (sym p.1)

pub returns-in-Ok-Announced : goal.returns-in-Ok-Announced
returns-in-Ok-Announced c =
    let s = c.args in
    let p = stepped-is s.c s.s.now s.image.now _ (comes-announced s.c s.s.now s.image.now (ruled (goal.at.returns-in-Ok-Announced c).Else-not-is_ruled) (announced
    (goal.at.returns-in-Ok-Announced c).After-struct_known-1) (is-announced (goal.at.returns-in-Ok-Announced c).After-struct_known-1)) in
    numbered _ _ _ _ _ (c.take_announcement.ensures
    ∙ ap (λ (l : List ℕ). returning s.c (on_announced (record_of s.c) (announced_in (announced (goal.at.returns-in-Ok-Announced c).After-struct_known-1) l))) (list-is
    (goal.at.returns-in-Ok-Announced c).After-struct_known-1) ∙ sym p.0)
    (sym (p.1 ∙ announced-image _ _ _))

pub returns-in-Ok-Carried : goal.returns-in-Ok-Carried
returns-in-Ok-Carried c =
    let s = c.args in
    let b = c.in-Ok-Carried.b in
    let u = ruled (goal.at.returns-in-Ok-Carried c).Else-not-is_ruled in
    let p = stepped-is s.c s.s.now s.image.now _ (comes-carried s.c s.s.now s.image.now u b (is_carried (goal.at.returns-in-Ok-Carried c).After-struct_known-in-Ok-Carried-1)) in
    let l = part s.s.now b.part.start b.part.size in
    let z = all-entries (goal.at.returns-in-Ok-Carried c).Start in
    let o = c.head_of-h.ensures in
    let e = c.take_block-answer.ensures in
    let f = found-stands s.c z u b.number _ c.slot_of-slot.ensures in
    let r = held-answer s.c z u s.image.now b _ _ _ _ o l f _ e.0 in
    let d = own-parts s.c _ _ o ∙ held_record s.c z u s.image.now b _ _ _ _ o l f _ e.1 in
    numbered _ _ _ _ _ ((λ i. record { answer = r i; state = d i }) ∙ sym p.0)
    (held-image s.c z u s.image.now b _ _ _ _ o l f _ e.2 ∙ sym p.1)
