-- `carousel_step::store::take_block` meets its contract: 12 to 16, each after the one before it; what none of them meets is put.
use Prim.Native.Nat.{ℕ, suc, ◌*◌, ◌<◌}
use mathlib.Core.Path.{◌≡◌, refl, sym, ap, ◌∙◌}
use mathlib.Core.Bool.{true, false, not}
use borrow.Author.Tests.{lt-ltb, le-ltb}
use native.Mathlib.Omega.{arith}
use native.Mathlib.Nat.{mul-le-mul_right}
use lib.ListN.{length}
use Rattle.section.specs.Answer.{refused}
use Rattle.carousel_messages.specs.Heard.{Arrived, arrived_in}
use Rattle.std.proofs.Common.{Err, Some, None}
use Rattle.carousel_step.specs.Step.{Answered, StepOutcome, answer_of, image_after}
use Rattle.carousel_step.specs.Held.{slot_entry, is_past, held_refusal, held_outcome, marks_after}
use Rattle.carousel_step.proofs.Laws.Outcomes.{is-12-none, is-12, is-13, is-14, is-15, is-16, is-matching, held_bad, held-good}
use Rattle.carousel_step.proofs.store.take_block.Goals as goal
use Rattle.carousel_step.proofs.store.take_block.Goals.{In-Some, After-struct_known-9-1, Else-h-b, Else-m-b, Else-n-place, Else-not-is_block, Start}

-- the block, and the places that stand before a place
abbrev d : Start → Arrived
d s = arrived_in s.args.b s.args.bytes.now

-- what is known at each place
its : (c : Else-h-b) → c.args.h.download ≡ (d (goal.at.Else-h-b c).Start).download
unfolding arrived_in
its c = c.if-h-b.false

same : (c : Else-m-b) → c.in-Some.found.entry.version ≡ (d (goal.at.Else-m-b c).Start).version
unfolding arrived_in
same c = c.if-m-b.false

-- the entry that was found is one of those that are counted
among : (c : Else-n-place) → is_past c.args.h.count (Some c.in-Some.found) ≡ false
among c = ap not (lt-ltb c.in-Some.found.place c.args.h.count c.if-n-place.false)

-- of the entry that was found
there : (c : In-Some) (k : ℕ) → held_refusal c.args.h (Some c.in-Some.found) (length c.args.image.now) (d (goal.at.In-Some c).Start) ≡ k
    → held_refusal c.args.h c.args.slot (length c.args.image.now) (d (goal.at.In-Some c).Start) ≡ k
there c k e = ap (λ o. held_refusal c.args.h o (length c.args.image.now) (d (goal.at.In-Some c).Start)) c.in-Some.is ∙ e

matches : (c : Else-not-is_block) → held_refusal c.args.h c.args.slot (length c.args.image.now) (d (goal.at.Else-not-is_block c).Start) ≡ 0
unfolding arrived_in
matches c =
    let a = c.args in
    there (goal.at.Else-not-is_block c).In-Some _ (is-matching a.h (Some c.in-Some.found) (length a.image.now) (d (goal.at.Else-not-is_block c).Start) c.if-n-eq0.false (its
    (goal.at.Else-not-is_block c).Else-h-b) (among (goal.at.Else-not-is_block c).Else-n-place) (same
    (goal.at.Else-not-is_block c).Else-m-b) c.if-image-h.false
    (sym c.is_block.ensures ∙ c.if-not-is_block.false))

-- a refusal, with nothing changed
module _ (s : Start) (k : ℕ) (r : Answered) (f : r ≡ Err (refused (suc k)))
    (e : held_refusal s.args.h s.args.slot (length s.args.image.now) (d s) ≡ suc k) where
  abbrev comes : StepOutcome
  comes = let a = s.args in held_outcome a.h a.slot a.marks.now a.image.now (d s)

  refuses : (r ≡ answer_of comes) × (s.args.marks.now ≡ marks_after s.args.marks.now comes) × (s.args.image.now ≡ image_after s.args.image.now comes)
  refuses =
      let a = s.args in
      rw (held_bad a.h a.slot a.marks.now a.image.now (d s) (suc k) e (λ z. omega (arith, z))) (f, refl, refl)

pub returns-then-n-eq0 : goal.returns-then-n-eq0
returns-then-n-eq0 c =
    let a = c.args in
    refuses (goal.at.returns-then-n-eq0 c).Start 11 _ c.refuse.ensures (is-12-none a.h a.slot (length a.image.now) (d (goal.at.returns-then-n-eq0 c).Start) c.if-n-eq0.true)

pub returns-then-h-b : goal.returns-then-h-b
unfolding arrived_in
returns-then-h-b c =
    let a = c.args in
    refuses (goal.at.returns-then-h-b c).Start 11 _ c.refuse-then-h-b.ensures (is-12 a.h a.slot (length a.image.now) (d (goal.at.returns-then-h-b c).Start) c.if-n-eq0.false (λ z. omega
    (arith, z, c.if-h-b.true)))

pub returns-in_default : goal.returns-in_default
returns-in_default c =
    let a = c.args in
    refuses (goal.at.returns-in_default c).Start 12 _ c.refuse-in_default.ensures (is-13 a.h a.slot (length a.image.now) (d (goal.at.returns-in_default c).Start) c.if-n-eq0.false (its
    (goal.at.returns-in_default c).Else-h-b) (ap (is_past a.h.count) c.in_default.is))

pub returns-then-n-place : goal.returns-then-n-place
returns-then-n-place c =
    let a = c.args in
    refuses (goal.at.returns-then-n-place c).Start 12 _ c.refuse-then-n-place.ensures (there (goal.at.returns-then-n-place c).In-Some _ (is-13 a.h (Some c.in-Some.found) (length a.image.now) (d
    (goal.at.returns-then-n-place c).Start) c.if-n-eq0.false (its
    (goal.at.returns-then-n-place c).Else-h-b) (ap not (le-ltb c.in-Some.found.place c.args.h.count c.if-n-place.true))))

pub returns-then-m-b : goal.returns-then-m-b
unfolding arrived_in
returns-then-m-b c =
    let a = c.args in
    refuses (goal.at.returns-then-m-b c).Start 13 _ c.refuse-then-m-b.ensures
    (there (goal.at.returns-then-m-b c).In-Some _ (is-14 a.h (Some c.in-Some.found) (length a.image.now) (d (goal.at.returns-then-m-b c).Start) c.if-n-eq0.false (its
    (goal.at.returns-then-m-b c).Else-h-b) (among (goal.at.returns-then-m-b c).Else-n-place) (λ z. omega
    (arith, z, c.if-m-b.true))))

pub returns-then-image-h : goal.returns-then-image-h
returns-then-image-h c =
    let a = c.args in
    refuses (goal.at.returns-then-image-h c).Start 14 _ c.refuse-then-image-h.ensures
    (there (goal.at.returns-then-image-h c).In-Some _ (is-15 a.h (Some c.in-Some.found) (length a.image.now) (d (goal.at.returns-then-image-h c).Start) c.if-n-eq0.false (its
    (goal.at.returns-then-image-h c).Else-h-b) (among (goal.at.returns-then-image-h c).Else-n-place) (same
    (goal.at.returns-then-image-h c).Else-m-b) c.if-image-h.true))

pub returns-then-not-is_block : goal.returns-then-not-is_block
unfolding arrived_in
returns-then-not-is_block c =
    let a = c.args in
    refuses (goal.at.returns-then-not-is_block c).Start 15 _ c.refuse-then-not-is_block.ensures
    (there (goal.at.returns-then-not-is_block c).In-Some _ (is-16 a.h (Some c.in-Some.found) (length a.image.now) (d (goal.at.returns-then-not-is_block c).Start) c.if-n-eq0.false (its
    (goal.at.returns-then-not-is_block c).Else-h-b) (among (goal.at.returns-then-not-is_block c).Else-n-place) (same
    (goal.at.returns-then-not-is_block c).Else-m-b) c.if-image-h.false
    (sym c.is_block.ensures ∙ c.if-not-is_block.true)))

-- its distance from its module's start: both factors are of 16 bits
small_product : (x y : ℕ) → x < 65536 → y < 65536 → x * y < 4294967296
small_product x y h k = let m = mul-le-mul_right {m = x} {n = 65535} y (omega arith) in omega arith

distance : (c : After-struct_known-9-1) → let a = c.args in a.b.block * a.h.block_size < 4294967296
distance c = small_product _ _ c.struct_known-7-1.given.1.1.1.0.fits c.struct_known-9-1.given.1.0.fits

-- its place is one of those that are counted, of 16 bits
counted : (c : After-struct_known-9-1) → c.in-Some.found.place < 65536
counted c = let f = c.if-n-place.false in let k = c.struct_known-9-1.given.1.1.0.fits in omega (arith, f, k)

pub overflow_mul-at : goal.overflow_mul-at
overflow_mul-at c = let m = distance c in omega arith

pub overflow_add-at : goal.overflow_add-at
overflow_add-at c = let m = distance c in omega arith

pub overflow_mul-place : goal.overflow_mul-place
overflow_mul-place c = let k = counted c in omega arith

pub overflow_add-place : goal.overflow_add-place
overflow_add-place c = let k = counted c in omega arith

pub returns : goal.returns
unfolding arrived_in
returns c =
    let a = c.args in
    let q = c.put.ensures in
    rw (held-good a.h a.slot a.marks.now a.image.now (d (goal.at.returns c).Start) (matches (goal.at.returns c).Else-not-is_block), c.in-Some.is) (q.0, q.1, q.2)
