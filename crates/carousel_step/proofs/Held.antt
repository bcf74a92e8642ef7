-- A block for a record that is held in parts: where the record keeps its rule, and the parts are its own, it comes to what 01 says.
use Prim.Native.Nat.{ℕ, ◌+◌, ◌*◌, ◌%◌, ◌≤◌, ◌<◌}
use mathlib.Core.Path.{◌≡◌, refl, sym, ap, ap₂, ◌∙◌}
use mathlib.Core.Bool.{Bool, true, false, not, cond, ◌||◌}
use mathlib.Core.List.{List, [], ◌∷◌}
use native.Mathlib.Omega.{arith}
use Rattle.std.proofs.Common.{Option, Some}
use lib.Dec.{eqb, ltb}
use lib.ListN.{length, get_or, take, drop}
use borrow.Author.Tests.{eqb-true, eqb-false, ltb-true, ltb-false, le-ltb}
use Rattle.wire.specs.Tests.{first_met}
use Rattle.wire.specs.Copies.{same_numbers}
use Rattle.section.specs.Answer.{refused}
use Rattle.carousel_messages.specs.declared.Block.{Block}
use Rattle.carousel_messages.specs.declared.Listed.{Listed}
use Rattle.carousel_messages.specs.Limits.{most_modules}
use Rattle.carousel_messages.specs.Heard.{Announced, Arrived, arrived_in}
use Rattle.carousel_record.specs.declared.Carousel.{Carousel}
use Rattle.carousel_record.specs.declared.Module.{Module}
use Rattle.carousel_record.specs.declared.Head.{Head}
use Rattle.carousel_record.specs.declared.Slot.{Slot}
use Rattle.carousel_record.specs.Blocks.{blocks_of, block_length_of}
use Rattle.carousel_record.specs.Marks.{mark_of, is_marked}
use Rattle.carousel_record.specs.Record.{Record, announced_by, record_of, listed_in, bytes_of, head_of, joined_of, module_at, place_of, slot_of, received, block_at, ruled_of, unused}
use Rattle.carousel_record.specs.Refusals.{meets13, meets15}
use Rattle.carousel_record.specs.Changes.{with_mark}
use Rattle.carousel_record.proofs.Laws.Rule.{kept, ruled-says, ruled-count}
use Rattle.carousel_record.proofs.Laws.Says.{says-count, says_module, says-start}
use Rattle.carousel_step.specs.Step.{Answered, StepOutcome, refusing, repeated, stored, meets12, meets14, meets16, block_refusal, bytes_differ}
use Rattle.carousel_step.specs.Step.{matched, on_arrived, answer_of, carousel_after, image_after}
use Rattle.carousel_step.specs.Held.{slot_place, slot_entry, is_past, held_refusal, put_outcome, held_outcome, marks_after}
use Rattle.carousel_step.proofs.Laws.Outcomes.{arrived_bad, arrived-good, held_bad, held-good}
use Rattle.carousel_step.proofs.Laws.Slots.{found-slot, no_slot}
use Rattle.carousel_step.proofs.View.{fits, fits_in}

-- a block that the image holds is put as a matching one is
put-matched : (r : Record) (image : List ℕ) (i : ℕ) (d : Arrived) → block_at r i d.block + length d.bytes ≤ length image
    → put_outcome (mark_of i d.block) (block_at r i d.block) r.marks image d.bytes ≡ matched r image i d
unfolding put_outcome matched bytes_differ
put-matched r image i d room =
    rw (le-ltb (length image) (block_at r i d.block + length d.bytes) room)
    (ap (λ (o : StepOutcome). cond (received r i d.block) o (stored (mark_of i d.block) (block_at r i d.block) d.bytes))
    (turned (same_numbers (take (length d.bytes) (drop (block_at r i d.block) image)) d.bytes)))
  where
    turned : (t : Bool) → cond t repeated (refusing (refused 17)) ≡ cond (not t) (refusing (refused 17)) repeated
    turned true = refl
    turned false = refl

-- WHAT MAY STAND FOR A MODULE'S NUMBER: if it is listed among the record's counted entries, that entry and its place; if it is not, nothing, or any entry at a place that is
-- not counted.
pub record StandsFor (c : Carousel) (number : ℕ) (o : Option Slot) : Type 0 where
  pub listed : place_of (announced_by c) number < c.count
      → o ≡ Some (record { place = place_of (announced_by c) number; entry = get_or c.modules (place_of (announced_by c) number) unused })
  pub unlisted : c.count ≤ place_of (announced_by c) number → is_past c.count o ≡ true

-- what is found by the number stands for it
pub found-stands : (c : Carousel) → length c.modules ≡ most_modules → ruled_of c ≡ true → (number : ℕ) (o : Option Slot) → o ≡ slot_of c number → StandsFor c number o
found-stands c entries ruled number o e =
    record {
      listed = λ l. e ∙ found-slot c entries (ruled-count c ruled) number l;
      unlisted = λ l. ap (is_past c.count) (e ∙ no_slot c entries (ruled-count c ruled) number l);
    }

-- and so does the number's place with the entry there, where the place is counted; with any entry where it is not
pub place-stands : (c : Carousel) (number i : ℕ) (m : Module) → i ≡ place_of (announced_by c) number → (i < c.count → m ≡ get_or c.modules i unused)
    → StandsFor c number (Some (record { place = i; entry = m }))
place-stands c number i m place entry =
    record {
      listed = λ l. let k : i < c.count = omega (arith, place) in
          ap₂ (λ (p : ℕ) (x : Module). Some (record { place = p; entry = x })) place (entry k ∙ ap (λ (p : ℕ). get_or c.modules p unused) place);
      unlisted = λ l. let k : c.count ≤ i = omega (arith, place) in ap not (le-ltb i c.count k);
    }

-- A record c with all its entries, that keeps its rule; a block d; and what stands for its module's number.
module _ (c : Carousel) (entries : length c.modules ≡ most_modules) (ruled : ruled_of c ≡ true) (image : List ℕ) (d : Arrived) (o : Option Slot)
    (slot : StandsFor c d.number o) where
  abbrev a : Announced
  a = announced_by c

  abbrev p : ℕ
  p = place_of a d.number

  counted : length a.modules ≡ c.count
  counted = says-count c entries (ruled-count c ruled)

  -- 12 to 16 by four numbers: how many modules there are, the place of this one, its version and its size
  abbrev lowest : (count place version size : ℕ) → ℕ
  lowest k p v z =
      first_met
      ((12, eqb k 0 || not (eqb c.download d.download))
      ∷ (13, not (ltb p k))
      ∷ (14, not (eqb v d.version))
      ∷ (15, ltb (length image) (bytes_of a))
      ∷ (16, not (ltb d.block (blocks_of c.block_size z)) || not (eqb (length d.bytes) (block_length_of c.block_size z d.block)))
      ∷ [])

  by_record : block_refusal a (length image) d ≡ lowest (length a.modules) p (module_at a p).version (module_at a p).size
  unfolding block_refusal meets12 meets13 meets14 meets15 meets16 announced_by
  by_record = refl

  same-refusal : held_refusal (head_of c) o (length image) d ≡ block_refusal a (length image) d
  unfolding held_refusal first_met
  same-refusal = go (ltb p c.count) refl ∙ ap (λ (k : ℕ). lowest k p (module_at a p).version (module_at a p).size) (sym counted) ∙ sym by_record
    where
      go : (t : Bool) → ltb p c.count ≡ t → held_refusal (head_of c) o (length image) d ≡ lowest c.count p (module_at a p).version (module_at a p).size
      go true e =
          let l = ltb-true p c.count e in
          rw (slot.listed l) (ap (λ (x : Listed). lowest c.count p x.version x.size) (sym (says_module c p l)))
      go false e = rw (slot.unlisted (ltb-false p c.count e), e)

  -- its place in the image
  at-is : p < c.count → (get_or c.modules p unused).start + d.block * c.block_size ≡ block_at (record_of c) p d.block
  unfolding block_at announced_by
  at-is l = ap (λ (x : ℕ). x + d.block * c.block_size) (sym (says-start c p l))

  taken : block_refusal a (length image) d ≡ 0 → held_outcome (head_of c) o c.marks image d ≡ on_arrived (record_of c) image d
  taken e =
      let f = fits a (length image) d e in
      let u = f.found in
      let k = kept (record_of c) (omega arith) (ruled-says c ruled) in
      let l : p < c.count = omega (arith, counted) in
      held-good (head_of c) o c.marks image d (same-refusal ∙ e)
      ∙ ap (λ (s : Option Slot). put_outcome (mark_of (slot_place s) d.block) ((slot_entry s).start + d.block * c.block_size) c.marks image d.bytes) (slot.listed l)
      ∙ ap (λ (y : ℕ). put_outcome (mark_of p d.block) y c.marks image d.bytes) (at-is l)
      ∙ put-matched (record_of c) image p d (fits_in (record { says = record_of c; image = image }) k d f)
      ∙ sym (arrived-good (record_of c) image d e)

  -- WHERE THE RULE IS KEPT, IT IS WHAT 01 SAYS
  pub held-is : held_outcome (head_of c) o c.marks image d ≡ on_arrived (record_of c) image d
  held-is = go (eqb (block_refusal a (length image) d) 0) refl
    where
      go : (t : Bool) → eqb (block_refusal a (length image) d) 0 ≡ t → held_outcome (head_of c) o c.marks image d ≡ on_arrived (record_of c) image d
      go true e = taken (eqb-true (block_refusal a (length image) d) 0 e)
      go false e =
          let n = eqb-false (block_refusal a (length image) d) 0 e in
          held_bad (head_of c) o c.marks image d (block_refusal a (length image) d) same-refusal n ∙ sym (arrived_bad (record_of c) image d n)

-- a record in its parts is the record
pub joined-own : (c : Carousel) → joined_of (head_of c) c.modules c.marks ≡ c
joined-own c = refl

-- what a block comes to is no announcement: of the record it changes at most the marks
pub held-marks : (h : Head) (o : Option Slot) (ws image : List ℕ) (d : Arrived) (g : Head) (ms : List Module)
    → joined_of g ms (marks_after ws (held_outcome h o ws image d)) ≡ carousel_after (joined_of g ms ws) (held_outcome h o ws image d)
unfolding held_outcome put_outcome with_mark
held-marks h o ws image d g ms =
    let at = (slot_entry o).start + d.block * h.block_size in
    go (mark_of (slot_place o) d.block) at (eqb (held_refusal h o (length image) d) 0) (ltb (length image) (at + length d.bytes)) (is_marked ws (mark_of (slot_place o) d.block))
    (same_numbers (take (length d.bytes) (drop at image)) d.bytes)
  where
    go : (k at : ℕ) (b₁ b₂ b₃ b₄ : Bool)
        → let o = cond b₁
        (cond b₂ (refusing (refused 15)) (cond b₃ (cond b₄ repeated (refusing (refused 17))) (stored k at d.bytes)))
        (refusing (refused (held_refusal h o (length image) d))) in
        joined_of g ms (marks_after ws o) ≡ carousel_after (joined_of g ms ws) o
    go k at false b₂ b₃ b₄ = refl
    go k at true true b₃ b₄ = refl
    go k at true false true true = refl
    go k at true false true false = refl
    go k at true false false b₄ = refl

-- WHAT A CALLER OF `take_block` KNOWS: of a record c that keeps its rule, held in its parts, the answer, the record put together again and the image are those of 01
module _ (c : Carousel) (entries : length c.modules ≡ most_modules) (ruled : ruled_of c ≡ true) (image : List ℕ) (b : Block) (x y : List ℕ) (h : Head) (o : Option Slot)
    (own : h ≡ head_of c) (part : x ≡ y) (slot : StandsFor c b.number o) where
  abbrev held : StepOutcome
  held = held_outcome h o c.marks image (arrived_in b x)

  abbrev comes : StepOutcome
  comes = on_arrived (record_of c) image (arrived_in b y)

  pub comes_to : held ≡ comes
  unfolding arrived_in
  comes_to =
      ap₂ (λ (h : Head) (x : List ℕ). held_outcome h o c.marks image (arrived_in b x)) own part ∙ held-is c entries ruled image (arrived_in b y) o slot

  pub held_record : (ws : List ℕ) → ws ≡ marks_after c.marks held → joined_of h c.modules ws ≡ carousel_after c comes
  held_record ws e =
      ap (joined_of h c.modules) e
      ∙ held-marks h o c.marks image (arrived_in b x) h c.modules
      ∙ ap₂ (λ (d : Carousel) (o : StepOutcome). carousel_after d o) (ap (λ (h : Head). joined_of h c.modules c.marks) own ∙ joined-own c) comes_to

  pub held-answer : (r : Answered) → r ≡ answer_of held → r ≡ answer_of comes
  held-answer r e = e ∙ ap (λ (o : StepOutcome). answer_of o) comes_to

  pub held-image : (i : List ℕ) → i ≡ image_after image held → i ≡ image_after image comes
  held-image i e = e ∙ ap (λ (o : StepOutcome). image_after image o) comes_to

-- The same for a place i and an entry m that a caller has by itself: the entry is asked for only where the place is counted.
pub held-placed : (c : Carousel) → length c.modules ≡ most_modules → ruled_of c ≡ true → (image : List ℕ) (d : Arrived) (i : ℕ) (m : Module)
    → i ≡ place_of (announced_by c) d.number → (i < c.count → m ≡ get_or c.modules i unused)
    → held_outcome (head_of c) (Some (record { place = i; entry = m })) c.marks image d ≡ on_arrived (record_of c) image d
held-placed c entries ruled image d i m place entry = held-is c entries ruled image d _ (place-stands c d.number i m place entry)
