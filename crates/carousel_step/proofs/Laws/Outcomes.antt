-- What a section comes to, from the facts that code learns on its ways.
use Prim.Native.Nat.{ℕ, ◌+◌, ◌*◌, ◌≤◌, ◌<◌}
use mathlib.Core.Path.{◌≡◌, refl, ap, ap₂}
use mathlib.Core.Bool.{Bool, true, false, not, cond, ◌&&◌, ◌||◌}
use mathlib.Core.List.{List}
use Rattle.std.proofs.Common.{Ok, Err, Option}
use lib.Dec.{eqb, ltb}
use lib.ListN.{length, take, drop}
use borrow.Author.Tests.{eq-eqb, ne_eqb, lt-ltb, le-ltb}
use Rattle.wire.specs.Tests.{first_met}
use Rattle.wire.specs.Copies.{same_numbers}
use Rattle.section.specs.declared.Refusal.{Refusal}
use Rattle.section.specs.Answer.{refused}
use Rattle.carousel_messages.specs.declared.Announcement.{Announcement}
use Rattle.carousel_messages.specs.declared.Block.{Block}
use Rattle.carousel_messages.specs.declared.Message.TheVariants as message
use Rattle.carousel_messages.specs.Judged.{judged_of}
use Rattle.carousel_messages.specs.Heard.{Announced, Arrived, announced_in, arrived_in, span_of, heard_in, heard_of}
use Rattle.carousel_record.specs.declared.Carousel.{Carousel}
use Rattle.carousel_record.specs.declared.Slot.{Slot}
use Rattle.carousel_record.specs.declared.Head.{Head}
use Rattle.carousel_record.specs.Blocks.{blocks_of, block_length_of}
use Rattle.carousel_record.specs.Marks.{mark_of, is_marked}
use Rattle.carousel_record.specs.Record.{Record, record_of, place_of, received, block_at, ruled_of}
use Rattle.carousel_step.specs.Step.{StepOutcome, refusing, new, same, repeated, stored, block_refusal, bytes_differ}
use Rattle.carousel_step.specs.Step.{matched, same_announced, on_announced, on_arrived, on_heard, outcome_of, image_after, returning, stepped_of}
use Rattle.carousel_step.specs.Step.{image_of}
use Rattle.carousel_step.specs.Held.{slot_place, slot_entry, is_past, held_refusal, put_outcome, held_outcome}

-- 12 to 16, one after another, by the head of a record and the entry that was found
module _ (h : Head) (o : Option Slot) (n : ℕ) (d : Arrived) where
  pub is-12-none : h.count ≡ 0 → held_refusal h o n d ≡ 12
  unfolding held_refusal first_met
  is-12-none e = rw (eq-eqb h.count 0 e)

  module _ (some : h.count ≡ 0 → ⊥) where
    pub is-12 : (h.download ≡ d.download → ⊥) → held_refusal h o n d ≡ 12
    unfolding held_refusal first_met
    is-12 e = rw (ne_eqb h.count 0 some, ne_eqb h.download d.download e)

    module _ (its : h.download ≡ d.download) where
      not-12 : (eqb h.count 0 || not (eqb h.download d.download)) ≡ false
      not-12 = ap₂ (λ (x y : Bool). x || not y) (ne_eqb h.count 0 some) (eq-eqb h.download d.download its)

      pub is-13 : is_past h.count o ≡ true → held_refusal h o n d ≡ 13
      unfolding held_refusal first_met
      is-13 e = rw (not-12, e)

      module _ (not-13 : is_past h.count o ≡ false) where
        pub is-14 : ((slot_entry o).version ≡ d.version → ⊥) → held_refusal h o n d ≡ 14
        unfolding held_refusal first_met
        is-14 e = rw (not-12, not-13, ne_eqb (slot_entry o).version d.version e)

        module _ (version : (slot_entry o).version ≡ d.version) where
          pub is-15 : n < h.bytes → held_refusal h o n d ≡ 15
          unfolding held_refusal first_met
          is-15 e = rw (not-12, not-13, eq-eqb (slot_entry o).version d.version version, lt-ltb n h.bytes e)

          module _ (room : h.bytes ≤ n) where
            abbrev fits : Bool
            fits = ltb d.block (blocks_of h.block_size (slot_entry o).size) && eqb (length d.bytes) (block_length_of h.block_size (slot_entry o).size d.block)

            either_not : (t u : Bool) → (not t || not u) ≡ not (t && u)
            either_not true u = refl
            either_not false u = refl

            its-16 : (not (ltb d.block (blocks_of h.block_size (slot_entry o).size)) || not (eqb (length d.bytes) (block_length_of h.block_size (slot_entry o).size d.block))) ≡ not fits
            its-16 = either_not (ltb d.block (blocks_of h.block_size (slot_entry o).size)) (eqb (length d.bytes) (block_length_of h.block_size (slot_entry o).size d.block))

            pub is-16 : fits ≡ false → held_refusal h o n d ≡ 16
            unfolding held_refusal first_met
            is-16 e = rw (not-12, not-13, eq-eqb (slot_entry o).version d.version version, le-ltb n h.bytes room, its-16, e)

            pub is-matching : fits ≡ true → held_refusal h o n d ≡ 0
            unfolding held_refusal first_met
            is-matching e = rw (not-12, not-13, eq-eqb (slot_entry o).version d.version version, le-ltb n h.bytes room, its-16, e)

-- a matching block
module _ (r : Record) (image : List ℕ) (i : ℕ) (d : Arrived) where
  pub matched-clear : received r i d.block ≡ false → matched r image i d ≡ stored (mark_of i d.block) (block_at r i d.block) d.bytes
  unfolding matched
  matched-clear e = rw e

  module _ (marked : received r i d.block ≡ true) where
    pub matched-same : same_numbers (take (length d.bytes) (drop (block_at r i d.block) image)) d.bytes ≡ true → matched r image i d ≡ repeated
    unfolding matched bytes_differ
    matched-same e = rw (marked, e)

    pub matched-other : same_numbers (take (length d.bytes) (drop (block_at r i d.block) image)) d.bytes ≡ false → matched r image i d ≡ refusing (refused 17)
    unfolding matched bytes_differ
    matched-other e = rw (marked, e)

module _ (r : Record) (image : List ℕ) (d : Arrived) where
  pub arrived_bad : (block_refusal r.announced (length image) d ≡ 0 → ⊥) → on_arrived r image d ≡ refusing (refused (block_refusal r.announced (length image) d))
  unfolding on_arrived
  arrived_bad e = rw (ne_eqb (block_refusal r.announced (length image) d) 0 e)

  pub arrived-good : block_refusal r.announced (length image) d ≡ 0 → on_arrived r image d ≡ matched r image (place_of r.announced d.number) d
  unfolding on_arrived
  arrived-good e = rw (eq-eqb (block_refusal r.announced (length image) d) 0 e)

-- where a block is put
module _ (k at : ℕ) (ws image bytes : List ℕ) where
  pub put-short : length image < at + length bytes → put_outcome k at ws image bytes ≡ refusing (refused 15)
  unfolding put_outcome
  put-short h = rw (lt-ltb (length image) (at + length bytes) h)

  module _ (room : at + length bytes ≤ length image) where
    pub put-clear : is_marked ws k ≡ false → put_outcome k at ws image bytes ≡ stored k at bytes
    unfolding put_outcome
    put-clear e = rw (le-ltb (length image) (at + length bytes) room, e)

    module _ (marked : is_marked ws k ≡ true) where
      pub put_same : same_numbers (take (length bytes) (drop at image)) bytes ≡ true → put_outcome k at ws image bytes ≡ repeated
      unfolding put_outcome
      put_same e = rw (le-ltb (length image) (at + length bytes) room, marked, e)

      pub put_other : same_numbers (take (length bytes) (drop at image)) bytes ≡ false → put_outcome k at ws image bytes ≡ refusing (refused 17)
      unfolding put_outcome
      put_other e = rw (le-ltb (length image) (at + length bytes) room, marked, e)

-- a block of a record that is held in parts
module _ (h : Head) (o : Option Slot) (ws image : List ℕ) (d : Arrived) where
  pub held_bad : (n : ℕ) → held_refusal h o (length image) d ≡ n → (n ≡ 0 → ⊥) → held_outcome h o ws image d ≡ refusing (refused n)
  unfolding held_outcome
  held_bad n e z = rw (e, ne_eqb n 0 z)

  pub held-good : held_refusal h o (length image) d ≡ 0
      → held_outcome h o ws image d ≡ put_outcome (mark_of (slot_place o) d.block) ((slot_entry o).start + d.block * h.block_size) ws image d.bytes
  unfolding held_outcome
  held-good e = rw (eq-eqb (held_refusal h o (length image) d) 0 e)

-- an announcement
module _ (r : Record) (a : Announced) where
  pub announced-same : same_announced r.announced a ≡ true → on_announced r a ≡ same
  unfolding on_announced
  announced-same e = rw e

  pub announced-new : same_announced r.announced a ≡ false → on_announced r a ≡ new a
  unfolding on_announced
  announced-new e = rw e

  pub announced-image : (image : List ℕ) → image_after image (on_announced r a) ≡ image
  unfolding on_announced
  announced-image image = go (same_announced r.announced a)
    where
      go : (t : Bool) → image_after image (cond t same (new a)) ≡ image
      go true = refl
      go false = refl

-- the whole
module _ (c : Carousel) (s image : List ℕ) where
  pub stepped-is : (o : StepOutcome) → outcome_of c s image ≡ o → (stepped_of c s image ≡ returning c o) × (image_of c s image ≡ image_after image o)
  unfolding stepped_of image_of
  stepped-is o e = rw e (refl, refl)

  pub comes_broken : ruled_of c ≡ false → outcome_of c s image ≡ refusing (refused 1)
  unfolding outcome_of
  comes_broken e = rw e

  module _ (ruled : ruled_of c ≡ true) where
    pub comes-refused : (n : Refusal) → judged_of s ≡ Err n → outcome_of c s image ≡ refusing n
    unfolding outcome_of heard_of heard_in on_heard
    comes-refused n e = rw (ruled, e)

    pub comes-announced : (a : Announcement) → judged_of s ≡ Ok (message.Announced a) → outcome_of c s image ≡ on_announced (record_of c) (announced_in a (span_of s a.part.start a.part.size))
    unfolding outcome_of heard_of heard_in on_heard
    comes-announced a e = rw (ruled, e)

    pub comes-carried : (b : Block) → judged_of s ≡ Ok (message.Carried b) → outcome_of c s image ≡ on_arrived (record_of c) image (arrived_in b (span_of s b.part.start b.part.size))
    unfolding outcome_of heard_of heard_in on_heard
    comes-carried b e = rw (ruled, e)
