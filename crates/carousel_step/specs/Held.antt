-- A block for a record that is held in parts, its rule unchecked: what whoever takes many sections asks for each. Of a record that keeps its rule it is what 01 says (`held-is`).
use Rattle.std.specs.Prelude.{Option, Some, None, ℕ, ◌+◌, ◌*◌, Bool, true, cond, not, ◌&&◌, ◌||◌, List, [], ◌∷◌, eqb, ltb, length, take, drop}
use Rattle.wire.specs.Tests.{Tests, first_met}
use Rattle.wire.specs.Copies.{same_numbers}
use Rattle.section.specs.Answer.{refused}
use Rattle.carousel_messages.specs.Heard.{Arrived}
use Rattle.carousel_record.specs.declared.Module.{Module}
use Rattle.carousel_record.specs.declared.Head.{Head}
use Rattle.carousel_record.specs.declared.Slot.{Slot}
use Rattle.carousel_record.specs.Record.{unused}
use Rattle.carousel_record.specs.Blocks.{blocks_of, block_length_of}
use Rattle.carousel_record.specs.Marks.{mark_of, is_marked, marks_with}
use Rattle.carousel_step.specs.Step.{StepOutcome, refusing, new, same, repeated, stored}

-- the place and the entry that were found, and whether none of the n that are counted was
abbrev pub slot_place : Option Slot → ℕ
slot_place (Some s) = s.place
slot_place None = 0

abbrev pub slot_entry : Option Slot → Module
slot_entry (Some s) = s.entry
slot_entry None = unused

abbrev pub is_past : (n : ℕ) → Option Slot → Bool
is_past n (Some s) = not (ltb s.place n)
is_past n None = true

-- the place of an entry that was found, where it is the same as k in all that entries hold
abbrev pub still_at : Option Slot → Module → Option ℕ
still_at (Some s) k = cond (eqb s.entry.number k.number && eqb s.entry.version k.version && eqb s.entry.size k.size && eqb s.entry.start k.start) (Some s.place) None
still_at None k = None

-- 12 to 16 of a block, by the record's head h, and what was found for it, o; the image is of length n
abbrev pub held_tests : Head → Option Slot → (n : ℕ) → Arrived → Tests
held_tests h o n d =
    (12, eqb h.count 0 || not (eqb h.download d.download))
    ∷ (13, is_past h.count o)
    ∷ (14, not (eqb (slot_entry o).version d.version))
    ∷ (15, ltb n h.bytes)
    ∷ (16, not (ltb d.block (blocks_of h.block_size (slot_entry o).size)) || not (eqb (length d.bytes) (block_length_of h.block_size (slot_entry o).size d.block)))
    ∷ []

unfoldable pub held_refusal : Head → Option Slot → (n : ℕ) → Arrived → ℕ
held_refusal h o n d = first_met (held_tests h o n d)

-- The block whose mark is k and whose place in the image begins at `at`: stored, repeated, or refused with 17; with 15 where the image does not hold its place, which no rule that
-- is kept allows.
unfoldable pub put_outcome : (k at : ℕ) → (marks image bytes : List ℕ) → StepOutcome
put_outcome k at ws image bytes = cond (ltb (length image) (at + length bytes))
    (refusing (refused 15))
    (cond (is_marked ws k)
    (cond (same_numbers (take (length bytes) (drop at image)) bytes) repeated (refusing (refused 17)))
    (stored k at bytes))

unfoldable pub held_outcome : Head → Option Slot → (marks image : List ℕ) → Arrived → StepOutcome
held_outcome h o ws image d = cond (eqb (held_refusal h o (length image) d) 0)
    (put_outcome (mark_of (slot_place o) d.block) ((slot_entry o).start + d.block * h.block_size) ws image d.bytes)
    (refusing (refused (held_refusal h o (length image) d)))

-- and the marks after it
abbrev pub marks_after : List ℕ → StepOutcome → List ℕ
marks_after ws (refusing n) = ws
marks_after ws (new a) = ws
marks_after ws same = ws
marks_after ws repeated = ws
marks_after ws (stored k at bytes) = marks_with ws k
