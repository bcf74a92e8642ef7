-- The words that the laws of a step are said in: the view of one block.
use Prim.Native.Nat.{ℕ}
use mathlib.Core.Bool.{Bool, true, false, cond}
use mathlib.Core.List.{List}
use lib.ListN.{take, drop}
use Rattle.std.proofs.Common.{Ok, Err}
use Rattle.wire.specs.Copies.{same_numbers}
use Rattle.section.specs.Answer.{refused}
use Rattle.carousel_step.specs.declared.Answer.TheVariants as answer
use Rattle.carousel_record.specs.Record.{Record, block_length, received, block_at}
use Rattle.carousel_step.specs.Step.{Answered, StepOutcome, refusing, new, same, repeated, stored, record_after, image_after}

-- one record, by what it says, and one image, carried from call to call; and both after a section that came to o
pub record Held : Type 0 where
  pub says : Record
  pub image : List ℕ

abbrev pub after : Held → StepOutcome → Held
after x o = record { says = record_after x.says o; image = image_after x.image o }

-- The view of block b of the module at place i: its mark, and the bytes at its place.
pub record Slot : Type 0 where
  pub marked : Bool
  pub bytes : List ℕ

unfoldable pub slot : Held → (i b : ℕ) → Slot
slot x i b = record { marked = received x.says i b; bytes = take (block_length x.says.announced i b) (drop (block_at x.says i b) x.image) }

-- what matching bytes make of a view (the first to come stay), and what they answer
unfoldable pub hit : List ℕ → Slot → Slot
hit ds v = cond v.marked v (record { marked = true; bytes = ds })

unfoldable pub reply : Slot → List ℕ → Answered
reply v ds = cond v.marked (cond (same_numbers v.bytes ds) (Ok answer.Repeated) (Err (refused 17))) (Ok answer.Stored)

-- whether a section came to a new announcement
unfoldable pub is_new : StepOutcome → Bool
is_new (refusing n) = false
is_new (new a) = true
is_new same = false
is_new repeated = false
is_new (stored k at bytes) = false
