-- A data section for a module, and a matching one. 01, "The carousel record".
use Rattle.std.specs.Prelude.{ℕ, ◌≤◌, ◌<◌, ◌≡◌, Bool, false, not, ◌&&◌, List, [], eqb, length}
use Rattle.carousel_messages.specs.Heard.{Announced, Arrived, Heard, refusal, announced, arrived}
use Rattle.carousel_record.specs.Record.{module_at, bytes_of, block_count, block_length}
use Rattle.carousel_step.specs.Step.{meets12, block_refusal}

-- "A data section is for a module when none of refusals 2 to 12 meets it and it bears that module's number." Here: for the module at place i; 2 to 11 are the hearing's.
unfoldable pub block_for : Announced → (i : ℕ) → Arrived → Bool
block_for a i d = not (meets12 a d) && eqb d.number (module_at a i).number

unfoldable pub heard_for : Announced → (i : ℕ) → Heard → Bool
heard_for a i (refusal m) = false
heard_for a i (announced c) = false
heard_for a i (arrived d) = block_for a i d

-- "It is matching when 13 to 16 don't meet it either." Here: for block b of the module at place i, the image being of length n.
unfoldable pub block_matches : Announced → (n i b : ℕ) → Arrived → Bool
block_matches a n i b d = eqb (block_refusal a n d) 0 && (eqb d.number (module_at a i).number && eqb d.block b)

-- neither a refused section nor an announcement is a data section
unfoldable pub heard_matches : Announced → (n i b : ℕ) → Heard → Bool
heard_matches a n i b (refusal m) = false
heard_matches a n i b (announced c) = false
heard_matches a n i b (arrived d) = block_matches a n i b d

-- the data of a data section
unfoldable pub heard_bytes : Heard → List ℕ
heard_bytes (refusal n) = []
heard_bytes (announced a) = []
heard_bytes (arrived d) = d.bytes

-- The same spelled out, for a reader: what a matching data section for block b of the module at place i is. (A law says that it is.)
pub record Matching (a : Announced) (n i b : ℕ) (d : Arrived) : Type 0 where
  pub same_download : d.download ≡ a.download
  pub its_number : d.number ≡ (module_at a i).number
  pub announced_version : d.version ≡ (module_at a i).version
  pub image_holds : bytes_of a ≤ n
  pub this_block : d.block ≡ b
  pub one_of_its : b < block_count a i
  pub its_length : length d.bytes ≡ block_length a i b
