-- THE PAPER'S FALSE BEARINGS (01), each as what the theorems exclude.
use Prim.Native.Nat.{ℕ, ◌<◌}
use mathlib.Core.Path.{◌≡◌, sym, ap}
use mathlib.Core.Bool.{true}
use mathlib.Core.List.{List}
use Rattle.section.specs.Header.{body_of}
use Rattle.section.specs.Answer.{refused}
use Rattle.carousel_messages.specs.Message.{payload_of}
use Rattle.carousel_messages.specs.Contents.{block_data_of}
use Rattle.carousel_messages.specs.Heard.{Arrived, arrived, heard_of}
use Rattle.carousel_messages.proofs.Good.{block-heard}
use Rattle.carousel_record.specs.declared.Carousel.{Carousel}
use Rattle.carousel_step.specs.Step.{stepped_of, image_of}
use Rattle.carousel_record.specs.Blocks.{blocks_of, block_length_of}
use Rattle.carousel_record.proofs.Laws.Blocks.{length_pos}
use Rattle.carousel_step.proofs.Steps.{refusal_changes-nothing}
use Rattle.receiver.specs.Run.{Held, walk}
use Rattle.demands.specs.Demand.{blocks, Emptied, Keeps, is_complete, Matched}
use Rattle.demands.proofs.Three.{completeness}
use Rattle.std.proofs.Common.{Err}

-- "Counting arrivals and not distinct blocks: two copies of block 0 "complete" a two-block module." However many sections come: where none of them matched block b when it came,
-- the module is not complete.
pub arrivals_do_not-count : (x : Held) (k : ℕ) → Emptied x k → (ss : List (List ℕ)) → Keeps x k ss
    → (b : ℕ) → b < blocks x k → ((s : List ℕ) → Matched x k b ss s → ⊥) → is_complete (walk x ss) k ≡ true → ⊥
arrivals_do_not-count x k start ss n b l none c = let h = (completeness x k start ss n).0 c b l in none h.0 h.1

-- "A last block of 0 bytes when the size divides evenly." Every block of a module has bytes.
pub no-empty-block : (block_size size b : ℕ) → 0 < block_size → b < blocks_of block_size size → 0 < block_length_of block_size size b
no-empty-block bs z b p l = length_pos bs z p b l

-- "Adaptation bytes stored as data." The data of a block are its payload's, after the payload's six bytes; the payload begins after the adaptation bytes.
pub adaptation-is-no_data : (s : List ℕ) (d : Arrived) → heard_of s ≡ arrived d → d.bytes ≡ block_data_of (payload_of (body_of s))
adaptation-is-no_data s d e = ap (λ (x : Arrived). x.bytes) (sym ((block-heard s d).0 e).1)

-- "Overwriting on 17: a late bad copy moves a buoy." It changes neither record nor image.
pub no_overwriting : (c : Carousel) (s image : List ℕ) → (stepped_of c s image).answer ≡ Err (refused 17) → ((stepped_of c s image).state ≡ c) × (image_of c s image ≡ image)
no_overwriting c s image e = refusal_changes-nothing c s image (refused 17) e
