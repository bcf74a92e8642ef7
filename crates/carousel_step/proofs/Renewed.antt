-- What a new announcement leaves (02 §5): of the marks, those of the modules that are the same as before, at their new places, and no other; every image byte; and so each block's
-- view of a module that it keeps.
use Prim.Native.Nat.{ℕ, ◌+◌, ◌*◌, ◌<◌}
use mathlib.Core.Path.{◌≡◌, refl, sym, ap, ◌∙◌}
use mathlib.Core.Logic.{◌↔◌}
use mathlib.Core.Bool.{Bool, true, ◌&&◌}
use mathlib.Core.List.{List, []}
use native.Mathlib.Omega.{arith}
use Rattle.std.proofs.Common.{Ok, Err}
use lib.ListN.{take, drop}
use Rattle.carousel_messages.specs.Limits.{most_modules, most_blocks}
use Rattle.carousel_messages.specs.Heard.{Announced}
use Rattle.carousel_record.specs.declared.Carousel.{Carousel}
use Rattle.carousel_record.specs.Blocks.{blocks_of, block_length_of}
use Rattle.carousel_record.specs.Record.{Record, record_of, module_at, place_of, block_count, block_at, received, ruled}
use Rattle.carousel_record.specs.Keeping.{place_for, same_at, SameAt, SameModule}
use Rattle.carousel_record.specs.Changes.{afresh}
use Rattle.carousel_step.specs.declared.Answer.TheVariants as answer
use Rattle.carousel_step.specs.Step.{new, stepped_of, image_of}
use Rattle.carousel_record.proofs.Laws.Places.{number_at}
use Rattle.carousel_record.proofs.Laws.Rule.{kept, number_small, ruled-says}
use Rattle.carousel_record.proofs.Laws.Keeping.{same_back, keeping-marks, marked-exactly}
use Rattle.carousel_step.proofs.Views.{Held, Slot, slot, after}
use Rattle.carousel_step.proofs.Simulation.{says-afresh}
use Rattle.carousel_step.proofs.Steps.{new_changes}

-- AFTER "NEW": block b of the module at place j is marked exactly where some module of the record before is the same, in all six, and block b of it was marked, at its old place.
-- Nothing of a module that is not the same stays.
module _ (c : Carousel) (s image : List ℕ) (answers : (stepped_of c s image).answer ≡ (Ok answer.New)) where
  abbrev next : Record
  next = record_of (stepped_of c s image).state

  pub new-keeps : (j b : ℕ) → j < most_modules → b < most_blocks → (received next j b ≡ true) ↔ ((i : ℕ) × SameAt (record_of c) next i j × (received (record_of c) i b ≡ true))
  new-keeps j b h l =
      let w = new_changes c s image answers in
      let e : afresh (record_of c) w.told ≡ next = sym (ap (λ (d : Carousel). record_of d) w.state ∙ says-afresh c w.told) in
      rw (← e) (marked-exactly (record_of c) (ruled-says c w.ruled) w.told j b h l)

  -- "no image byte moves"
  pub no-byte-moves : image_of c s image ≡ image
  no-byte-moves = (new_changes c s image answers).left

pub afresh-told : (r : Record) (a : Announced) → (afresh r a).announced ≡ a
unfolding afresh
afresh-told r a = refl

-- "the same module" looks at what is announced and at the starts
pub same_by : (r q p o : Record) (i j : ℕ) → r.announced ≡ p.announced → r.starts ≡ p.starts → q.announced ≡ o.announced → q.starts ≡ o.starts → same_at r q i j ≡ same_at p o i j
unfolding same_at
same_by r q p o i j a s b t = λ z. same_at (record { announced = a z; starts = s z; marks = [] }) (record { announced = b z; starts = t z; marks = [] }) i j

-- THE VIEW LAW OF A NEW ANNOUNCEMENT: where it keeps the module with number k, each block's view is what it was, at the module's old place.
abbrev piece : Bool → List ℕ → ℕ → ℕ → ℕ → ℕ → Slot
piece t image bs z at b = record { marked = t; bytes = take (block_length_of bs z b) (drop (at + b * bs) image) }

module _ (x : Held) (e : ruled x.says ≡ true) (a : Announced) (k : ℕ) (s : SameModule x.says (afresh x.says a) k) where
  its-number : (module_at a (place_of a k)).number ≡ k
  unfolding afresh
  its-number = number_at k a.modules s.now

  pub kept-blocks : block_count a (place_of a k) ≡ block_count x.says.announced (place_for x.says k)
  unfolding afresh
  kept-blocks = sym (λ z. blocks_of (s.block_size z) (s.size z))

  -- its mark is what it was; the places of an announcement are those of the limits
  kept-mark : place_of a k < most_modules → (b : ℕ) → b < block_count x.says.announced (place_for x.says k)
      → received (afresh x.says a) (place_of a k) b ≡ received x.says (place_for x.says k) b
  unfolding afresh
  kept-mark few b l =
      let p = s.before in
      let u = number_small x.says (kept x.says (omega arith) e) (place_for x.says k) b p l in
      keeping-marks x.says e a (place_of a k) b few u
      ∙ ap (λ (n : ℕ). same_at x.says (afresh x.says a) (place_for x.says n) (place_of a k) && received x.says (place_for x.says n) b) its-number
      ∙ rw (same_back _ _ _ _ s)

  pub kept_slot : place_of a k < most_modules → (b : ℕ) → b < block_count x.says.announced (place_for x.says k)
      → slot (after x (new a)) (place_of a k) b ≡ slot x (place_for x.says k) b
  unfolding slot block_at afresh
  kept_slot few b l = λ z. piece (kept-mark few b l z) x.image (sym s.block_size z) (sym s.size z) (sym s.start z) b
