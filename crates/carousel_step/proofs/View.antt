-- The view law: a section that matches a block acts on that block's view alone and by it alone, and everything else that is no new announcement leaves it.
use Prim.Native.Nat.{ℕ, ◌+◌, ◌/◌, ◌≤◌, ◌<◌}
use mathlib.Core.Path.{◌≡◌, refl, sym, ap, ◌∙◌}
use mathlib.Core.Bool.{Bool, true, false, not, cond, ◌&&◌}
use mathlib.Core.List.{List}
use mathlib.Core.Logic.{inl, inr}
use native.Mathlib.Omega.{arith}
use Rattle.std.proofs.Common.{Ok, Err}
use lib.Dec.{eqb, ltb}
use lib.ListN.{length, take, drop}
use borrow.Author.Tests.{eqb-true, eqb-false, ltb-true, ltb-false, not-false}
use Rattle.wire.proofs.Laws.Tests.{neither, clash}
use Rattle.wire.proofs.Laws.Order.{none-exactly}
use Rattle.wire.specs.Copies.{same_numbers, overwrite}
use Rattle.section.specs.Answer.{refused}
use Rattle.carousel_messages.specs.Heard.{Announced, Arrived, Heard, refusal, announced, arrived}
use Rattle.carousel_step.specs.declared.Answer.TheVariants as answer
use Rattle.carousel_record.specs.Marks.{mark_of}
use Rattle.carousel_record.specs.Record.{Record, module_at, place_of, bytes_of, block_count, block_length, received, block_at}
use Rattle.carousel_record.specs.Changes.{marking}
use Rattle.carousel_step.specs.Step.{meets12, meets14, meets16, block_tests, block_refusal, bytes_differ, same_announced}
use Rattle.carousel_record.specs.Refusals.{meets13, meets15}
use Rattle.carousel_step.specs.Step.{refusing, new, same, repeated, stored, matched, on_arrived, on_announced, on_heard, answer_of}
use Rattle.carousel_step.specs.Matching.{block_matches, heard_matches, heard_bytes}
use Rattle.carousel_step.proofs.Views.{Held, after, Slot, slot, hit, reply, is_new}
use Rattle.carousel_record.proofs.Laws.Marks.{mark-same, mark-other}
use Rattle.carousel_record.proofs.Laws.Where.{block_room, blocks-apart}
use Rattle.carousel_record.proofs.Laws.Places.{number_at, place_is}
use Rattle.carousel_step.proofs.Laws.Images.{length_over, over-same, over-before, over-after}
use Rattle.carousel_record.proofs.Laws.Rule.{Kept, number_small, in_words, mark-kept}

-- what it means that none of 12 to 16 meets a data section
pub record Fits (a : Announced) (n : ℕ) (d : Arrived) : Type 0 where
  pub download : a.download ≡ d.download
  pub found : place_of a d.number < length a.modules
  pub version : (module_at a (place_of a d.number)).version ≡ d.version
  pub room : bytes_of a ≤ n
  pub within : d.block < block_count a (place_of a d.number)
  pub whole : length d.bytes ≡ block_length a (place_of a d.number) d.block

pub fits : (a : Announced) (n : ℕ) (d : Arrived) → block_refusal a n d ≡ 0 → Fits a n d
unfolding block_refusal meets12 meets13 meets14 meets15 meets16
fits a n d e =
    let t = (none-exactly (block_tests a n d) (λ z. omega arith, (λ z. omega arith, (λ z. omega arith, (λ z. omega arith, (λ z. omega arith, tt)))))).0 e in
    let p = place_of a d.number in
    let h = neither (eqb (length a.modules) 0) (not (eqb a.download d.download)) t.0 in
    let w = neither (not (ltb d.block (block_count a p))) (not (eqb (length d.bytes) (block_length a p d.block))) t.1.1.1.1.0 in
    record {
      download = eqb-true _ _ (not-false _ h.1);
      found = ltb-true _ _ (not-false _ t.1.0);
      version = eqb-true _ _ (not-false _ t.1.1.0);
      room = ltb-false _ _ t.1.1.1.0;
      within = ltb-true _ _ (not-false _ w.0);
      whole = eqb-true _ _ (not-false _ w.1);
    }

-- a mark moves no block
pub block-at : (r : Record) (k i b : ℕ) → block_at (marking r k) i b ≡ block_at r i b
unfolding block_at marking
block-at r k i b = refl

-- the place of the module whose number a data section bears
abbrev pub spot : Held → Arrived → ℕ
spot x d = place_of x.says.announced d.number

-- the record and image after "stored"
unfoldable pub put : Held → ℕ → Arrived → Held
put x i d = record { says = marking x.says (mark_of i d.block); image = overwrite x.image (block_at x.says i d.block) d.bytes }

-- what no section but a new announcement changes
pub record Fixed (x y : Held) : Type 0 where
  pub told : y.says.announced ≡ x.says.announced
  pub long : length y.image ≡ length x.image
  pub kept : Kept y.says

-- A stored block.
module _ (x : Held) (k : Kept x.says) (d : Arrived) (f : Fits x.says.announced (length x.image) d) where
  pub fits_in : block_at x.says (spot x d) d.block + length d.bytes ≤ length x.image
  fits_in =
      let h = block_room x.says k (spot x d) d.block f.found f.within in
      let w = f.whole in let r = f.room in
      omega arith

  its-word : mark_of (spot x d) d.block / 32 < length x.says.marks
  its-word = in_words x.says k (spot x d) d.block f.found f.within

  put-fixed : Fixed x (put x (spot x d) d)
  unfolding put marking
  put-fixed = record { told = refl; long = length_over x.image _ d.bytes fits_in; kept = mark-kept x.says k (spot x d) d.block f.found f.within }

  put_same : slot (put x (spot x d) d) (spot x d) d.block ≡ record { marked = true; bytes = d.bytes }
  unfolding slot put marking block_at
  put_same =
      let w = f.whole in
      rw (mark-same x.says.marks (mark_of (spot x d) d.block) its-word, ← w)
      (ap (λ (l : List ℕ). record { marked = true; bytes = l }) (over-same x.image (block_at x.says (spot x d) d.block) d.bytes fits_in))

  put_other : (i b : ℕ) → i < length x.says.announced.modules → b < block_count x.says.announced i → (spot x d ≡ i → d.block ≡ b → ⊥)
      → slot (put x (spot x d) d) i b ≡ slot x i b
  unfolding slot put marking
  put_other i b u v n =
      let s = number_small x.says k (spot x d) d.block f.found f.within in
      let t = number_small x.says k i b u v in
      let m = mark-other x.says.marks (mark_of (spot x d) d.block) (mark_of i b) its-word (λ e. n (omega arith) (omega arith)) in
      let p : take (block_length x.says.announced i b) (drop (block_at x.says i b) (overwrite x.image (block_at x.says (spot x d) d.block) d.bytes))
      ≡ take (block_length x.says.announced i b) (drop (block_at x.says i b) x.image)
      = elim (blocks-apart x.says k (spot x d) d.block i b f.found f.within u v n) [
        | inl l ↦ let w = f.whole in rw (over-after x.image (block_at x.says (spot x d) d.block) d.bytes fits_in (block_at x.says i b) (omega arith))
        | inr l ↦ over-before x.image (block_at x.says (spot x d) d.block) d.bytes fits_in (block_at x.says i b) (block_length x.says.announced i b) l
      ] in
      rw (block-at x.says (mark_of (spot x d) d.block) i b, m, p)

-- What a matching data section leaves, by the mark of its block; and what it answers, by the view.
module _ (x : Held) (i : ℕ) (d : Arrived) where
  unmoved : (t : Bool) → after x (cond t (refusing (refused 17)) repeated) ≡ x
  unmoved true = refl
  unmoved false = refl

  matched-marked : received x.says i d.block ≡ true → after x (matched x.says x.image i d) ≡ x
  unfolding matched
  matched-marked e = rw e (unmoved (bytes_differ x.says x.image i d))

  matched-clear : received x.says i d.block ≡ false → after x (matched x.says x.image i d) ≡ put x i d
  unfolding matched put
  matched-clear e = rw e

  answered : (t s : Bool) (k at : ℕ) (bytes : List ℕ) → answer_of (cond t (cond (not s) (refusing (refused 17)) repeated) (stored k at bytes))
      ≡ cond t (cond s (Ok answer.Repeated) (Err (refused 17))) (Ok answer.Stored)
  answered true true k at bytes = refl
  answered true false k at bytes = refl
  answered false s k at bytes = refl

  pub matched-answer : length d.bytes ≡ block_length x.says.announced i d.block → answer_of (matched x.says x.image i d) ≡ reply (slot x i d.block) d.bytes
  unfolding matched bytes_differ reply slot
  matched-answer e = rw (← e) (answered (received x.says i d.block)
      (same_numbers (take (length d.bytes) (drop (block_at x.says i d.block) x.image)) d.bytes) _ _ _)

pub hit-marked : (ds : List ℕ) (v : Slot) → v.marked ≡ true → hit ds v ≡ v
unfolding hit
hit-marked ds v e = rw e

pub hit-clear : (ds : List ℕ) (v : Slot) → v.marked ≡ false → hit ds v ≡ record { marked = true; bytes = ds }
unfolding hit
hit-clear ds v e = rw e

-- bytes that come later change nothing
pub hit_hit : (es ds : List ℕ) (v : Slot) → hit es (hit ds v) ≡ hit ds v
hit_hit es ds v = go v.marked refl
  where
    go : (t : Bool) → v.marked ≡ t → hit es (hit ds v) ≡ hit ds v
    go true e = rw (hit-marked ds v e) (hit-marked es v e)
    go false e = rw (hit-clear ds v e) (hit-marked es (record { marked = true; bytes = ds }) refl)

pub slot-marked : (x : Held) (i b : ℕ) → (slot x i b).marked ≡ received x.says i b
unfolding slot
slot-marked x i b = refl

-- a data section bears the number of the module at place i exactly when i is its place
pub at_place : (x : Held) → Kept x.says → (i : ℕ) → i < length x.says.announced.modules → (d : Arrived) → d.number ≡ (module_at x.says.announced i).number → spot x d ≡ i
at_place x k i u d e = rw e (place_is x.says.announced.modules i k.numbers u)

number_of : (x : Held) (d : Arrived) → spot x d < length x.says.announced.modules → (i : ℕ) → spot x d ≡ i → (module_at x.says.announced i).number ≡ d.number
number_of x d u i e = rw (← e) (number_at d.number x.says.announced.modules u)

-- The view law of a matching data section.
module _ (x : Held) (k : Kept x.says) (d : Arrived) (f : Fits x.says.announced (length x.image) d) where
  abbrev next : Held
  next = after x (matched x.says x.image (spot x d) d)

  pub matched-fixed : Fixed x next
  matched-fixed = go (received x.says (spot x d) d.block) refl
    where
      go : (t : Bool) → received x.says (spot x d) d.block ≡ t → Fixed x next
      go true e = rw (matched-marked x (spot x d) d e) (record { told = refl; long = refl; kept = k })
      go false e = rw (matched-clear x (spot x d) d e) (put-fixed x k d f)

  matched-same : slot next (spot x d) d.block ≡ hit d.bytes (slot x (spot x d) d.block)
  matched-same = go (received x.says (spot x d) d.block) refl
    where
      go : (t : Bool) → received x.says (spot x d) d.block ≡ t → slot next (spot x d) d.block ≡ hit d.bytes (slot x (spot x d) d.block)
      go true e = rw (matched-marked x (spot x d) d e) (sym (hit-marked d.bytes _ (slot-marked x _ _ ∙ e)))
      go false e = rw (matched-clear x (spot x d) d e) (put_same x k d f ∙ sym (hit-clear d.bytes _ (slot-marked x _ _ ∙ e)))

  matched-other : (i b : ℕ) → i < length x.says.announced.modules → b < block_count x.says.announced i → (spot x d ≡ i → d.block ≡ b → ⊥) → slot next i b ≡ slot x i b
  matched-other i b u v n = go (received x.says (spot x d) d.block) refl
    where
      go : (t : Bool) → received x.says (spot x d) d.block ≡ t → slot next i b ≡ slot x i b
      go true e = rw (matched-marked x (spot x d) d e)
      go false e = rw (matched-clear x (spot x d) d e) (put_other x k d f i b u v n)

  matched_law : (i b : ℕ) → i < length x.says.announced.modules → b < block_count x.says.announced i
      → slot next i b ≡ cond (eqb d.number (module_at x.says.announced i).number && eqb d.block b) (hit d.bytes (slot x i b)) (slot x i b)
  matched_law i b u v = go (eqb d.number (module_at x.says.announced i).number) (eqb d.block b) refl refl
    where
      go : (t w : Bool) → eqb d.number (module_at x.says.announced i).number ≡ t → eqb d.block b ≡ w
          → slot next i b ≡ cond (t && w) (hit d.bytes (slot x i b)) (slot x i b)
      go true true e g = rw (← at_place x k i u d (eqb-true _ _ e), ← (eqb-true d.block b g)) matched-same
      go true false e g = matched-other i b u v (λ _ m. eqb-false d.block b g m)
      go false w e g = matched-other i b u v (λ m _. eqb-false d.number (module_at x.says.announced i).number e (sym (number_of x d f.found i m)))

-- a data section is no new announcement
pub arrived_old : (r : Record) (image : List ℕ) (d : Arrived) → is_new (on_arrived r image d) ≡ false
unfolding on_arrived matched is_new
arrived_old r image d =
    let i = place_of r.announced d.number in
    go (eqb (block_refusal r.announced (length image) d) 0) (received r i d.block) (bytes_differ r image i d) _ _ _
  where
    go : (t u w : Bool) (k at n : ℕ) → is_new (cond t (cond u (cond w (refusing (refused 17)) repeated) (stored k at d.bytes)) (refusing (refused n))) ≡ false
    go true true true k at n = refl
    go true true false k at n = refl
    go true false w k at n = refl
    go false u w k at n = refl

-- THE VIEW LAW, for whatever was heard and is no new announcement.
module _ (x : Held) (k : Kept x.says) where
  unchanged : Fixed x x
  unchanged = record { told = refl; long = refl; kept = k }

  arrived-fixed : (d : Arrived) → Fixed x (after x (on_arrived x.says x.image d))
  unfolding on_arrived
  arrived-fixed d = go (eqb (block_refusal x.says.announced (length x.image) d) 0) refl
    where
      go : (t : Bool) → eqb (block_refusal x.says.announced (length x.image) d) 0 ≡ t
          → Fixed x (after x (cond t (matched x.says x.image (spot x d) d) (refusing (refused (block_refusal x.says.announced (length x.image) d)))))
      go true e = matched-fixed x k d (fits _ _ d (eqb-true _ _ e))
      go false e = unchanged

  announced-fixed : (a : Announced) → is_new (on_announced x.says a) ≡ false → Fixed x (after x (on_announced x.says a))
  unfolding on_announced is_new
  announced-fixed a n = go (same_announced x.says.announced a) n
    where
      go : (t : Bool) → is_new (cond t same (new a)) ≡ false → Fixed x (after x (cond t same (new a)))
      go true n = unchanged
      go false n = absurd (clash _ refl n)

  pub fixed : (h : Heard) → is_new (on_heard x.says x.image h) ≡ false → Fixed x (after x (on_heard x.says x.image h))
  unfolding on_heard
  fixed (refusal m) n = unchanged
  fixed (announced a) n = announced-fixed a n
  fixed (arrived d) n = arrived-fixed d

  module _ (i b : ℕ) (u : i < length x.says.announced.modules) (v : b < block_count x.says.announced i) where
    arrived_law : (d : Arrived) → slot (after x (on_arrived x.says x.image d)) i b
        ≡ cond (block_matches x.says.announced (length x.image) i b d) (hit d.bytes (slot x i b)) (slot x i b)
    unfolding on_arrived block_matches
    arrived_law d = go (eqb (block_refusal x.says.announced (length x.image) d) 0) refl
      where
        go : (t : Bool) → eqb (block_refusal x.says.announced (length x.image) d) 0 ≡ t
            → slot (after x (cond t (matched x.says x.image (spot x d) d) (refusing (refused (block_refusal x.says.announced (length x.image) d))))) i b
            ≡ cond (t && (eqb d.number (module_at x.says.announced i).number && eqb d.block b)) (hit d.bytes (slot x i b)) (slot x i b)
        go true e = matched_law x k d (fits _ _ d (eqb-true _ _ e)) i b u v
        go false e = refl

    announced_law : (a : Announced) → is_new (on_announced x.says a) ≡ false → slot (after x (on_announced x.says a)) i b ≡ slot x i b
    unfolding on_announced is_new
    announced_law a n = go (same_announced x.says.announced a) n
      where
        go : (t : Bool) → is_new (cond t same (new a)) ≡ false → slot (after x (cond t same (new a))) i b ≡ slot x i b
        go true n = refl
        go false n = absurd (clash _ refl n)

    pub view_law : (h : Heard) → is_new (on_heard x.says x.image h) ≡ false
        → slot (after x (on_heard x.says x.image h)) i b ≡ cond (heard_matches x.says.announced (length x.image) i b h) (hit (heard_bytes h) (slot x i b)) (slot x i b)
    unfolding on_heard heard_matches heard_bytes
    view_law (refusal m) n = refl
    view_law (announced a) n = announced_law a n
    view_law (arrived d) n = arrived_law d
