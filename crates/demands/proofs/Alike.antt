-- Two records and images that agree on all that concerns one module: what shows of them, and that they go on agreeing.
use Prim.Native.Nat.{ℕ, ◌*◌, ◌<◌}
use mathlib.Core.Path.{◌≡◌, refl, sym, ap, ◌∙◌}
use mathlib.Core.Bool.{Bool, true, false, not, cond}
use mathlib.Core.List.{List}
use native.Mathlib.Omega.{arith}
use lib.Dec.{eqb}
use lib.ListN.{length, get_or, take, drop}
use lib.Seq.{drop-drop}
use borrow.Author.Tests.{eqb-true}
use Rattle.wire.proofs.Laws.Tests.{both, clash}
use Rattle.section.specs.Answer.{refused}
use Rattle.carousel_messages.specs.Limits.{most_blocks}
use Rattle.carousel_messages.specs.Heard.{Announced, Arrived, Heard, refusal, announced, arrived}
use Rattle.carousel_record.specs.Marks.{clear_among}
use Rattle.carousel_record.specs.Record.{Record, module_at, block_count, block_length, block_at, module_part, missing_of}
use Rattle.carousel_step.specs.Step.{meets12, block_refusal, refusing, matched, on_arrived, on_heard, answer_of}
use Rattle.carousel_step.specs.Matching.{block_for, heard_for, heard_matches}
use Rattle.carousel_step.proofs.Views.{Held as Said, after, Slot, slot, reply, is_new}
use Rattle.carousel_record.proofs.Laws.Places.{block-size_pos}
use Rattle.carousel_record.proofs.Laws.Rule.{Kept}
use Rattle.carousel_step.proofs.View.{fits, spot, matched-answer, slot-marked, at_place, arrived_old, fixed, view_law}
use Rattle.carousel_step.proofs.Matching.{matching_for}
use Rattle.demands.specs.Demand.{joined_blocks}
use Rattle.demands.proofs.Lists.{joined_ext, joined_pieces, clear_ext}
use Rattle.std.proofs.Common.{Err}
use Rattle.carousel_step.specs.Step.{Answered as Answer}

-- a module's part of the image is its blocks' views laid end to end
slot-bytes : (x : Said) (i b : ℕ) → take (block_length x.says.announced i b) (drop (b * x.says.announced.block_size) (drop (get_or x.says.starts i 0) x.image)) ≡ (slot x i b).bytes
unfolding slot block_at
slot-bytes x i b = rw (drop-drop (b * x.says.announced.block_size) (get_or x.says.starts i 0) x.image)

pub part-slots : (x : Said) → Kept x.says → (i : ℕ) → module_part x.says x.image i ≡ joined_blocks (block_count x.says.announced i) (λ b. (slot x i b).bytes)
unfolding module_part
part-slots x k i =
    let a = x.says.announced in
    sym (joined_pieces a.block_size (module_at a i).size (block-size_pos a.block_size a.modules k.limits) (drop (get_or x.says.starts i 0) x.image))
    ∙ joined_ext (block_count a i) _ _ (λ b l. slot-bytes x i b)

pub record Alike (i : ℕ) (x y : Said) : Type 0 where
  pub told : y.says.announced ≡ x.says.announced
  pub long : length y.image ≡ length x.image
  pub kept_l : Kept x.says
  pub kept_r : Kept y.says
  pub slots : (b : ℕ) → b < block_count x.says.announced i → slot x i b ≡ slot y i b

pub alike_sym : (i : ℕ) (x y : Said) → Alike i x y → Alike i y x
alike_sym i x y al = record { told = sym al.told; long = sym al.long; kept_l = al.kept_r; kept_r = al.kept_l; slots = λ b l. sym (al.slots b (rw al.told at l)) }

pub alike_trans : (i : ℕ) (x y z : Said) → Alike i x y → Alike i y z → Alike i x z
alike_trans i x y z p q = record {
  told = q.told ∙ p.told;
  long = q.long ∙ p.long;
  kept_l = p.kept_l;
  kept_r = q.kept_r;
  slots = λ b l. p.slots b l ∙ q.slots b (rw p.told l);
}

-- WHAT SHOWS: the module's bytes, and its missing blocks
pub alike-bytes : (i : ℕ) (x y : Said) → Alike i x y → module_part x.says x.image i ≡ module_part y.says y.image i
alike-bytes i x y al =
    part-slots x al.kept_l i
    ∙ joined_ext (block_count x.says.announced i) _ _ (λ b l. ap (λ (v : Slot). v.bytes) (al.slots b l))
    ∙ ap (λ (a : Announced). joined_blocks (block_count a i) (λ b. (slot y i b).bytes)) (sym al.told)
    ∙ sym (part-slots y al.kept_r i)

pub alike_missing : (i : ℕ) (x y : Said) → Alike i x y → missing_of x.says i ≡ missing_of y.says i
unfolding missing_of
alike_missing i x y al =
    clear_ext x.says.marks y.says.marks (most_blocks * i) (block_count x.says.announced i) 0
    (λ q l. sym (slot-marked x i q) ∙ ap (λ (v : Slot). v.marked) (al.slots q (omega arith)) ∙ slot-marked y i q)
    ∙ ap (λ (a : Announced). clear_among y.says.marks (most_blocks * i) 0 (block_count a i)) (sym al.told)

-- The answer to a data section for a module, from the announcement, the image's length and one view alone.
unfoldable answer_by : Announced → ℕ → Slot → Arrived → Answer
answer_by a n v d = cond (eqb (block_refusal a n d) 0) (reply v d.bytes) (Err (refused (block_refusal a n d)))

-- the view counts only where no refusal comes before
answer_ext : (a : Announced) (n : ℕ) (v w : Slot) (d : Arrived) → (block_refusal a n d ≡ 0 → v ≡ w) → answer_by a n v d ≡ answer_by a n w d
unfolding answer_by
answer_ext a n v w d f = go (eqb (block_refusal a n d) 0) refl
  where
    go : (t : Bool) → eqb (block_refusal a n d) 0 ≡ t
        → cond t (reply v d.bytes) (Err (refused (block_refusal a n d))) ≡ cond t (reply w d.bytes) (Err (refused (block_refusal a n d)))
    go true h = rw (f (eqb-true _ _ h))
    go false h = refl

module _ (x : Said) (k : Kept x.says) (i : ℕ) (u : i < length x.says.announced.modules) (d : Arrived) (e : d.number ≡ (module_at x.says.announced i).number) where
  own-answer : answer_of (on_arrived x.says x.image d) ≡ answer_by x.says.announced (length x.image) (slot x i d.block) d
  unfolding on_arrived answer_by
  own-answer = go (eqb (block_refusal x.says.announced (length x.image) d) 0) refl
    where
      go : (t : Bool) → eqb (block_refusal x.says.announced (length x.image) d) 0 ≡ t
          → answer_of (cond t (matched x.says x.image (spot x d) d) (refusing (refused (block_refusal x.says.announced (length x.image) d))))
          ≡ cond t (reply (slot x i d.block) d.bytes) (Err (refused (block_refusal x.says.announced (length x.image) d)))
      go true h = matched-answer x (spot x d) d (fits _ _ d (eqb-true _ _ h)).whole ∙ ap (λ (m : ℕ). reply (slot x m d.block) d.bytes) (at_place x k i u d e)
      go false h = refl

  -- its block, where it is not refused, is one of the module's
  own-within : block_refusal x.says.announced (length x.image) d ≡ 0 → d.block < block_count x.says.announced i
  own-within r = rw (at_place x k i u d e) at (fits _ _ d r).within

-- what is for a module is a data section, and so no new announcement
pub for_old : (a : Announced) (i : ℕ) (r : Record) (image : List ℕ) (h : Heard) → heard_for a i h ≡ true → is_new (on_heard r image h) ≡ false
unfolding heard_for on_heard
for_old a i r image (refusal m) e = absurd (clash _ e refl)
for_old a i r image (announced c) e = absurd (clash _ e refl)
for_old a i r image (arrived d) e = arrived_old r image d

-- THEY GO ON AGREEING
module _ (i : ℕ) (x y : Said) (al : Alike i x y) (u : i < length x.says.announced.modules) where
  -- what is for the module answers alike
  same_answer : (d : Arrived) → d.number ≡ (module_at x.says.announced i).number → answer_of (on_arrived x.says x.image d) ≡ answer_of (on_arrived y.says y.image d)
  same_answer d e =
      own-answer x al.kept_l i u d e
      ∙ answer_ext x.says.announced (length x.image) (slot x i d.block) (slot y i d.block) d (λ r. al.slots d.block (own-within x al.kept_l i u d e r))
      ∙ ap (λ (a : Announced). answer_by a (length x.image) (slot y i d.block) d) (sym al.told)
      ∙ ap (λ (n : ℕ). answer_by y.says.announced n (slot y i d.block) d) (sym al.long)
      ∙ sym (own-answer y al.kept_r i (rw al.told u) d (rw al.told e))

  pub for-answer : (h : Heard) → heard_for x.says.announced i h ≡ true → answer_of (on_heard x.says x.image h) ≡ answer_of (on_heard y.says y.image h)
  unfolding on_heard heard_for block_for
  for-answer (refusal m) e = refl
  for-answer (announced a) e = absurd (clash _ e refl)
  for-answer (arrived d) e = same_answer d (eqb-true _ _ (both (not (meets12 x.says.announced d)) _ e).1)

  -- whatever is no new announcement, heard by both, leaves them alike
  pub both-alike : (h : Heard) → is_new (on_heard x.says x.image h) ≡ false → is_new (on_heard y.says y.image h) ≡ false
      → Alike i (after x (on_heard x.says x.image h)) (after y (on_heard y.says y.image h))
  both-alike h m n =
      let f = fixed x al.kept_l h m in
      let g = fixed y al.kept_r h n in
      record {
        told = g.told ∙ al.told ∙ sym f.told;
        long = g.long ∙ al.long ∙ sym f.long;
        kept_l = f.kept;
        kept_r = g.kept;
        slots = λ b l. seen b (rw f.told at l);
      }
    where
      seen : (b : ℕ) → b < block_count x.says.announced i → slot (after x (on_heard x.says x.image h)) i b ≡ slot (after y (on_heard y.says y.image h)) i b
      seen b l =
          view_law x al.kept_l i b u l h m
          ∙ rw (al.slots b l, ← al.told, ← al.long) (sym (view_law y al.kept_r i b (rw al.told u) (rw al.told l) h n))

  -- and so does, heard by one alone, what is not for the module either
  pub left-alike : (h : Heard) → is_new (on_heard x.says x.image h) ≡ false → heard_for x.says.announced i h ≡ false → Alike i (after x (on_heard x.says x.image h)) y
  left-alike h m e =
      let f = fixed x al.kept_l h m in
      record {
        told = al.told ∙ sym f.told;
        long = al.long ∙ sym f.long;
        kept_l = f.kept;
        kept_r = al.kept_r;
        slots = λ b l. seen b (rw f.told at l);
      }
    where
      no_match : (b : ℕ) (t : Bool) → heard_matches x.says.announced (length x.image) i b h ≡ t → heard_matches x.says.announced (length x.image) i b h ≡ false
      no_match b true q = absurd (clash _ (matching_for x.says.announced al.kept_l.numbers (length x.image) i b u h q) e)
      no_match b false q = q

      seen : (b : ℕ) → b < block_count x.says.announced i → slot (after x (on_heard x.says x.image h)) i b ≡ slot y i b
      seen b l = view_law x al.kept_l i b u l h m ∙ rw (no_match b _ refl) (al.slots b l)
