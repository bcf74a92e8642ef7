-- What a section does to a record that keeps its rule, by what it was judged to be: what the run's loop knows in each of its ways.
use Prim.Native.Nat.{ℕ, zero, suc, ◌+◌, ◌<◌}
use mathlib.Core.Path.{◌≡◌, refl, sym, ap, subst}
use mathlib.Core.Bool.{Bool, true, false, ◌&&◌}
use mathlib.Core.List.{List, [], ◌∷◌, map}
use native.Mathlib.Omega.{arith}
use lib.Dec.{eqb}
use lib.ListN.{length, take, drop}
use lib.Seq.{get_or-drop}
use borrow.Author.Tests.{eqb-true}
use Rattle.wire.specs.Fields.{byte_at}
use Rattle.wire.proofs.Laws.Tests.{clash, both}
use Rattle.wire.specs.Copies.{same_numbers}
use Rattle.crc_tables.proofs.Laws.Right.{Bytes}
use Rattle.section.specs.declared.Rules.TheVariants.{Carousel as Carousels}
use Rattle.section.specs.declared.Refusal.{Refusal}
use Rattle.section.specs.Header.{application_table, is_table}
use Rattle.carousel_messages.specs.declared.Block.{Block}
use Rattle.carousel_messages.specs.Limits.{most_modules}
use Rattle.carousel_messages.specs.Judged.{judged_of, number_of_judged}
use Rattle.carousel_messages.specs.Heard.{arrived_in, span_of, sizes_of}
use Rattle.carousel_messages.proofs.Exact as messages
use Rattle.carousel_record.specs.declared.Carousel.{Carousel}
use Rattle.carousel_record.specs.declared.Head.{Head}
use Rattle.carousel_record.specs.declared.Module.{Module}
use Rattle.carousel_record.specs.Record.{record_of, sums, within_limits, ruled, ruled_of, number_in, head_of, joined_of}
use Rattle.carousel_record.specs.Marks.{mark_words}
use Rattle.carousel_record.proofs.Laws.Rule.{ruled-says}
use Rattle.carousel_step.specs.Step.{StepOutcome, refusing, on_arrived, carousel_after, image_after, stepped_of, image_of, returning}
use Rattle.carousel_step.specs.declared.Stepped.{Stepped}
use Rattle.carousel_step.proofs.Laws.Outcomes.{stepped-is, comes-refused, comes-carried}
use Rattle.receiver.specs.Run.{given_of, image_given}
use Rattle.std.proofs.Common.{Ok, Err}
use Rattle.carousel_messages.specs.declared.Message.TheVariants as judged

-- a record held in its parts: whole, and keeping its rule
abbrev pub Whole : Head → List Module → (numbers marks : List ℕ) → Type 0
Whole h ms numbers marks =
    (numbers ≡ map number_in ms) × (length numbers ≡ most_modules) × (h ≡ head_of (joined_of h ms marks)) × (ruled_of (joined_of h ms marks) ≡ true)

module _ (c : Carousel) (s image : List ℕ) (ruled : ruled_of c ≡ true) where
  -- of a section that is not an application's, the step's
  by-step : eqb (byte_at s 0) application_table ≡ false → (o : StepOutcome) → (stepped_of c s image ≡ returning c o) × (image_of c s image ≡ image_after image o)
      → ((given_of c s image).state ≡ carousel_after c o) × (image_given c s image ≡ image_after image o)
  unfolding given_of image_given
  by-step e o p = rw e (ap (λ (x : Stepped). x.state) p.0, p.1)

  -- what the carousel refuses changes nothing; a table is refused by it, too
  pub given-refused : (r : Refusal) → judged_of s ≡ Err r → ((given_of c s image).state ≡ c) × (image_given c s image ≡ image)
  unfolding given_of image_given
  given-refused r e = go (eqb (byte_at s 0) application_table) refl
    where
      go : (t : Bool) → eqb (byte_at s 0) application_table ≡ t → ((given_of c s image).state ≡ c) × (image_given c s image ≡ image)
      go true f = rw f (refl, refl)
      go false f = by-step f (refusing r) (stepped-is c s image (refusing r) (comes-refused c s image ruled r e))

  -- a section of a block is no table
  no_table : (b : Block) → judged_of s ≡ Ok (judged.Carried b) → eqb (byte_at s 0) application_table ≡ false
  no_table b e = go (eqb (byte_at s 0) application_table) refl
    where
      go : (t : Bool) → eqb (byte_at s 0) application_table ≡ t → t ≡ false
      go true f =
          let g = ((messages.good-exactly s).0 (ap number_of_judged e)).0.table in
          let z : is_table Carousels application_table ≡ true = rw (eqb-true (byte_at s 0) application_table f) at g in
          absurd (clash (is_table Carousels application_table) z refl)
      go false f = refl

  pub given-carried : (b : Block) → judged_of s ≡ Ok (judged.Carried b) → let o = on_arrived (record_of c) image (arrived_in b (span_of s b.part.start b.part.size)) in
      ((given_of c s image).state ≡ carousel_after c o) × (image_given c s image ≡ image_after image o)
  given-carried b e =
      let o = on_arrived (record_of c) image (arrived_in b (span_of s b.part.start b.part.size)) in
      by-step (no_table b e) o (stepped-is c s image o (comes-carried c s image ruled b e))

-- a record that keeps its rule has all its marks
pub ruled-words : (c : Carousel) → ruled_of c ≡ true → length c.marks ≡ mark_words
unfolding ruled
ruled-words c e =
    let r = record_of c in
    let t₁ = eqb (length r.marks) mark_words in
    let t₂ = within_limits r.announced in
    let t₃ = same_numbers r.starts (sums 0 (sizes_of r.announced.modules)) in
    eqb-true _ _ (both t₁ t₂ (both (t₁ && t₂) t₃ (both (t₁ && t₂ && t₃) _ (ruled-says c e)).0).0).0

-- a part of bytes is bytes
taken-bytes : (k : ℕ) (x : List ℕ) → Bytes x → Bytes (take k x)
taken-bytes zero x f i = omega arith
taken-bytes (suc k) [] f i = omega arith
taken-bytes (suc k) (y ∷ x) f zero = f zero
taken-bytes (suc k) (y ∷ x) f (suc i) = taken-bytes k x (λ j. f (suc j)) i

pub part_bytes : (n m p : ℕ) (s : List ℕ) → Bytes s → Bytes (take n (take m (drop p s)))
part_bytes n m p s b = taken-bytes n (take m (drop p s)) (taken-bytes m (drop p s) (λ i. subst (λ (y : ℕ). y < 256) (sym (get_or-drop p s i 0)) (b (p + i))))
