-- `part` OF A SPAN THAT AN ANSWER CARRIES IS THE BYTES THAT THE PAPER MEANS: what is left of the descriptor, or of the item in it, behind the fields in front.
use Prim.Native.Nat.{ℕ, ◌+◌, ◌-◌, ◌≤◌}
use mathlib.Core.Path.{◌≡◌, refl, sym, ap, ◌∙◌}
use mathlib.Core.Bool.{Bool, true, false, cond}
use mathlib.Core.List as L
use Rattle.std.proofs.Common.{Ok, Err}
use native.Mathlib.Decide.{dec_lt}
use native.Mathlib.Omega.{arith}
use lib.Dec.{leb}
use lib.ListN.{length, take, drop, length-drop, drop_of_length-le}
use lib.Seq.{length-take-le}
use Rattle.wire.specs.Fields.{byte_at}
use Rattle.wire.specs.Places.{Place, At, part_at}
use Rattle.wire.proofs.Laws.Finders.{part_part}
use Rattle.wire.proofs.Laws.Loops.{tail}
use Rattle.wire.proofs.Laws.Parts.{part-at}
use Rattle.section.specs.declared.Refusal.{Refusal}
use Rattle.ait_read.specs.declared.Scope.{Scope}
use Rattle.ait_descriptors.specs.Tag05.{described05}
use Rattle.ait_descriptors.specs.Tag15.{described15}
use Rattle.ait_descriptors.specs.declared.Repeated.{Repeated}
use Rattle.ait_descriptors.specs.declared.Repeated.TheVariants.{Profiles, Labels, Names, Bases, Identifiers}
use Rattle.wire.specs.declared.Span.{Span}
use Rattle.ait_descriptors.specs.declared.Described.{Described}
use Rattle.ait_descriptors.specs.declared.Item.{Item}
use Rattle.ait_read.specs.Places.{descriptor_at, repeated_at, extension_at}
use Rattle.ait_descriptors.specs.Descriptor.{rest_of}
use Rattle.ait_descriptors.specs.Tag01.{name_of, described01}
use Rattle.ait_descriptors.specs.Tag02.{base_of, extension_read}
use Rattle.ait_descriptors.specs.Contents.{item_of, described_of}
use Rattle.ait_descriptors.specs.Tag00.{described00}
use Rattle.ait_read.specs.Answers.{located_of, on_located, span_part, descriptor_answer, item_answer, extension_answer}
use Rattle.ait_read.specs.Handed.{handed, OfDescriptor, OfItem}
use Rattle.ait_descriptors.proofs.Laws.Records.{cases-02, cases}
use Rattle.ait_read.proofs.Laws.Places.{sound-descriptor, sound_repeated, sound-extension}
use Rattle.ait_read.proofs.Laws.Spans.{part-is, whole-base}
use Rattle.ait_read.proofs.Laws.Located.{found_at, not-found}

no_bytes : (s : L.List ℕ) (start : ℕ) → span_part s start 0 ≡ L.[]
unfolding span_part
no_bytes s start = go (leb (start + 0) (length s))
  where
    go : (t : Bool) → cond t (take 0 (drop start s)) L.[] ≡ L.[]
    go true = refl
    go false = refl

-- a part of a thing of n bytes at a
module _ (s : L.List ℕ) (a n : ℕ) (f : a + n ≤ length s) where
  abbrev own : L.List ℕ
  own = take n (drop a s)

  long : length own ≡ n
  long = length-take-le n (drop a s) (rw length-drop (omega arith))

  inside : (h z : ℕ) → h + z ≤ n → span_part s (a + h) z ≡ take z (drop h own)
  inside h z l = part-is s (a + h) z (omega arith) ∙ sym (part_part s a n h z f l)

  -- what follows its first h bytes; nothing, where it has no more
  rest : (h : ℕ) → handed s (rest_of h own a) ≡ drop h own
  rest h = elim (dec_lt n h) [
    | yes l ↦ (let e = long in
        let z : length own - h ≡ 0 = omega arith in
        let k : length own ≤ h = omega arith in
        ap (span_part s (a + h)) z ∙ no_bytes s (a + h) ∙ sym (drop_of_length-le own k))
    | no l ↦ inside h (length own - h) (let e = long in omega (arith, l)) ∙ tail own h
  ]

  of-descriptor : OfDescriptor s own (described_of own a)
  unfolding described00 described01 described05 described15
  of-descriptor = cases (OfDescriptor s own) own a (λ t. cases-02 (OfDescriptor s own) own a tt tt tt (rest 5)) (λ t. (tt, tt, tt, rest 2, rest 2))

  of_item : (what : Repeated) → (what ≡ Bases → 1 + byte_at own 0 ≤ n) → OfItem s own (item_of what own a)
  unfolding item_of name_of base_of
  of_item Profiles w = tt
  of_item Labels w = tt
  of_item Names w = rest 4
  of_item Bases w = inside 1 (byte_at own 0) (w refl)
  of_item Identifiers w = tt

  of-extension : handed s (extension_read own a) ≡ drop 1 own
  unfolding extension_read
  of-extension = rest 1

-- an answer that carries what was made of a thing's own bytes
module _ {A B : Type 0} (bad : Refusal → A) (some : B → A) (differ : (r : Refusal) (x : B) → bad r ≡ some x → ⊥) (same : (x y : B) → some x ≡ some y → x ≡ y) where
  of-answer : (make : L.List ℕ → ℕ → B) (P : L.List ℕ → B → Type 0) (s : L.List ℕ) (p : Place)
      → ((a n : ℕ) → p ≡ At a n → P (take n (drop a s)) (make (take n (drop a s)) a))
      → (x : B) → on_located (located_of s p) bad (λ a n. some (make (take n (drop a s)) a)) ≡ some x → P (part_at p s) x
  of-answer make P s p each x e =
      let f = (found_at s p bad (λ a n. some (make (take n (drop a s)) a)) (some x) (λ r. differ r x) e).1 in
      go f.0 f.1 f.2 (same _ _ f.3)
    where
      go : (a n : ℕ) → p ≡ At a n → make (take n (drop a s)) a ≡ x → P (part_at p s) x
      go a n e f =
          let d : part_at p s ≡ take n (drop a s) = ap (λ (q : Place). part_at q s) e ∙ part-at s a n in
          rw (d, ← f) (each a n e)

-- EVERY SPAN THAT AN ANSWER CARRIES: of a descriptor (path, raw contents, selector), of an item in it (the text of a name, of a base), and an extension
pub spans-handed : (s : L.List ℕ)
    → ((o : Scope) (j : ℕ) (x : Described) → descriptor_answer s o j ≡ Ok x → OfDescriptor s (part_at (descriptor_at o j s) s) x)
    × ((o : Scope) (j : ℕ) (what : Repeated) (k : ℕ) (x : Item) → item_answer s o j what k ≡ Ok x → OfItem s (part_at (repeated_at o j what k s) s) x)
    × ((o : Scope) (j k m : ℕ) (x : Span) → extension_answer s o j k m ≡ Ok x → handed s x ≡ drop 1 (part_at (extension_at o j k m s) s))
unfolding descriptor_answer item_answer extension_answer
spans-handed s = (
  λ o j. of-answer Err Ok not-found (λ x y e. cc) described_of (OfDescriptor s) s (descriptor_at o j s)
      (λ a n e. of-descriptor s a n (sound-descriptor o j s a n e)),
  λ o j what k. of-answer Err Ok not-found (λ x y e. cc) (item_of what) (OfItem s) s (repeated_at o j what k s)
      (λ a n e. of_item s a n (sound_repeated o j what k s a n e) what (λ f. let w = whole-base s o j k a n (rw f at e) in omega arith)),
  λ o j k m. of-answer Err Ok not-found (λ x y e. cc) extension_read (λ d x. handed s x ≡ drop 1 d) s (extension_at o j k m s)
      (λ a n e. of-extension s a n (sound-extension o j k m s a n e)),
)
