-- HOW MANY THERE ARE IS WHAT IS SAID: in an accepted section every place below a count answers a value, and no other does; and the counts
-- that the answers carry are those of the lists that the calls go through.
use Prim.Native.Nat.{ℕ, ◌+◌, ◌≤◌, ◌<◌}
use mathlib.Core.Path.{◌≡◌, sym, ap, ◌∙◌}
use mathlib.Core.List as L
use Rattle.std.proofs.Common.{Ok, Err}
use native.Mathlib.Omega.{arith}
use lib.ListN.{length, take, drop, length-drop}
use lib.Seq.{length-take-le}
use Rattle.wire.specs.Items.{count}
use Rattle.wire.specs.Places.{Place, At, Finder, item_at, after, in_part, part_at}
use Rattle.wire.proofs.Laws.Finders.{Sound, sound-after, after-at}
use Rattle.wire.proofs.Laws.Loops.{tail}
use Rattle.wire.proofs.Laws.Parts.{part-at, item_in, item-past, part-within, found_item}
use Rattle.section.specs.declared.Header.{Header}
use Rattle.section.specs.Answer.{refused}
use Rattle.ait_descriptors.specs.declared.Kind.{Kind}
use Rattle.ait_descriptors.specs.declared.Kind.TheVariants as kind
use Rattle.ait_descriptors.specs.Kinds.{size_of, count_at}
use Rattle.ait_descriptors.specs.Tag02.{base, extension, extensions_start, extensions_in, base_of, extension_read}
use Rattle.ait_descriptors.proofs.Laws.Kinds as kinds
use Rattle.ait_read.specs.declared.Scope.{Scope}
use Rattle.ait_descriptors.specs.declared.Repeated.{Repeated}
use Rattle.ait_descriptors.specs.declared.Repeated.TheVariants.{Bases}
use Rattle.ait_read.specs.declared.Application.{Application}
use Rattle.ait_descriptors.specs.declared.Described.{Described}
use Rattle.ait_descriptors.specs.declared.Item.{Item}
use Rattle.wire.specs.declared.Span.{Span}
use Rattle.ait_read.specs.Acceptance.{table_judged}
use Rattle.ait_read.specs.Places.{loop_at, application_at, own_at, scope_at, descriptor_at, list_at, repeated_at, extensions_at, extension_at}
use Rattle.ait_descriptors.specs.Contents.{list_in, kind_of, repeated_count, described_of, item_of}
use Rattle.ait_read.specs.Records.{application_of}
use Rattle.ait_read.specs.Answers.{lies, located_of, application_answer, descriptor_answer, item_answer, extension_answer}
use Rattle.ait_read.proofs.Laws.Places.{sound-application, sound-descriptor, sound-list_at, sound_repeated, sound-extensions_in}
use Rattle.ait_descriptors.proofs.Laws.Lists.{sound-list}
use Rattle.ait_read.proofs.Laws.Acceptance.{located-none, located-at}

-- an item below the count is located, and no other is
module _ (s : L.List ℕ) (h : Header) (e : table_judged s ≡ Ok h) (k : Kind) (p : Place) (i : ℕ) where
  located_in : i < count_at k p s → (a : ℕ) × (n : ℕ) × (located_of s (in_part (item_at (size_of k) i) p s) ≡ lies a n)
  unfolding count_at
  located_in l =
      let t = item_in (size_of k) (kinds.kind_of_lem k) s i p l in
      (t.0, t.1, sym (located-at s _ h e t.0 t.1 t.2))

  located-past : count_at k p s ≤ i → located_of s (in_part (item_at (size_of k) i) p s) ≡ Err (refused 19)
  unfolding count_at
  located-past l = sym (located-none s _ h e (item-past (size_of k) (kinds.kind_of_lem k) s i p l))

module _ (s : L.List ℕ) (h : Header) (e : table_judged s ≡ Ok h) where
  pub application-there : (i : ℕ) → i < count_at kind.Application (loop_at s) s → (x : Application) × (application_answer s i ≡ Ok x)
  unfolding application_answer application_at
  application-there i l = let t = located_in s h e kind.Application (loop_at s) i l in (application_of (take t.1 (drop t.0 s)), rw t.2)

  pub application-past : (i : ℕ) → count_at kind.Application (loop_at s) s ≤ i → application_answer s i ≡ Err (refused 19)
  unfolding application_answer application_at
  application-past i l = rw (located-past s h e kind.Application (loop_at s) i l)

  pub descriptor-there : (o : Scope) (j : ℕ) → j < count_at kind.Descriptor (scope_at o s) s → (x : Described) × (descriptor_answer s o j ≡ Ok x)
  unfolding descriptor_answer descriptor_at
  descriptor-there o j l = let t = located_in s h e kind.Descriptor (scope_at o s) j l in (described_of (take t.1 (drop t.0 s)) t.0, rw t.2)

  pub descriptor-past : (o : Scope) (j : ℕ) → count_at kind.Descriptor (scope_at o s) s ≤ j → descriptor_answer s o j ≡ Err (refused 19)
  unfolding descriptor_answer descriptor_at
  descriptor-past o j l = rw (located-past s h e kind.Descriptor (scope_at o s) j l)

  pub item-there : (o : Scope) (j : ℕ) (what : Repeated) (k : ℕ) → k < count_at (kind_of what) (list_at o j what s) s → (x : Item) × (item_answer s o j what k ≡ Ok x)
  unfolding item_answer repeated_at
  item-there o j what k l = let t = located_in s h e (kind_of what) (list_at o j what s) k l in (item_of what (take t.1 (drop t.0 s)) t.0, rw t.2)

  pub no_item : (o : Scope) (j : ℕ) (what : Repeated) (k : ℕ) → count_at (kind_of what) (list_at o j what s) s ≤ k → item_answer s o j what k ≡ Err (refused 19)
  unfolding item_answer repeated_at
  no_item o j what k l = rw (located-past s h e (kind_of what) (list_at o j what s) k l)

  pub extension-there : (o : Scope) (j k m : ℕ) → m < count_at kind.Extension (extensions_at o j k s) s → (x : Span) × (extension_answer s o j k m ≡ Ok x)
  unfolding extension_answer extension_at
  extension-there o j k m l = let t = located_in s h e kind.Extension (extensions_at o j k s) m l in (extension_read (take t.1 (drop t.0 s)) t.0, rw t.2)

  pub extension-past : (o : Scope) (j k m : ℕ) → count_at kind.Extension (extensions_at o j k s) s ≤ m → extension_answer s o j k m ≡ Err (refused 19)
  unfolding extension_answer extension_at
  extension-past o j k m l = rw (located-past s h e kind.Extension (extensions_at o j k s) m l)

-- the counts that answers carry are those of the lists in the section
carried : (k : Kind) (g : Finder) → Sound g → (p : Place) (s : L.List ℕ) (a n : ℕ) → p ≡ At a n → a + n ≤ length s
    → count_at k (in_part g p s) s ≡ count_at k (g (take n (drop a s))) (take n (drop a s))
unfolding count_at
carried k g sg p s a n e l = ap (λ (q : Place). count (size_of k) (part_at (in_part g q s) s)) e ∙ ap (count (size_of k)) (part-within g sg s a n l)

module _ (s : L.List ℕ) where
  pub own-count : (i a n : ℕ) → application_at i s ≡ At a n → count_at kind.Descriptor (own_at i s) s ≡ (application_of (take n (drop a s))).descriptors
  unfolding own_at application_of
  own-count i a n e = carried kind.Descriptor (after 9) (sound-after 9) (application_at i s) s a n e (sound-application i s a n e)

  pub list_count : (o : Scope) (j : ℕ) (what : Repeated) (a n : ℕ) → descriptor_at o j s ≡ At a n
      → count_at (kind_of what) (list_at o j what s) s ≡ repeated_count what (take n (drop a s))
  unfolding list_at repeated_count
  list_count o j what a n e = carried (kind_of what) (list_in what) (sound-list what) (descriptor_at o j s) s a n e (sound-descriptor o j s a n e)

  pub extension-count : (o : Scope) (j k a n : ℕ) → repeated_at o j Bases k s ≡ At a n
      → count_at kind.Extension (extensions_at o j k s) s ≡ (base_of (take n (drop a s)) a).extensions
  unfolding extensions_at repeated_at extensions_in count_at size_of kind_of base_of
  extension-count o j k a n e =
      let x : L.List ℕ = take n (drop a s) in
      let f = found_item base (kinds.kind_of_lem kind.Base) k (list_at o j Bases s) s (sound-list_at o j Bases s) a n e in
      let l = sound_repeated o j Bases k s a n e in
      let z : length x ≡ n = length-take-le n (drop a s) (rw length-drop (omega arith)) in
      let w : base x ≡ length x = f.6 ∙ sym z in
      let p : 0 < length x = omega (arith, f.5) in
      carried kind.Extension extensions_in sound-extensions_in (repeated_at o j Bases k s) s a n e l
      ∙ ap (λ (q : Place). count extension (part_at q x)) (after-at (extensions_start x) x (kinds.base-text x w p))
      ∙ ap (count extension) (part-at x _ _ ∙ tail x (extensions_start x)) ∙ kinds.base-count x w p
