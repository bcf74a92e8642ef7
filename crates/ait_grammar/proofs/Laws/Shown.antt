-- WHAT IS READ OF A DESCRIPTOR'S BYTES IS ITS VALUE, whatever its tag.
use Prim.Native.Nat.{ℕ, ◌+◌, ◌-◌, ◌≤◌, ◌<◌}
use mathlib.Core.Path.{◌≡◌, sym, ap, ◌∙◌}
use mathlib.Core.List.{List, [], ◌++◌}
use native.Mathlib.Nat.{mod-eq_of_lt}
use native.Mathlib.Omega.{arith}
use lib.ListN.{length, take, drop, length-append}
use lib.Seq.{get_or-drop, drop-drop, drop_at}
use Rattle.wire.specs.Fields.{byte_at, field_at, spelled}
use Rattle.wire.specs.Items.{Size, count, items, Whole, IsKind}
use Rattle.wire.specs.Places.{Place, after, bytes, part_at}
use Rattle.wire.proofs.Laws.Fields.{field-one, field_drop, spelled_length, spelled-reads}
use Rattle.wire.proofs.Laws.Finders.{after-at, bytes-at}
use Rattle.wire.proofs.Laws.Loops.{tail}
use Rattle.wire.proofs.Laws.Parts.{part-at}
use Rattle.ait_descriptors.specs.Descriptor.{tag_of, tagged_rest, rest_of}
use Rattle.ait_grammar.specs.Bytes.{sized8, Each, spell_all}
use Rattle.ait_grammar.specs.Contents.{DescriptorValue, spell_contents, spell_descriptor, FitsDescriptor}
use Rattle.ait_grammar.proofs.Laws.Loops.{behind}
use Rattle.wire.proofs.Laws.Meaning.{append-nil}
use Rattle.ait_descriptors.proofs.Laws.Lists.{tagged_is}
use Rattle.ait_grammar.proofs.Laws.Forms.{Form}
use Rattle.ait_grammar.proofs.Laws.Repeated.{filled-count}
use Rattle.ait_grammar.specs.Span.{span}

-- a number at the head of some bytes, and behind k of them
pub first_said : (v : ℕ) (r : List ℕ) → v < 256 → byte_at (spelled 1 v ++ r) 0 ≡ v
first_said v r l = sym (field-one (spelled 1 v ++ r) 0) ∙ spelled-reads 1 v r ∙ mod-eq_of_lt l

pub byte-behind : (v k : ℕ) (p r : List ℕ) → v < 256 → length p ≡ k → byte_at (p ++ (spelled 1 v ++ r)) k ≡ v
byte-behind v k p r l e = sym (field-one (p ++ (spelled 1 v ++ r)) k) ∙ behind 1 v k p r l e

-- the last of some bytes
pub byte_last : (v k : ℕ) (p : List ℕ) → v < 256 → length p ≡ k → byte_at (p ++ spelled 1 v) k ≡ v
byte_last v k p l e = ap (λ (y : List ℕ). byte_at (p ++ y) k) (sym (append-nil (spelled 1 v))) ∙ byte-behind v k p [] l e

-- the rest of a descriptor after h bytes of its contents, of n bytes
pub rest-span : (h : ℕ) (x : List ℕ) (a n : ℕ) → length x ≡ h + n → rest_of h x a ≡ span (a + h) n
rest-span h x a n e = let z : length x - h ≡ n = omega (arith, e) in λ i. record { start = a + h; size = z i }

-- the tag, and all that follows the length
module _ (d : DescriptorValue) (f : FitsDescriptor d) where
  abbrev x : List ℕ
  x = spell_descriptor d

  abbrev c : List ℕ
  c = spell_contents d.contents

  pub tag-said : tag_of x ≡ d.tag
  unfolding spell_descriptor
  tag-said = first_said d.tag (sized8 c) f.tag

  pub rest-said : drop 2 x ≡ c
  unfolding spell_descriptor
  rest-said =
      sym (drop-drop 1 1 x) ∙ ap (drop 1) (drop_at (spelled 1 d.tag) (sized8 c) 1 (spelled_length 1 d.tag))
      ∙ drop_at (spelled 1 (length c)) c 1 (spelled_length 1 (length c))

  pub length-said : length x ≡ 2 + length c
  unfolding spell_descriptor
  length-said =
      let a = spelled_length 1 d.tag in
      let b = spelled_length 1 (length c) in
      rw (length-append, length-append) (omega arith)

  pub byte-said : (k : ℕ) → byte_at x (2 + k) ≡ byte_at c k
  byte-said k = sym (get_or-drop 2 x k 0) ∙ ap (λ (l : List ℕ). byte_at l k) rest-said

  pub field-said : (n k : ℕ) → field_at n x (2 + k) ≡ field_at n c k
  field-said n k = sym (field_drop n x 2 k) ∙ ap (λ (l : List ℕ). field_at n l k) rest-said

  pub drop-said : (k : ℕ) → drop (2 + k) x ≡ drop k c
  drop-said k = sym (drop-drop k 2 x) ∙ ap (drop k) rest-said

  -- what lies behind k bytes of the contents, and a part of n bytes there
  pub after-said : (k : ℕ) → k ≤ length c → part_at (after (2 + k) x) x ≡ drop k c
  after-said k l =
      ap (λ (p : Place). part_at p x) (after-at (2 + k) x (rw length-said (omega arith)))
      ∙ part-at x (2 + k) (length x - (2 + k)) ∙ tail x (2 + k) ∙ drop-said k

  pub part-said : (k n : ℕ) → k + n ≤ length c → part_at (bytes (2 + k) n x) x ≡ take n (drop k c)
  part-said k n l =
      ap (λ (p : Place). part_at p x) (bytes-at (2 + k) n x (rw length-said (omega arith)))
      ∙ part-at x (2 + k) n ∙ ap (take n) (drop-said k)

  -- CONTENTS THAT ARE VALUES LAID END TO END: they are the items of the descriptor, and are counted
  module _ {A : Type 0} (spell : A → List ℕ) (t : ℕ) (e : d.tag ≡ t) (vs : List A) (h : c ≡ spell_all spell vs) where
    pub filled-listed : part_at (tagged_rest t 2 x) x ≡ spell_all spell vs
    filled-listed = ap (λ (p : Place). part_at p x) (sym (tagged_is x t 2 (tag-said ∙ e))) ∙ after-said 0 (omega arith) ∙ h

    pub filled-said : {Fits : A → Type 0} (size : Size) → IsKind size → Form (λ y. Whole size y) spell Fits → Each Fits vs → count size (part_at (tagged_rest t 2 x) x) ≡ length vs
    unfolding count
    filled-said size k F g = ap (λ (y : List ℕ). length (items size y)) filled-listed ∙ filled-count size k F vs g
