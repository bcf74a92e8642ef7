-- WHAT IS READ OF A 0x02, AND OF ITS BASES AND THEIR EXTENSIONS, IS THEIR VALUE.
use Prim.Native.Nat.{ℕ, ◌+◌, ◌-◌, ◌≤◌, ◌<◌}
use mathlib.Core.Path.{◌≡◌, refl, sym, ap, ◌∙◌}
use mathlib.Core.List.{List, [], ◌++◌, append_assoc}
use native.Mathlib.Nat.{mod-eq_of_lt}
use native.Mathlib.Omega.{arith}
use lib.ListN.{length, drop, length-append}
use lib.Seq.{get_or-drop, drop_at}
use Rattle.wire.specs.Fields.{byte_at, field_at, sixteen_at, bits, spelled}
use Rattle.wire.specs.Items.{count, items}
use Rattle.wire.specs.Places.{Place, after, part_at}
use Rattle.wire.proofs.Laws.Fields.{field_drop, spelled_length, spelled-reads}
use Rattle.wire.proofs.Laws.Finders.{after-at}
use Rattle.wire.proofs.Laws.Loops.{tail}
use Rattle.wire.proofs.Laws.Parts.{part-at}
use Rattle.ait_grammar.specs.Bytes.{sized8, Each, spell_all}
use Rattle.ait_grammar.specs.Contents.{DescriptorValue, spell_contents, spell_descriptor, FitsDescriptor, of02}
use Rattle.ait_grammar.proofs.Laws.Loops.{behind}
use Rattle.wire.proofs.Laws.Meaning.{append-nil}
use Rattle.ait_descriptors.specs.Tag02.{base, described02, bases_in, extensions_in, extension_count, base_of, extension_read}
use Rattle.ait_descriptors.specs.declared.Described.TheVariants as described
use Rattle.ait_descriptors.specs.declared.Repeated.TheVariants.{Bases}
use Rattle.ait_descriptors.specs.Contents.{described_as, described_of, item_of}
use Rattle.ait_descriptors.proofs.Laws.Lists.{tagged_is, bases-is}
use Rattle.ait_descriptors.proofs.Laws.Tags.{described-at}
use Rattle.ait_descriptors.proofs.Laws.Records.{is-1, is-3, is-other, is-remote, is_local}
use Rattle.ait_grammar.specs.Tag02.{Value02, SelectorValue, here, remote, bases, unread, LocalValue, RemoteValue, BaseValue}
use Rattle.ait_grammar.specs.Tag02.{spell_local, spell_remote, spell_base, spell_selector, spell02, FitsLocal, FitsRemote, FitsBase, FitsSelector, Fits02}
use Rattle.ait_grammar.proofs.Laws.Repeated.{filled-count}
use Rattle.ait_grammar.proofs.Laws.Bases.{base_kind, base_form}
use Rattle.ait_grammar.proofs.Laws.Shown.{first_said, byte-behind, tag-said, length-said, byte-said, field-said, after-said, rest-span}
use Rattle.ait_descriptors.specs.declared.Item.TheVariants as item
use Rattle.ait_grammar.specs.Span.{span}
use Rattle.ait_grammar.specs.Shown02.{selector_shown, shown02, base_shown}

pub base_read : (b : BaseValue) → FitsBase b → (a : ℕ) → item_of Bases (spell_base b) a ≡ base_shown b a
unfolding item_of base_of spell_base
base_read b f a =
    let n : ℕ = length b.text in
    let r : List ℕ = spelled 1 (length b.extensions) ++ spell_all sized8 b.extensions in
    let x : List ℕ = sized8 b.text ++ r in
    let t : byte_at x 0 ≡ n = ap (λ (y : List ℕ). byte_at y 0) (append_assoc (spelled 1 n) b.text r) ∙ first_said n (b.text ++ r) f.text.0 in
    let l₁ = spelled_length 1 n in
    let l : length (sized8 b.text) ≡ 1 + n = rw length-append (omega (arith, l₁)) in
    let c : extension_count x ≡ length b.extensions =
    ap (λ (k : ℕ). byte_at x (1 + k)) t ∙ byte-behind (length b.extensions) (1 + n) (sized8 b.text) (spell_all sized8 b.extensions) f.count l in
    λ i. item.Base (record { text = span (a + 1) (t i); extensions = c i })

-- the extensions lie behind the base and their count
pub extensions-listed : (b : BaseValue) → FitsBase b → part_at (extensions_in (spell_base b)) (spell_base b) ≡ spell_all sized8 b.extensions
unfolding extensions_in spell_base
extensions-listed b f =
    let n : ℕ = length b.text in
    let e : List ℕ = spell_all sized8 b.extensions in
    let q : List ℕ = spelled 1 (length b.extensions) in
    let x : List ℕ = sized8 b.text ++ (q ++ e) in
    let t : byte_at x 0 ≡ n = ap (λ (y : List ℕ). byte_at y 0) (append_assoc (spelled 1 n) b.text (q ++ e)) ∙ first_said n (b.text ++ (q ++ e)) f.text.0 in
    let l₁ = spelled_length 1 n in
    let l₂ = spelled_length 1 (length b.extensions) in
    let s : x ≡ (sized8 b.text ++ q) ++ e = sym (append_assoc (sized8 b.text) q e) in
    let l : length (sized8 b.text ++ q) ≡ 2 + n = rw (length-append, length-append) (omega (arith, l₁, l₂)) in
    let m : length x ≡ 2 + n + length e = ap length s ∙ rw length-append (omega (arith, l)) in
    ap (λ (k : ℕ). part_at (after (2 + k) x) x) t
    ∙ ap (λ (p : Place). part_at p x) (after-at (2 + n) x (rw m (omega arith))) ∙ part-at x (2 + n) (length x - (2 + n)) ∙ tail x (2 + n)
    ∙ ap (drop (2 + n)) s ∙ drop_at (sized8 b.text ++ q) e (2 + n) l

-- an extension's bytes, after its length
pub extension-read : (xs : List ℕ) (a : ℕ) → extension_read (sized8 xs) a ≡ span (a + 1) (length xs)
unfolding extension_read
extension-read xs a =
    let l = spelled_length 1 (length xs) in
    let z : length (sized8 xs) - 1 ≡ length xs = rw length-append (omega (arith, l)) in
    λ i. span (a + 1) (z i)

module _ (d : DescriptorValue) (f : FitsDescriptor d) where
  abbrev x : List ℕ
  x = spell_descriptor d

  abbrev c : List ℕ
  c = spell_contents d.contents

  -- 0x02: protocol, label, and the selector after them
  module _ (v : Value02) (h : d.contents ≡ of02 v) (e : d.tag ≡ 0x02) (g : Fits02 v) where
    abbrev sel : List ℕ
    sel = spell_selector v.selector

    spelt : c ≡ (spelled 2 v.protocol ++ spelled 1 v.label) ++ sel
    unfolding spell_contents spell02
    spelt = ap spell_contents h

    along : c ≡ spelled 2 v.protocol ++ (spelled 1 v.label ++ sel)
    along = spelt ∙ append_assoc (spelled 2 v.protocol) (spelled 1 v.label) sel

    three : length (spelled 2 v.protocol ++ spelled 1 v.label) ≡ 3
    three = let l = spelled_length 2 v.protocol in let m = spelled_length 1 v.label in rw length-append (omega arith)

    protocol-said : sixteen_at x 2 ≡ v.protocol
    protocol-said =
        field-said d f 2 0 ∙ ap (λ (l : List ℕ). field_at 2 l 0) along
        ∙ spelled-reads 2 v.protocol (spelled 1 v.label ++ sel) ∙ mod-eq_of_lt g.protocol

    label-said : byte_at x 4 ≡ v.label
    label-said =
        byte-said d f 2 ∙ ap (λ (l : List ℕ). byte_at l 2) along
        ∙ byte-behind v.label 2 (spelled 2 v.protocol) sel g.label (spelled_length 2 v.protocol)

    selector-said : drop 3 c ≡ sel
    selector-said = ap (drop 3) spelt ∙ drop_at (spelled 2 v.protocol ++ spelled 1 v.label) sel 3 three

    selector_length : length c ≡ 3 + length sel
    selector_length = ap length spelt ∙ rw length-append (omega (arith, three))

    selector-byte : (k : ℕ) → byte_at x (2 + (3 + k)) ≡ byte_at sel k
    selector-byte k = byte-said d f (3 + k) ∙ sym (get_or-drop 3 c k 0) ∙ ap (λ (l : List ℕ). byte_at l k) selector-said

    selector-field : (n k : ℕ) → field_at n x (2 + (3 + k)) ≡ field_at n sel k
    selector-field n k = field-said d f n (3 + k) ∙ sym (field_drop n c 3 k) ∙ ap (λ (l : List ℕ). field_at n l k) selector-said

    shown-02 : (a : ℕ) → described_of x a ≡ described02 x a
    unfolding described_as
    shown-02 a = sym (described-at x a 0x02 (tag-said d f ∙ e))

    -- protocol 1
    shown_local : (a : ℕ) → (l : LocalValue) → v.selector ≡ here l → v.protocol ≡ 1 → FitsLocal l → described_of x a ≡ selector_shown v.protocol v.label (here l) a
    unfolding spell_selector spell_local
    shown_local a l j p k =
        let s : sel ≡ spelled 1 l.reserved ++ spelled 1 l.component = ap spell_selector j in
        let r : byte_at x 5 ≡ l.reserved = selector-byte 0 ∙ ap (λ (y : List ℕ). byte_at y 0) s ∙ first_said l.reserved (spelled 1 l.component) (wide l.reserved k.reserved) in
        let z : bits 7 1 (byte_at x 5) ≡ 0 = omega (arith, r, k.reserved) in
        let b : byte_at x 6 ≡ l.component = selector-byte 1 ∙ ap (λ (y : List ℕ). byte_at y 1) (s ∙ ap (λ (y : List ℕ). spelled 1 l.reserved ++ y) (sym (append-nil (spelled 1 l.component))))
        ∙ byte-behind l.component 1 (spelled 1 l.reserved) [] k.component (spelled_length 1 l.reserved) in
        shown-02 a ∙ sym (is-1 x a (protocol-said ∙ p)) ∙ sym (is_local x (λ o. omega (arith, z, o))) ∙ (λ i. described.Local (record { label = label-said i; component = b i }))
      where
        wide : (n : ℕ) → n < 128 → n < 256
        wide n l = omega arith

    shown-remote : (a : ℕ) → (r : RemoteValue) → v.selector ≡ remote r → v.protocol ≡ 1 → FitsRemote r
        → described_of x a ≡ selector_shown v.protocol v.label (remote r) a
    unfolding spell_selector spell_remote
    shown-remote a r j p k =
        let q₁ : List ℕ = spelled 1 (128 + r.reserved) in
        let q₂ : List ℕ = spelled 2 r.network in
        let q₃ : List ℕ = spelled 2 r.stream in
        let q₄ : List ℕ = spelled 2 r.service in
        let q₅ : List ℕ = spelled 1 r.component in
        let s : sel ≡ q₁ ++ (q₂ ++ (q₃ ++ (q₄ ++ q₅))) = ap spell_selector j in
        let l₁ = spelled_length 1 (128 + r.reserved) in
        let l₂ = spelled_length 2 r.network in
        let l₃ = spelled_length 2 r.stream in
        let l₄ = spelled_length 2 r.service in
        let s₂ : sel ≡ (q₁ ++ q₂) ++ (q₃ ++ (q₄ ++ q₅)) = s ∙ sym (append_assoc q₁ q₂ (q₃ ++ (q₄ ++ q₅))) in
        let s₃ : sel ≡ ((q₁ ++ q₂) ++ q₃) ++ (q₄ ++ q₅) = s₂ ∙ sym (append_assoc (q₁ ++ q₂) q₃ (q₄ ++ q₅)) in
        let s₄ : sel ≡ (((q₁ ++ q₂) ++ q₃) ++ q₄) ++ (q₅ ++ []) =
        s₃ ∙ sym (append_assoc ((q₁ ++ q₂) ++ q₃) q₄ q₅) ∙ ap (λ (y : List ℕ). (((q₁ ++ q₂) ++ q₃) ++ q₄) ++ y) (sym (append-nil q₅)) in
        let n₂ : length (q₁ ++ q₂) ≡ 3 = rw length-append (omega (arith, l₁, l₂)) in
        let n₃ : length ((q₁ ++ q₂) ++ q₃) ≡ 5 = rw length-append (omega (arith, n₂, l₃)) in
        let n₄ : length (((q₁ ++ q₂) ++ q₃) ++ q₄) ≡ 7 = rw length-append (omega (arith, n₃, l₄)) in
        let b₁ : byte_at x 5 ≡ 128 + r.reserved = selector-byte 0 ∙ ap (λ (y : List ℕ). byte_at y 0) s ∙ first_said (128 + r.reserved) (q₂ ++ (q₃ ++ (q₄ ++ q₅))) (wide r.reserved k.reserved) in
        let z : bits 7 1 (byte_at x 5) ≡ 1 = omega (arith, b₁, k.reserved) in
        let b₂ : sixteen_at x 6 ≡ r.network = selector-field 2 1 ∙ ap (λ (y : List ℕ). field_at 2 y 1) s ∙ behind 2 r.network 1 q₁ (q₃ ++ (q₄ ++ q₅)) k.network l₁ in
        let b₃ : sixteen_at x 8 ≡ r.stream = selector-field 2 3 ∙ ap (λ (y : List ℕ). field_at 2 y 3) s₂ ∙ behind 2 r.stream 3 (q₁ ++ q₂) (q₄ ++ q₅) k.stream n₂ in
        let b₄ : sixteen_at x 10 ≡ r.service = selector-field 2 5 ∙ ap (λ (y : List ℕ). field_at 2 y 5) s₃ ∙ behind 2 r.service 5 ((q₁ ++ q₂) ++ q₃) q₅ k.service n₃ in
        let b₅ : byte_at x 12 ≡ r.component = selector-byte 7 ∙ ap (λ (y : List ℕ). byte_at y 7) s₄ ∙ byte-behind r.component 7 (((q₁ ++ q₂) ++ q₃) ++ q₄) [] k.component n₄ in
        shown-02 a ∙ sym (is-1 x a (protocol-said ∙ p)) ∙ sym (is-remote x z)
        ∙ (λ i. described.Remote (record { label = label-said i; network = b₂ i; transport = b₃ i; service = b₄ i; component = b₅ i }))
      where
        wide : (n : ℕ) → n < 128 → 128 + n < 256
        wide n l = omega arith

    -- protocol 3
    pub bases-listed : (bs : List BaseValue) → v.selector ≡ bases bs → v.protocol ≡ 3 → part_at (bases_in x) x ≡ spell_all spell_base bs
    unfolding spell_selector
    bases-listed bs j p =
        let l : 3 ≤ length c = rw selector_length (omega arith) in
        ap (λ (q : Place). part_at q x) (sym (tagged_is x 0x02 5 (tag-said d f ∙ e) ∙ bases-is x (protocol-said ∙ p)))
        ∙ after-said d f 3 l ∙ selector-said ∙ ap spell_selector j

    bases-said : (bs : List BaseValue) → v.selector ≡ bases bs → v.protocol ≡ 3 → Each FitsBase bs → count base (part_at (bases_in x) x) ≡ length bs
    unfolding count
    bases-said bs j p k = ap (λ (y : List ℕ). length (items base y)) (bases-listed bs j p) ∙ filled-count base base_kind base_form bs k

    shown-bases : (a : ℕ) → (bs : List BaseValue) → v.selector ≡ bases bs → v.protocol ≡ 3 → Each FitsBase bs → described_of x a ≡ selector_shown v.protocol v.label (bases bs) a
    shown-bases a bs j p k = shown-02 a ∙ sym (is-3 x a (protocol-said ∙ p)) ∙ (λ i. described.Bases (record { label = label-said i; bases = bases-said bs j p k i }))

    -- any other
    shown-unread : (a : ℕ) → (xs : List ℕ) → v.selector ≡ unread xs → (v.protocol ≡ 1 → ⊥) → (v.protocol ≡ 3 → ⊥)
        → described_of x a ≡ selector_shown v.protocol v.label (unread xs) a
    unfolding spell_selector
    shown-unread a xs j n₁ n₃ =
        let p = protocol-said in
        let s : length sel ≡ length xs = ap length (ap spell_selector j) in
        let l : length x ≡ 5 + length xs = length-said d f ∙ rw selector_length (omega (arith, s)) in
        let r = rest-span 5 x a (length xs) l in
        shown-02 a ∙ sym (is-other x a (λ o. n₁ (sym p ∙ o)) (λ o. n₃ (sym p ∙ o)))
        ∙ (λ i. described.Selector (record { protocol = p i; label = label-said i; selector = r i }))

    -- by the selector
    of-selector : (a : ℕ) (s : SelectorValue) → v.selector ≡ s → FitsSelector v.protocol s → described_of x a ≡ selector_shown v.protocol v.label s a
    of-selector a (here l) j k = shown_local a l j k.0 k.1
    of-selector a (remote r) j k = shown-remote a r j k.0 k.1
    of-selector a (bases bs) j k = shown-bases a bs j k.0 k.1
    of-selector a (unread xs) j k = shown-unread a xs j k.0 k.1

    pub shown_value02 : (a : ℕ) → described_of x a ≡ shown02 v a
    shown_value02 a = of-selector a v.selector refl g.selector
