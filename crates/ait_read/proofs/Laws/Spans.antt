-- WHAT `part` HANDS BACK LIES INSIDE THE DESCRIPTOR IT BELONGS TO: every span that an answer carries lies between the first and the last byte
-- of the descriptor that was asked, and `part` of it is those bytes.
use Prim.Native.Nat.{ℕ, ◌+◌, ◌≤◌}
use mathlib.Core.Path.{◌≡◌, sym, ◌∙◌}
use mathlib.Core.List as L
use Rattle.std.proofs.Common.{Ok}
use native.Mathlib.Omega.{arith}
use lib.ListN.{length, take, drop, length-drop}
use lib.Seq.{length-take-le}
use borrow.Author.Tests.{le-leb}
use Rattle.wire.specs.Places.{At, item_at}
use Rattle.wire.specs.Fields.{byte_at}
use Rattle.wire.proofs.Laws.Parts.{found_item, found_inside}
use Rattle.wire.proofs.Laws.Frames.{framed-least}
use Rattle.wire.proofs.Laws.Finders.{at-same, sound_item}
use Rattle.section.specs.declared.Header.{Header}
use Rattle.ait_descriptors.specs.declared.Kind.TheVariants as kind
use Rattle.ait_descriptors.specs.Kinds.{size_of}
use Rattle.ait_descriptors.specs.Descriptor.{descriptor, tag_of, contents_of, rest_of}
use Rattle.ait_descriptors.specs.Tag01.{name, name_of, described01}
use Rattle.ait_descriptors.specs.Tag05.{described05}
use Rattle.ait_descriptors.specs.Tag15.{described15}
use Rattle.ait_descriptors.specs.Tag02.{base, extension, extensions_start, extensions_in, base_of, extension_read}
use Rattle.ait_descriptors.proofs.Laws.Contents.{good02-long}
use Rattle.ait_descriptors.proofs.Laws.Tags.{good-at}
use Rattle.ait_descriptors.proofs.Laws.Kinds as kinds
use Rattle.ait_read.specs.declared.Scope.{Scope}
use Rattle.ait_descriptors.specs.declared.Repeated.{Repeated}
use Rattle.ait_descriptors.specs.declared.Repeated.TheVariants.{Names, Bases}
use Rattle.wire.specs.declared.Span.{Span}
use Rattle.ait_descriptors.specs.declared.Described.{Described}
use Rattle.ait_descriptors.specs.declared.Described.TheVariants as described
use Rattle.ait_read.specs.Acceptance.{table_judged}
use Rattle.ait_read.specs.Places.{scope_at, descriptor_at, list_at, repeated_at, extensions_at, extension_at}
use Rattle.ait_descriptors.specs.Contents.{contents_good, list_in, kind_of, described_of}
use Rattle.ait_descriptors.specs.Tag00.{described00}
use Rattle.ait_read.specs.Answers.{span_part}
use Rattle.ait_descriptors.proofs.Laws.Records.{cases-02, cases}
use Rattle.ait_read.proofs.Laws.Made.{descriptor_made}
use Rattle.ait_read.proofs.Laws.Places.{sound_scope, sound-descriptor, sound-list_at, sound_repeated, sound-extensions, sound-extension, sound-extensions_in}
use Rattle.ait_descriptors.proofs.Laws.Lists.{sound-list}

-- a span within the n bytes from a on
abbrev pub Lies : Span → ℕ → ℕ → Type 0
Lies x a n = (a ≤ x.start) × (x.start + x.size ≤ a + n)

-- a span within the section is handed out as its bytes
pub part-is : (s : L.List ℕ) (start size : ℕ) → start + size ≤ length s → span_part s start size ≡ take size (drop start s)
unfolding span_part
part-is s start size h = rw (le-leb (start + size) (length s) h)

-- what follows the header of a thing of n bytes at a
rest-lies : (h : ℕ) (s : L.List ℕ) (a n : ℕ) → a + n ≤ length s → h ≤ n → Lies (rest_of h (take n (drop a s)) a) a n
rest-lies h s a n f l =
    let z : length (take n (drop a s)) ≡ n = length-take-le n (drop a s) (rw length-drop (omega arith)) in
    (omega arith, omega arith)

-- a span of something that lies in something larger
wider : (x : Span) (b m a n : ℕ) → (a ≤ b) × (b + m ≤ a + n) → Lies x b m → Lies x a n
wider x b m a n i l = (omega arith, omega arith)

-- the spans that a descriptor's answer carries
abbrev pub SpansLie : Described → ℕ → ℕ → Type 0
SpansLie (described.Application x) a n = Unit {0}
SpansLie (described.Names k) a n = Unit {0}
SpansLie (described.Local x) a n = Unit {0}
SpansLie (described.Remote x) a n = Unit {0}
SpansLie (described.Bases x) a n = Unit {0}
SpansLie (described.Selector x) a n = Lies x.selector a n
SpansLie (described.Identifiers k) a n = Unit {0}
SpansLie (described.Path x) a n = Lies x a n
SpansLie (described.Raw x) a n = Lies x.contents a n

-- a base that was found has its text and its count
pub whole-base : (s : L.List ℕ) (o : Scope) (j k b m : ℕ) → repeated_at o j Bases k s ≡ At b m → extensions_start (take m (drop b s)) ≤ m
unfolding repeated_at kind_of size_of
whole-base s o j k b m f =
    let x : L.List ℕ = take m (drop b s) in
    let q = found_item base (kinds.kind_of_lem kind.Base) k (list_at o j Bases s) s (sound-list_at o j Bases s) b m f in
    let h = sound_repeated o j Bases k s b m f in
    let z : length x ≡ m = length-take-le m (drop b s) (rw length-drop (omega arith)) in
    omega (arith, kinds.base-text x (q.6 ∙ sym z) (omega (arith, q.5)))

module _ (s : L.List ℕ) (o : Scope) (j a n : ℕ) (e : descriptor_at o j s ≡ At a n) where
  abbrev d : L.List ℕ
  d = take n (drop a s)

  fits : a + n ≤ length s
  fits = sound-descriptor o j s a n e

  long : length d ≡ n
  long = length-take-le n (drop a s) (let f = fits in rw length-drop (omega arith))

  -- a descriptor has its tag and its length
  two : 2 ≤ n
  unfolding descriptor_at size_of
  two =
      let f = found_item descriptor (kinds.kind_of_lem kind.Descriptor) j (scope_at o s) s (sound_scope o s) a n e in
      let g = framed-least 2 (λ h. byte_at h 1) d (λ z. omega (arith, z, f.5, f.6)) in
      omega (arith, g, f.6)

  -- a list of the descriptor, and an item of the list, lie in it
  list_in_lem : (what : Repeated) (b m : ℕ) → list_at o j what s ≡ At b m → (a ≤ b) × (b + m ≤ a + n)
  unfolding list_at
  list_in_lem what b m f =
      let q = found_inside (list_in what) (sound-list what) (descriptor_at o j s) s (sound-descriptor o j s) b m f in
      let x = at-same a n q.0 q.1 (sym e ∙ q.2) in
      (omega (arith, x.0, q.3), omega (arith, x.1, q.4))

  item_in : (what : Repeated) (k b m : ℕ) → repeated_at o j what k s ≡ At b m → (a ≤ b) × (b + m ≤ a + n)
  unfolding repeated_at
  item_in what k b m f =
      let q = found_inside (item_at (size_of (kind_of what)) k) (sound_item (size_of (kind_of what)) (kinds.kind_of_lem (kind_of what)) k) (list_at o j what s) s (sound-list_at o j what s) b m f in
      let l = list_in_lem what q.0 q.1 q.2 in
      (omega (arith, q.3), omega (arith, q.4))

  -- the text of a name, of a base, of an extension
  pub name-lies : (k b m : ℕ) → repeated_at o j Names k s ≡ At b m → Lies (name_of (take m (drop b s)) b).text a n
  unfolding name_of repeated_at kind_of size_of
  name-lies k b m f =
      let q = found_item name (kinds.kind_of_lem kind.Name) k (list_at o j Names s) s (sound-list_at o j Names s) b m f in
      let g = framed-least 4 (λ h. byte_at h 3) (take m (drop b s)) (λ z. omega (arith, z, q.5, q.6)) in
      wider _ b m a n (item_in Names k b m f) (rest-lies 4 s b m (sound_repeated o j Names k s b m f) (omega (arith, g, q.6)))

  pub base-lies : (k b m : ℕ) → repeated_at o j Bases k s ≡ At b m → Lies (base_of (take m (drop b s)) b).text a n
  unfolding base_of
  base-lies k b m f =
      let w = whole-base s o j k b m f in
      wider _ b m a n (item_in Bases k b m f) (omega arith, omega arith)

  pub extension-lies : (k i b m : ℕ) → extension_at o j k i s ≡ At b m → Lies (extension_read (take m (drop b s)) b) a n
  unfolding extension_at extensions_at extension_read size_of
  extension-lies k i b m f =
      let q = found_item extension kinds.extension_kind i (extensions_at o j k s) s (sound-extensions o j k s) b m f in
      let g = framed-least 1 (λ h. byte_at h 0) (take m (drop b s)) (λ z. omega (arith, z, q.5, q.6)) in
      let r = found_inside extensions_in sound-extensions_in (repeated_at o j Bases k s) s (sound_repeated o j Bases k s) q.0 q.1 q.2 in
      let u = item_in Bases k r.0 r.1 r.2 in
      wider _ b m a n (omega (arith, q.3, r.3), omega (arith, q.4, r.4)) (rest-lies 1 s b m (sound-extension o j k i s b m f) (omega (arith, g, q.6)))

  -- EVERY SPAN OF A DESCRIPTOR'S ANSWER LIES IN THE DESCRIPTOR
  module _ (h : Header) (accepted : table_judged s ≡ Ok h) where
    -- a 0x02 has its protocol and its label, since it is well made
    five : tag_of d ≡ 0x02 → 5 ≤ n
    unfolding contents_good
    five t =
        let m = descriptor_made s h accepted o j a n e in
        let k = good02-long (contents_of d) (good-at (tag_of d) (contents_of d) 0x02 t ∙ m) in
        let l = long in
        omega (arith, simp length-drop at k)

    pub described-lies : SpansLie (described_of d a) a n
    unfolding described00 described01 described05 described15
    described-lies = cases (λ x. SpansLie x a n) d a
        (λ t. cases-02 (λ x. SpansLie x a n) d a tt tt tt (rest-lies 5 s a n fits (five t)))
        (λ t. (tt, tt, tt, rest-lies 2 s a n fits two, rest-lies 2 s a n fits two))
