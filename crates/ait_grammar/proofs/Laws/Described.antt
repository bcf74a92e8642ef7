-- A DESCRIPTOR'S BYTES ARE DESCRIBED BY ITS VALUE, a line for each tag.
use Prim.Native.Nat.{ℕ, ◌+◌}
use mathlib.Core.Path.{◌≡◌, refl, sym, ap, ◌∙◌}
use mathlib.Core.List.{List}
use lib.ListN.{length}
use Rattle.ait_descriptors.specs.Descriptor.{rest_of}
use Rattle.ait_grammar.specs.Contents.{DescriptorValue, spell_contents, spell_descriptor, FitsDescriptor, ContentsValue, of00, of01, of02, of05, of15, raw, FitsContents}
use Rattle.ait_descriptors.specs.declared.Described.TheVariants as described
use Rattle.ait_descriptors.specs.Tag15.{described15}
use Rattle.ait_descriptors.specs.Contents.{described_as, described_of}
use Rattle.ait_descriptors.proofs.Laws.Tags.{described-at, described_unknown}
use Rattle.ait_grammar.specs.Shown.{contents_shown, descriptor_shown, raw_shown}
use Rattle.ait_grammar.proofs.Laws.Shown.{tag-said, length-said, rest-span}
use Rattle.ait_grammar.specs.Span.{span}
use Rattle.ait_grammar.proofs.Laws.Read00.{shown-00}
use Rattle.ait_grammar.proofs.Laws.Read01.{shown-01}
use Rattle.ait_grammar.proofs.Laws.Read02.{shown_value02}
use Rattle.ait_grammar.proofs.Laws.Read05.{shown-05}

module _ (d : DescriptorValue) (f : FitsDescriptor d) where
  abbrev x : List ℕ
  x = spell_descriptor d

  abbrev c : List ℕ
  c = spell_contents d.contents

  -- contents that are bytes
  all-span : (a : ℕ) (xs : List ℕ) → c ≡ xs → rest_of 2 x a ≡ span (a + 2) (length xs)
  all-span a xs h = rest-span 2 x a (length xs) (length-said d f ∙ ap (λ (l : List ℕ). 2 + length l) h)

  -- 0x15, and the other tags
  shown-15 : (a : ℕ) → (xs : List ℕ) → d.contents ≡ of15 xs → FitsContents d.tag (of15 xs) → described_of x a ≡ described.Path (span (a + 2) (length xs))
  unfolding spell_contents described_as described15
  shown-15 a xs h g =
      sym (described-at x a 0x15 (tag-said d f ∙ g.0))
      ∙ ap described.Path (all-span a xs (ap spell_contents h))

  shown-raw : (a : ℕ) → (xs : List ℕ) → d.contents ≡ raw xs → FitsContents d.tag (raw xs) → described_of x a ≡ described.Raw (raw_shown d.tag xs a)
  unfolding spell_contents
  shown-raw a xs h g =
      let t = tag-said d f in
      sym (described-at x a d.tag t) ∙ sym (described_unknown x a d.tag g.0)
      ∙ (λ i. described.Raw (record { tag = t i; contents = all-span a xs (ap spell_contents h) i }))

  -- ALL TAGS
  pub descriptor-read : (a : ℕ) → described_of x a ≡ descriptor_shown d a
  descriptor-read a = go d.contents refl f.contents
    where
      go : (w : ContentsValue) → d.contents ≡ w → FitsContents d.tag w → described_of x a ≡ contents_shown d.tag w a
      go (of00 v) h g = shown-00 d f v h g.0 g.1 a
      go (of01 ns) h g = shown-01 d f a ns h g
      go (of02 v) h g = shown_value02 d f v h g.0 g.1 a
      go (of05 is) h g = shown-05 d f a is h g
      go (of15 xs) h g = shown-15 a xs h g
      go (raw xs) h g = shown-raw a xs h g
