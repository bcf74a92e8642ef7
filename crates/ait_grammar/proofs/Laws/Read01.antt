-- WHAT IS READ OF A 0x01, AND OF ITS NAMES, IS THEIR VALUE.
use Prim.Native.Nat.{ℕ, ◌+◌, ◌-◌, ◌/◌, ◌%◌, ◌^◌}
use mathlib.Core.Path.{◌≡◌, sym, ap, ◌∙◌}
use mathlib.Core.List.{List, ◌++◌}
use native.Mathlib.Omega.{arith}
use lib.ListN.{length, length-append}
use Rattle.wire.specs.Fields.{spelled}
use Rattle.wire.specs.Places.{part_at}
use Rattle.wire.proofs.Laws.Fields.{spelled_length}
use Rattle.ait_grammar.specs.Bytes.{sized8, spell_all}
use Rattle.ait_grammar.specs.Contents.{DescriptorValue, spell_contents, spell_descriptor, FitsDescriptor, of01, FitsContents}
use Rattle.wire.proofs.Laws.Frames.{framed_kind}
use Rattle.ait_descriptors.specs.Tag01.{name, names_in, described01, name_of}
use Rattle.ait_descriptors.specs.declared.Described.TheVariants as described
use Rattle.ait_descriptors.specs.declared.Repeated.TheVariants.{Names}
use Rattle.ait_descriptors.specs.Contents.{described_as, described_of, item_of}
use Rattle.ait_descriptors.proofs.Laws.Tags.{described-at}
use Rattle.ait_grammar.specs.Tag01.{NameValue, spell_name, FitsName}
use Rattle.ait_grammar.proofs.Laws.Tag01.{name_form}
use Rattle.ait_grammar.proofs.Laws.Shown.{tag-said, filled-listed, filled-said}
use Rattle.ait_descriptors.specs.declared.Item.TheVariants as item
use Rattle.ait_grammar.specs.Span.{span}
use Rattle.ait_grammar.specs.Shown01.{name_shown}

pub name-read : (n : NameValue) → FitsName n → (a : ℕ) → item_of Names (spell_name n) a ≡ name_shown n a
unfolding item_of name_of spell_name spelled
name-read n f a =
    let x : List ℕ = spelled 3 n.language ++ sized8 n.text in
    let l₁ = spelled_length 3 n.language in
    let l₂ = spelled_length 1 (length n.text) in
    let l : length x ≡ 4 + length n.text = rw (length-append, length-append) (omega (arith, l₁, l₂)) in
    let b₁ : n.language / 256 ^ 2 % 256 ≡ n.language / 65536 = omega (arith, f.language) in
    let b₂ : n.language / 256 ^ 1 % 256 ≡ n.language / 256 % 256 = omega arith in
    let b₃ : n.language / 256 ^ 0 % 256 ≡ n.language % 256 = omega arith in
    let z : length x - 4 ≡ length n.text = omega (arith, l) in
    λ i. item.Name (record { first = b₁ i; second = b₂ i; third = b₃ i; text = span (a + 4) (z i) })

module _ (d : DescriptorValue) (f : FitsDescriptor d) where
  abbrev x : List ℕ
  x = spell_descriptor d

  abbrev c : List ℕ
  c = spell_contents d.contents

  pub names-listed : d.tag ≡ 0x01 → (ns : List NameValue) → c ≡ spell_all spell_name ns → part_at (names_in x) x ≡ spell_all spell_name ns
  unfolding names_in
  names-listed e ns h = filled-listed d f spell_name 0x01 e ns h

  pub shown-01 : (a : ℕ) → (ns : List NameValue) → d.contents ≡ of01 ns → FitsContents d.tag (of01 ns) → described_of x a ≡ described.Names (length ns)
  unfolding spell_contents described_as described01 names_in
  shown-01 a ns h g =
      sym (described-at x a 0x01 (tag-said d f ∙ g.0))
      ∙ ap described.Names (filled-said d f spell_name 0x01 g.0 ns (ap spell_contents h) name (framed_kind 4 _) name_form g.1)
