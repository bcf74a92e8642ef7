-- WHAT IS READ OF A 0x05, AND OF ITS IDENTIFIERS, IS THEIR VALUE.
use Prim.Native.Nat.{ℕ}
use mathlib.Core.Path.{◌≡◌, sym, ap, ◌∙◌}
use mathlib.Core.List.{List, ◌++◌, append_assoc}
use native.Mathlib.Nat.{mod-eq_of_lt}
use native.Mathlib.Omega.{arith}
use lib.ListN.{length, length-append}
use Rattle.wire.specs.Fields.{byte_at, sixteen_at, spelled, thirty_two_at}
use Rattle.wire.specs.Places.{part_at}
use Rattle.wire.proofs.Laws.Fields.{spelled_length, spelled-reads}
use Rattle.ait_grammar.specs.Bytes.{spell_all}
use Rattle.ait_grammar.specs.Contents.{DescriptorValue, spell_contents, spell_descriptor, FitsDescriptor, of05, FitsContents}
use Rattle.ait_grammar.proofs.Laws.Loops.{behind}
use Rattle.wire.proofs.Laws.Frames.{framed_kind}
use Rattle.ait_descriptors.specs.Tag05.{identifier, identifiers_in, described05, identifier_of}
use Rattle.ait_descriptors.specs.declared.Described.TheVariants as described
use Rattle.ait_descriptors.specs.declared.Repeated.TheVariants.{Identifiers}
use Rattle.ait_descriptors.specs.Contents.{described_as, described_of, item_of}
use Rattle.ait_descriptors.proofs.Laws.Tags.{described-at}
use Rattle.ait_grammar.specs.Tag05.{IdentifierValue, spell_identifier, FitsIdentifier}
use Rattle.ait_grammar.proofs.Laws.Framed.{fixed_form}
use Rattle.ait_grammar.proofs.Laws.Tag05.{identifier_form}
use Rattle.ait_grammar.proofs.Laws.Shown.{tag-said, byte_last, filled-listed, filled-said}
use Rattle.ait_descriptors.specs.declared.Item.TheVariants as item
use Rattle.ait_grammar.specs.Shown05.{identifier_shown}

pub identifier-read : (v : IdentifierValue) → FitsIdentifier v → (a : ℕ) → item_of Identifiers (spell_identifier v) a ≡ identifier_shown v
unfolding item_of identifier_of spell_identifier
identifier-read v f a =
    let q₁ : List ℕ = spelled 4 v.organisation in
    let q₂ : List ℕ = spelled 2 v.number in
    let q₃ : List ℕ = spelled 1 v.priority in
    let l₁ = spelled_length 4 v.organisation in
    let l₂ = spelled_length 2 v.number in
    let n₂ : length (q₁ ++ q₂) ≡ 6 = rw length-append (omega (arith, l₁, l₂)) in
    let b₁ : thirty_two_at (q₁ ++ (q₂ ++ q₃)) 0 ≡ v.organisation = spelled-reads 4 v.organisation (q₂ ++ q₃) ∙ mod-eq_of_lt f.organisation in
    let b₂ : sixteen_at (q₁ ++ (q₂ ++ q₃)) 4 ≡ v.number = behind 2 v.number 4 q₁ q₃ f.number l₁ in
    let b₃ : byte_at (q₁ ++ (q₂ ++ q₃)) 6 ≡ v.priority = ap (λ (y : List ℕ). byte_at y 6) (sym (append_assoc q₁ q₂ q₃)) ∙ byte_last v.priority 6 (q₁ ++ q₂) f.priority n₂ in
    λ i. item.Identifier (record { organisation = b₁ i; number = b₂ i; priority = b₃ i })

module _ (d : DescriptorValue) (f : FitsDescriptor d) where
  abbrev x : List ℕ
  x = spell_descriptor d

  abbrev c : List ℕ
  c = spell_contents d.contents

  pub identifiers-listed : d.tag ≡ 0x05 → (is : List IdentifierValue) → c ≡ spell_all spell_identifier is → part_at (identifiers_in x) x ≡ spell_all spell_identifier is
  unfolding identifiers_in
  identifiers-listed e is h = filled-listed d f spell_identifier 0x05 e is h

  pub shown-05 : (a : ℕ) → (is : List IdentifierValue) → d.contents ≡ of05 is → FitsContents d.tag (of05 is) → described_of x a ≡ described.Identifiers (length is)
  unfolding spell_contents described_as described05 identifiers_in
  shown-05 a is h g =
      sym (described-at x a 0x05 (tag-said d f ∙ g.0))
      ∙ ap described.Identifiers (filled-said d f spell_identifier 0x05 g.0 is (ap spell_contents h) identifier (framed_kind 7 _) (fixed_form 7 (omega arith) identifier_form) g.1)
