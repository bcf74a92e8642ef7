-- A descriptor: its tag and the contents that go with it. 01: "Known contents must be well formed; other tags are kept raw." 001, table 38.
-- One line for each tag in each definition.
use Rattle.std.specs.Prelude.{ℕ, ◌<◌, ◌≡◌, List, ◌++◌, length}
use Rattle.wire.specs.Fields.{spelled}
use Rattle.ait_grammar.specs.Bytes.{Each, Bytes, spell_all, sized8}
use Rattle.ait_grammar.specs.Tag00.{Value00, spell00, Fits00}
use Rattle.ait_grammar.specs.Tag01.{NameValue, spell_name, FitsName}
use Rattle.ait_grammar.specs.Tag02.{Value02, spell02, Fits02}
use Rattle.ait_grammar.specs.Tag05.{IdentifierValue, spell_identifier, FitsIdentifier}

pub data ContentsValue : Type 0 where
  of00 : Value00 → ContentsValue
  of01 : List NameValue → ContentsValue
  of02 : Value02 → ContentsValue
  of05 : List IdentifierValue → ContentsValue
  -- "path, any bytes" (5.3.7, table 33)
  of15 : List ℕ → ContentsValue
  raw : List ℕ → ContentsValue

unfoldable pub spell_contents : ContentsValue → List ℕ
spell_contents (of00 v) = spell00 v
spell_contents (of01 ns) = spell_all spell_name ns
spell_contents (of02 v) = spell02 v
spell_contents (of05 is) = spell_all spell_identifier is
spell_contents (of15 xs) = xs
spell_contents (raw xs) = xs

-- a tag that is none of those above
abbrev pub OtherTag : ℕ → Type 0
OtherTag tag = (tag ≡ 0x00 → ⊥) × (tag ≡ 0x01 → ⊥) × (tag ≡ 0x02 → ⊥) × (tag ≡ 0x05 → ⊥) × (tag ≡ 0x15 → ⊥)

abbrev pub FitsContents : (tag : ℕ) → ContentsValue → Type 0
FitsContents tag (of00 v) = (tag ≡ 0x00) × Fits00 v
FitsContents tag (of01 ns) = (tag ≡ 0x01) × Each FitsName ns
FitsContents tag (of02 v) = (tag ≡ 0x02) × Fits02 v
FitsContents tag (of05 is) = (tag ≡ 0x05) × Each FitsIdentifier is
FitsContents tag (of15 xs) = (tag ≡ 0x15) × Bytes xs
FitsContents tag (raw xs) = OtherTag tag × Bytes xs

-- "A descriptor: tag, length, that many bytes."
pub record DescriptorValue : Type 0 where
  pub tag : ℕ
  pub contents : ContentsValue

unfoldable pub spell_descriptor : DescriptorValue → List ℕ
spell_descriptor d = spelled 1 d.tag ++ sized8 (spell_contents d.contents)

pub record FitsDescriptor (d : DescriptorValue) : Type 0 where
  pub tag : d.tag < 0x100
  pub contents_length : length (spell_contents d.contents) < 0x100
  pub contents : FitsContents d.tag d.contents
