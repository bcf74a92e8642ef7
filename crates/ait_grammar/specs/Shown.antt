-- What the calls by place show of a table's values: each field is the value's, each count the number of its values, each span where its bytes lie.
-- A line for each tag; what is shown of its values is in `Shown00` and so on.
use Rattle.std.specs.Prelude.{ℕ, zero, suc, ◌+◌, ◌≡◌, List, [], ◌∷◌, length}
use Rattle.ait_read.specs.declared.Scope.{Scope}
use Rattle.ait_read.specs.declared.Scope.TheVariants.{Common, Own}
use Rattle.ait_read.specs.declared.Application.{Application}
use Rattle.ait_descriptors.specs.declared.Raw.{Raw}
use Rattle.ait_descriptors.specs.declared.Described.{Described}
use Rattle.ait_descriptors.specs.declared.Described.TheVariants as described
use Rattle.ait_read.specs.Records.{class_of, control_of}
use Rattle.ait_grammar.specs.Span.{span}
use Rattle.ait_grammar.specs.Shown00.{shown00}
use Rattle.ait_grammar.specs.Shown02.{shown02}
use Rattle.ait_grammar.specs.Contents.{ContentsValue, of00, of01, of02, of05, of15, raw, DescriptorValue}
use Rattle.ait_grammar.specs.Table.{ApplicationValue, TableValue}

-- v stands at place k of a list, from 0
abbrev pub ValueAt : {A : Type 0} → ℕ → List A → A → Type 0
ValueAt k [] v = ⊥
ValueAt zero (x ∷ xs) v = x ≡ v
ValueAt (suc k) (x ∷ xs) v = ValueAt k xs v

-- the descriptors of a scope: the common ones, or those of the application at a place
abbrev pub DescriptorsOf : TableValue → Scope → List DescriptorValue → Type 0
DescriptorsOf t Common ds = t.common ≡ ds
DescriptorsOf t (Own i) ds = (v : ApplicationValue) × ValueAt i t.applications v × (v.descriptors ≡ ds)

abbrev pub application_shown : ApplicationValue → Application
application_shown v =
    record {
      organisation = v.organisation;
      number = v.number;
      class = class_of v.number;
      code = v.code;
      control = control_of v.code;
      descriptors = length v.descriptors;
    }

-- of a descriptor that begins at byte a: after its tag and length
abbrev pub raw_shown : (tag : ℕ) → List ℕ → (a : ℕ) → Raw
raw_shown tag xs a = record { tag = tag; contents = span (a + 2) (length xs) }

abbrev pub contents_shown : (tag : ℕ) → ContentsValue → (a : ℕ) → Described
contents_shown tag (of00 v) a = described.Application (shown00 v)
contents_shown tag (of01 ns) a = described.Names (length ns)
contents_shown tag (of02 v) a = shown02 v a
contents_shown tag (of05 is) a = described.Identifiers (length is)
contents_shown tag (of15 xs) a = described.Path (span (a + 2) (length xs))
contents_shown tag (raw xs) a = described.Raw (raw_shown tag xs a)

abbrev pub descriptor_shown : DescriptorValue → (a : ℕ) → Described
descriptor_shown d a = contents_shown d.tag d.contents a
