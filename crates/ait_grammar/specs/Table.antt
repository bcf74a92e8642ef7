-- The body of an application section: what it says, as values, and the bytes of that. 01, "The application section"; 001, 5.3.4.6, table 16.
use Rattle.std.specs.Prelude.{ℕ, zero, suc, ◌<◌, ◌≡◌, List, [], ◌∷◌, ◌++◌, length}
use Rattle.wire.specs.Fields.{spelled}
use Rattle.ait_grammar.specs.Bytes.{Each, spell_all, sized12}
use Rattle.ait_grammar.specs.Contents.{DescriptorValue, spell_descriptor, FitsDescriptor}

-- "An application: organisation 32, application 16, control code 8, 4 reserved, length 12, descriptors."
pub record ApplicationValue : Type 0 where
  pub organisation : ℕ
  pub number : ℕ
  pub code : ℕ
  pub reserved : ℕ
  pub descriptors : List DescriptorValue

unfoldable pub spell_application : ApplicationValue → List ℕ
spell_application a =
    spelled 4 a.organisation
    ++ (spelled 2 a.number
    ++ (spelled 1 a.code
    ++ sized12 a.reserved (spell_all spell_descriptor a.descriptors)))

pub record FitsApplication (a : ApplicationValue) : Type 0 where
  pub organisation : a.organisation < 0x1_0000_0000
  pub number : a.number < 0x1_0000
  pub code : a.code < 0x100
  pub reserved : a.reserved < 16
  pub descriptors_length : length (spell_all spell_descriptor a.descriptors) < 4096
  pub descriptors : Each FitsDescriptor a.descriptors

-- "Body: 4 reserved, common length 12, common descriptors; 4 reserved, application loop length 12, applications, ending at the CRC"
pub record TableValue : Type 0 where
  pub reserved_common : ℕ
  pub common : List DescriptorValue
  pub reserved_loop : ℕ
  pub applications : List ApplicationValue

unfoldable pub spell_body : TableValue → List ℕ
spell_body t =
    sized12 t.reserved_common (spell_all spell_descriptor t.common)
    ++ sized12 t.reserved_loop (spell_all spell_application t.applications)

pub record FitsTable (t : TableValue) : Type 0 where
  pub reserved_common : t.reserved_common < 16
  pub common_length : length (spell_all spell_descriptor t.common) < 4096
  pub common : Each FitsDescriptor t.common
  pub reserved_loop : t.reserved_loop < 16
  pub loop_length : length (spell_all spell_application t.applications) < 4096
  pub applications : Each FitsApplication t.applications

-- the descriptor at place k is a 0x00
abbrev pub Is00At : ℕ → List DescriptorValue → Type 0
Is00At k [] = ⊥
Is00At zero (d ∷ ds) = d.tag ≡ 0x00
Is00At (suc k) (d ∷ ds) = Is00At k ds

-- "exactly one 0x00 descriptor": there is one, and any two places with one are the same
abbrev pub Sole00 : List DescriptorValue → Type 0
Sole00 ds = ((k : ℕ) × Is00At k ds) × ((j k : ℕ) → Is00At j ds → Is00At k ds → j ≡ k)

-- the body b spells the table t
pub record Spells (b : List ℕ) (t : TableValue) : Type 0 where
  pub fits : FitsTable t
  pub spelt : b ≡ spell_body t
  pub sole : Each (λ (a : ApplicationValue). Sole00 a.descriptors) t.applications

abbrev pub SpelledBody : List ℕ → Type 0
SpelledBody b = (t : TableValue) × Spells b t
