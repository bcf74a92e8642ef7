-- Two tables written out: what they spell, byte by byte, and that they are accepted because they are spelled so.
use Prim.Native.Nat.{ℕ, zero, suc}
use mathlib.Core.Path.{◌≡◌, refl}
use mathlib.Core.List.{List, [], ◌∷◌}
use lib.Dec.{lit<}
use Rattle.wire.specs.Fields.{spelled}
use Rattle.ait_body.specs.Body.{body_refusal}
use Rattle.ait_grammar.specs.Bytes.{spell_all}
use Rattle.ait_grammar.specs.Tag00.{Value00, spell00, spell_profile}
use Rattle.ait_grammar.specs.Contents.{of00, spell_contents, spell_descriptor}
use Rattle.ait_grammar.specs.Table.{FitsTable, Is00At, Sole00, TableValue, spell_application, spell_body}
use Rattle.ait_grammar.proofs.Exact.{there}

-- no common descriptors, no applications
abbrev empty : TableValue
empty = record { reserved_common = 15; common = []; reserved_loop = 15; applications = [] }

abbrev empty_bytes : List ℕ
empty_bytes = 0xF0 ∷ 0x00 ∷ 0xF0 ∷ 0x00 ∷ []

pub empty-spelled : empty_bytes ≡ spell_body empty
unfolding spell_body spell_all spelled
empty-spelled = refl

-- the least application, 14 bytes: one 0x00 with no profile and no label
abbrev least : Value00
least = record { profiles = []; bound = 0; visibility = 3; reserved = 31; priority = 7; labels = [] }

abbrev one : TableValue
one = record {
  reserved_common = 15;
  common = [];
  reserved_loop = 15;
  applications = record { organisation = 0x1234; number = 0x4000; code = 1; reserved = 15; descriptors = record { tag = 0x00; contents = of00 least } ∷ [] } ∷ [];
}

abbrev one_bytes : List ℕ
one_bytes =
    0xF0 ∷ 0x00
    ∷ 0xF0 ∷ 0x0E
    ∷ 0x00 ∷ 0x00 ∷ 0x12 ∷ 0x34 ∷ 0x40 ∷ 0x00 ∷ 0x01 ∷ 0xF0 ∷ 0x05
    ∷ 0x00 ∷ 0x03 ∷ 0x00 ∷ 0x7F ∷ 0x07
    ∷ []

pub one-spelled : one_bytes ≡ spell_body one
unfolding spell_body spell_application spell_descriptor spell_contents spell00 spell_profile spell_all spelled
one-spelled = refl

one-fits : FitsTable one
unfolding spell_body spell_application spell_descriptor spell_contents spell00 spell_profile spell_all spelled
one-fits = record {
  reserved_common = lit< tt;
  common_length = lit< tt;
  common = tt;
  reserved_loop = lit< tt;
  loop_length = lit< tt;
  applications = (
    record {
      organisation = lit< tt;
      number = lit< tt;
      code = lit< tt;
      reserved = lit< tt;
      descriptors_length = lit< tt;
      descriptors = (
        record {
          tag = lit< tt;
          contents_length = lit< tt;
          contents = (refl, record { profiles = tt; profiles_length = lit< tt; bound = lit< tt; visibility = lit< tt; reserved = lit< tt; priority = lit< tt; labels = tt });
        },
        tt,
      );
    },
    tt,
  );
}

one-sole : Sole00 (record { tag = 0x00; contents = of00 least } ∷ [])
one-sole = ((zero, refl), only)
  where
    only : (j k : ℕ) → Is00At j (record { tag = 0x00; contents = of00 least } ∷ []) → Is00At k (record { tag = 0x00; contents = of00 least } ∷ []) → j ≡ k
    only zero zero f g = refl
    only zero (suc k) f g = absurd g
    only (suc j) k f g = absurd f

-- accepted, with no test computed
pub one-accepted : body_refusal one_bytes ≡ 0
one-accepted = there one_bytes (one, record { fits = one-fits; spelt = one-spelled; sole = (one-sole, tt) })
