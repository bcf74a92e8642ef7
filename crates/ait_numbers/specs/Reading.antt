-- The application section's answers as structs of numbers. What a kind does not have is 0. A line for each kind of descriptor and of item;
-- its numbers are in its tag's own file, `Tag00` and so on.
use Rattle.std.specs.Prelude.{Option, Result, Some, None, Ok, Err, ℕ, cond, List, eqb}
use Rattle.section.specs.Answer.{refused}
use Rattle.wire.specs.declared.Span.{Span}
use Rattle.section.specs.declared.Refusal.{Refusal}
use Rattle.ait_read.specs.declared.Table.{Table}
use Rattle.ait_read.specs.declared.Application.{Application}
use Rattle.ait_descriptors.specs.declared.Repeated.{Repeated}
use Rattle.ait_read.specs.declared.Scope.{Scope}
use Rattle.ait_read.specs.declared.Scope.TheVariants as scope
use Rattle.ait_descriptors.specs.declared.Repeated.TheVariants as repeated
use Rattle.ait_descriptors.specs.declared.Raw.{Raw}
use Rattle.ait_descriptors.specs.declared.Described.{Described}
use Rattle.ait_descriptors.specs.declared.Described.TheVariants as described
use Rattle.ait_descriptors.specs.declared.Item.{Item}
use Rattle.ait_descriptors.specs.declared.Item.TheVariants as item
use Rattle.ait_read.specs.declared.Resolved.{Resolved}
use Rattle.ait_read.specs.declared.Resolved.TheVariants as resolved
use Rattle.ait_read.specs.Answers.{read_answer, item_answer}
use Rattle.ait_numbers.specs.declared.PartOut.{PartOut}
use Rattle.ait_numbers.specs.declared.TableOut.{TableOut}
use Rattle.ait_numbers.specs.declared.ApplicationOut.{ApplicationOut}
use Rattle.ait_numbers.specs.declared.DescriptorOut.{DescriptorOut}
use Rattle.ait_numbers.specs.declared.ItemOut.{ItemOut}
use Rattle.ait_numbers.specs.declared.LabelOut.{LabelOut}
use Rattle.ait_numbers.specs.Classes.{class_number, control_number}
use Rattle.ait_numbers.specs.Shapes.{nowhere, spot_number, no_descriptor, placed_by, no_item}
use Rattle.ait_numbers.specs.Tag00.{application_descriptor_out, profile_out, label_item_out}
use Rattle.ait_numbers.specs.Tag01.{names_out, name_out}
use Rattle.ait_numbers.specs.Tag02.{local_out, remote_out, bases_out, selector_out, base_out}
use Rattle.ait_numbers.specs.Tag05.{identifiers_out, identifier_out}
use Rattle.ait_numbers.specs.Tag15.{path_out}

-- the header, and how much there is
abbrev pub table_out : Result Table Refusal → TableOut
table_out (Err r) = record { common = 0; applications = 0; test = 0; application_type = 0; version = 0; section = 0; last = 0; refused_at = spot_number r.place; refusal = r.number }
table_out (Ok t) =
    record {
      common = t.common;
      applications = t.applications;
      test = t.test;
      application_type = t.application_type;
      version = t.version;
      section = t.section;
      last = t.last;
      refused_at = nowhere;
      refusal = 0;
    }

abbrev pub application_out : Result Application Refusal → ApplicationOut
application_out (Err r) = record { descriptors = 0; organisation = 0; number = 0; class_number = 0; code = 0; control = 0; refused_at = spot_number r.place; refusal = r.number }
application_out (Ok x) =
    record {
      descriptors = x.descriptors;
      organisation = x.organisation;
      number = x.number;
      class_number = class_number x.class;
      code = x.code;
      control = control_number x.control;
      refused_at = nowhere;
      refusal = 0;
    }

-- whose descriptors: all ones stands for the common loop. No section has an application at that place.
abbrev pub scope_of : ℕ → Scope
scope_of i = cond (eqb i 0xFFFFFFFFFFFFFFFF) scope.Common (scope.Own i)

-- a tag that is not known: kind 9
abbrev pub raw_out : Raw → DescriptorOut
raw_out x = placed_by 9 x.tag 0 0 x.contents

-- each with its tag and, under 0x02, its protocol
abbrev pub described_out : Described → DescriptorOut
described_out (described.Application x) = application_descriptor_out x
described_out (described.Names n) = names_out n
described_out (described.Local x) = local_out x
described_out (described.Remote x) = remote_out x
described_out (described.Bases x) = bases_out x
described_out (described.Selector x) = selector_out x
described_out (described.Identifiers n) = identifiers_out n
described_out (described.Path p) = path_out p
described_out (described.Raw x) = raw_out x

abbrev pub descriptor_out : Result Described Refusal → DescriptorOut
descriptor_out (Err r) = no_descriptor r
descriptor_out (Ok d) = described_out d

abbrev pub found_out : Item → ItemOut
found_out (item.Profile p) = profile_out p
found_out (item.Label l) = label_item_out l
found_out (item.Name n) = name_out n
found_out (item.Base b) = base_out b
found_out (item.Identifier i) = identifier_out i

abbrev pub item_out : Result Item Refusal → ItemOut
item_out (Err r) = no_item r
item_out (Ok x) = found_out x

-- an item is asked for by its kind, which is its descriptor's: profiles (of a 0x00) 1, names 2, bases 5, identifiers 7. A 0x00 has labels too, 10.
unfoldable pub asked_by : (kind : ℕ) → Option Repeated
asked_by kind =
    cond (eqb kind 1) (Some repeated.Profiles)
    (cond (eqb kind 2) (Some repeated.Names)
    (cond (eqb kind 5) (Some repeated.Bases)
    (cond (eqb kind 7) (Some repeated.Identifiers)
    (cond (eqb kind 10) (Some repeated.Labels)
    None))))

-- "the section's own refusals (2 to 7, 18), then 19"
abbrev pub no_place : Result Table Refusal → Result Item Refusal
no_place (Err r) = Err r
no_place (Ok t) = Err (refused 19)

-- of any other kind there is no place
abbrev pub answer_asked : List ℕ → Scope → (j k : ℕ) → Option Repeated → Result Item Refusal
answer_asked s o j k (Some what) = item_answer s o j what k
answer_asked s o j k None = no_place (read_answer s)

abbrev pub item_asked : List ℕ → Scope → (j kind k : ℕ) → Result Item Refusal
item_asked s o j kind k = answer_asked s o j k (asked_by kind)

abbrev pub extension_out : Result Span Refusal → PartOut
extension_out (Err r) = record { at = 0; length = 0; refused_at = spot_number r.place; refusal = r.number }
extension_out (Ok x) = record { at = x.start; length = x.size; refused_at = nowhere; refusal = 0 }

-- found: own 1, common 2 (in the common loop with that number), unresolved 3
abbrev pub label_out : Result (Option Resolved) Refusal → LabelOut
label_out (Err r) = record { common = 0; place = 0; found = 0; refused_at = spot_number r.place; refusal = r.number }
label_out (Ok (Some (resolved.Own j))) = record { common = 0; place = j; found = 1; refused_at = nowhere; refusal = 0 }
label_out (Ok (Some (resolved.Common n j))) = record { common = n; place = j; found = 2; refused_at = nowhere; refusal = 0 }
label_out (Ok None) = record { common = 0; place = 0; found = 3; refused_at = nowhere; refusal = 0 }
