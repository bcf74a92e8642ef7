-- What each call answers. 01: "Asking by place answers the section's own refusals (2 to 7, 18), then 19."
use Rattle.std.specs.Prelude.{Option, Result, Ok, Err, ℕ, ◌+◌, true, false, cond, List, [], ◌∷◌, ◌++◌, leb, length, take, drop}
use Rattle.wire.specs.declared.Span.{Span}
use Rattle.wire.specs.Fields.{byte_at, bits}
use Rattle.wire.specs.Places.{Place, on_place, part_at}
use Rattle.wire.specs.Tests.{first_met}
use Rattle.section.specs.declared.Refusal.{Refusal}
use Rattle.section.specs.declared.Header.{Header}
use Rattle.section.specs.Answer.{refused, on_checked}
use Rattle.ait_descriptors.specs.declared.Kind.TheVariants as kind
use Rattle.ait_read.specs.declared.Scope.{Scope}
use Rattle.ait_descriptors.specs.declared.Repeated.{Repeated}
use Rattle.ait_descriptors.specs.declared.Described.{Described}
use Rattle.ait_descriptors.specs.declared.Item.{Item}
use Rattle.ait_read.specs.declared.Table.{Table}
use Rattle.ait_read.specs.declared.Application.{Application}
use Rattle.ait_read.specs.declared.Resolved.{Resolved}
use Rattle.ait_read.specs.Acceptance.{application_tests, table_judged}
use Rattle.ait_read.specs.Places.{common_at, loop_at, own_at, application_at, descriptor_at, repeated_at, extension_at}
use Rattle.ait_descriptors.specs.Kinds.{count_at}
use Rattle.ait_read.specs.Records.{application_of}
use Rattle.ait_descriptors.specs.Contents.{described_of, item_of}
use Rattle.ait_descriptors.specs.Tag02.{extension_read}
use Rattle.ait_read.specs.Labels.{label_at, resolved_in}

-- a place that was asked for
abbrev pub lies : ℕ → ℕ → Result Span Refusal
lies a n = Ok (record { start = a; size = n })

-- the section's own refusal; else 19 where there is no such place; else the place
unfoldable pub located_of : List ℕ → Place → Result Span Refusal
located_of s p =
    on_checked (table_judged s) (λ r. Err r) (λ h.
    on_place p (Err (refused 19)) (λ a n. lies a n))

abbrev pub on_located : {A : Type 0} → Result Span Refusal → (Refusal → A) → (ℕ → ℕ → A) → A
on_located (Err r) bad good = bad r
on_located (Ok p) bad good = good p.start p.size

-- "The extension is a test flag (1 bit) and the application type (15)."
unfoldable pub read_table : Header → List ℕ → Table
read_table h s =
    record {
      test = bits 15 1 h.extension;
      application_type = bits 0 15 h.extension;
      version = h.version;
      section = h.section;
      last = h.last;
      common = count_at kind.Descriptor (common_at s) s;
      applications = count_at kind.Application (loop_at s) s;
    }

unfoldable pub read_answer : List ℕ → Result Table Refusal
read_answer s = on_checked (table_judged s) (λ r. Err r) (λ h. Ok (read_table h s))

unfoldable pub application_answer : List ℕ → ℕ → Result Application Refusal
application_answer s i =
    on_located (located_of s (application_at i s)) (λ r. Err r) (λ a n. Ok (application_of (take n (drop a s))))

unfoldable pub descriptor_answer : List ℕ → Scope → ℕ → Result Described Refusal
descriptor_answer s o j =
    on_located (located_of s (descriptor_at o j s)) (λ r. Err r) (λ a n. Ok (described_of (take n (drop a s)) a))

unfoldable pub item_answer : List ℕ → Scope → ℕ → Repeated → ℕ → Result Item Refusal
item_answer s o j what k =
    on_located (located_of s (repeated_at o j what k s)) (λ r. Err r) (λ a n. Ok (item_of what (take n (drop a s)) a))

unfoldable pub extension_answer : List ℕ → Scope → ℕ → ℕ → ℕ → Result Span Refusal
extension_answer s o j k m =
    on_located (located_of s (extension_at o j k m s)) (λ r. Err r) (λ a n. Ok (extension_read (take n (drop a s)) a))

-- label k of application i, looked up in its own descriptors and in the one common loop
unfoldable pub resolve_answer : List ℕ → ℕ → ℕ → Result (Option Resolved) Refusal
resolve_answer s i k =
    on_located (located_of s (label_at i k s)) (λ r. Err r) (λ a n.
    Ok (resolved_in (byte_at (take n (drop a s)) 0) (part_at (own_at i s) s) (part_at (common_at s) s ∷ [])))

-- "For an answer that is an enum, a definition provides this paper's number and values for each of the enum's cases." Err has its number; 0 is no refusal.
abbrev pub number_of_read : {A : Type 0} → Result A Refusal → ℕ
number_of_read (Err r) = r.number
number_of_read (Ok a) = 0

-- the number of `read`: the section's own refusal, the lowest of 2 to 7 and 18 that applies
unfoldable pub read_number : List ℕ → ℕ
read_number s = first_met (application_tests s)

-- the number of a call by place: "the section's own refusals (2 to 7, 18), then 19"
unfoldable pub place_number : List ℕ → Place → ℕ
place_number s p = first_met (application_tests s ++ (19, on_place p true (λ a n. false)) ∷ [])

-- the bytes that a span names, none where it runs past the end
unfoldable pub span_part : List ℕ → ℕ → ℕ → List ℕ
span_part s start size = cond (leb (start + size) (length s)) (take size (drop start s)) []
