-- WHAT `resolve` SAYS, by what the other calls show. 01: "A label is looked up among the application's own 0x02 descriptors, then the section's common ones; the first hit counts,
-- no hit is marked unresolved"; "Asking by place answers the section's own refusals (2 to 7, 18), then 19."
use Rattle.std.specs.Prelude.{Option, Some, None, Result, Ok, Err, ℕ, ◌≤◌, ◌<◌, ◌≡◌, ◌⊎◌, take, drop}
use mathlib.Core.List as L
use Rattle.wire.specs.Places.{At}
use Rattle.section.specs.declared.Refusal.{Refusal}
use Rattle.section.specs.Answer.{refused}
use Rattle.ait_descriptors.specs.declared.Kind.TheVariants as kind
use Rattle.ait_descriptors.specs.Kinds.{count_at}
use Rattle.ait_descriptors.specs.Descriptor.{tag_of}
use Rattle.ait_descriptors.specs.Contents.{repeated_count}
use Rattle.ait_read.specs.declared.Scope.{Scope}
use Rattle.ait_read.specs.declared.Scope.TheVariants as scope
use Rattle.ait_descriptors.specs.declared.Repeated.TheVariants.{Labels}
use Rattle.ait_descriptors.specs.declared.Described.{Described}
use Rattle.ait_descriptors.specs.declared.Described.TheVariants as described
use Rattle.ait_descriptors.specs.declared.Item.TheVariants as item
use Rattle.ait_read.specs.declared.Resolved.{Resolved}
use Rattle.ait_read.specs.declared.Resolved.TheVariants as resolved
use Rattle.ait_read.specs.Acceptance.{table_judged, FormedTable}
use Rattle.ait_read.specs.Places.{loop_at, descriptor_at}
use Rattle.ait_read.specs.Answers.{descriptor_answer, item_answer}

-- what `descriptor_at` shows is a 0x02 descriptor with the label l
abbrev pub Bears : ℕ → Described → Type 0
Bears l (described.Application x) = ⊥
Bears l (described.Names n) = ⊥
Bears l (described.Local x) = x.label ≡ l
Bears l (described.Remote x) = x.label ≡ l
Bears l (described.Bases x) = x.label ≡ l
Bears l (described.Selector x) = x.label ≡ l
Bears l (described.Identifiers n) = ⊥
Bears l (described.Path x) = ⊥
Bears l (described.Raw x) = ⊥

-- `descriptor_at` shows one at place j of a scope; the first of the scope is at place j; the scope has none
abbrev pub Shows : L.List ℕ → Scope → ℕ → ℕ → Type 0
Shows s o l j = (x : Described) × (descriptor_answer s o j ≡ Ok x) × Bears l x

abbrev pub FirstShown : L.List ℕ → Scope → ℕ → ℕ → Type 0
FirstShown s o l j = Shows s o l j × ((m : ℕ) → m < j → Shows s o l m → ⊥)

abbrev pub NoneShown : L.List ℕ → Scope → ℕ → Type 0
NoneShown s o l = (m : ℕ) → Shows s o l m → ⊥

-- the label at place k of application i is l: `item_at` shows it in one of the application's own descriptors (only a 0x00 has labels, and there is one: `sole-place`)
abbrev pub IsLabel : L.List ℕ → ℕ → ℕ → ℕ → Type 0
IsLabel s i k l = (j : ℕ) × (item_answer s (scope.Own i) j Labels k ≡ Ok (item.Label l))

-- application i has no label at place k: there is no such application, or its one 0x00 descriptor (`sole-place`) has no more than k labels
abbrev pub NoLabel : L.List ℕ → ℕ → ℕ → Type 0
NoLabel s i k = (count_at kind.Application (loop_at s) s ≤ i)
    ⊎ ((j : ℕ) × (a : ℕ) × (n : ℕ) × (descriptor_at (scope.Own i) j s ≡ At a n) × (tag_of (take n (drop a s)) ≡ 0x00) × (repeated_count Labels (take n (drop a s)) ≤ k))

-- what each answer of `resolve` says
abbrev pub Says : L.List ℕ → ℕ → ℕ → Result (Option Resolved) Refusal → Type 0
Says s i k (Err r) = (table_judged s ≡ Err r) ⊎ ((r ≡ refused 19) × FormedTable s × NoLabel s i k)
Says s i k (Ok (Some (resolved.Own j))) = (l : ℕ) × IsLabel s i k l × FirstShown s (scope.Own i) l j
Says s i k (Ok (Some (resolved.Common n j))) = (l : ℕ) × IsLabel s i k l × (n ≡ 0) × NoneShown s (scope.Own i) l × FirstShown s scope.Common l j
Says s i k (Ok None) = (l : ℕ) × IsLabel s i k l × NoneShown s (scope.Own i) l × NoneShown s scope.Common l
