-- The paper's soundings of this floor, as one table.
use Prim.Native.Nat.{ℕ, zero, suc, ◌+◌, ◌-◌, ◌≤◌}
use mathlib.Core.Path.{◌≡◌, refl, ap, ◌∙◌}
use mathlib.Core.Bool.{true}
use mathlib.Core.List.{List, [], ◌∷◌, ◌++◌}
use Rattle.std.proofs.Common.{Ok}
use native.Mathlib.Omega.{arith}
use lib.Dec.{lit≤}
use lib.ListN.{length, take, drop, length-append, length-drop}
use lib.Seq.{take_at, drop-append-le}
use Rattle.wire.specs.Fields.{field_at, spelled}
use Rattle.wire.specs.Items.{framed, items, items_in, count, joined, fills, every, number}
use Rattle.wire.proofs.Laws.Fields.{spelled_length}
use Rattle.section.specs.declared.Rules.TheVariants.{Application}
use Rattle.section.specs.Crc.{crc_of}
use Rattle.section.specs.Header.{table_of, syntax_of, length_of, current_of, section_of, last_of, is_table, header_of, body_of}
use Rattle.section.specs.Refusals.{GoodSection}
use Rattle.section.proofs.Laws.Crc.{own-crc}
use Rattle.ait_descriptors.specs.Contents.{contents_good}
use Rattle.ait_descriptors.specs.Tag00.{good00}
use Rattle.ait_body.specs.Body.{good_loop, sole_loop, own_loop, common_loop, application_loop, WellFormed}
use Rattle.ait_descriptors.specs.Kinds.{application, size_of, count_at}
use Rattle.ait_descriptors.specs.Descriptor.{descriptor}
use Rattle.ait_read.specs.declared.Table.{Table}
use Rattle.ait_read.specs.declared.Class.TheVariants.{Unsigned, Signed}
use Rattle.ait_read.specs.declared.Control.TheVariants.{Reserved}
use Rattle.ait_read.specs.Acceptance.{table_judged, FormedTable}
use Rattle.ait_read.specs.Records.{class_of, control_of}
use Rattle.ait_read.specs.Answers.{read_table, read_answer}
use Rattle.ait_read.proofs.Laws.Exact.{accepted-exactly, read-exactly}
use Rattle.ait_read.proofs.Laws.Made.{common_part, loop_part}
use Rattle.ait_read.proofs.Laws.Sole.{twelve}

-- an application of the least length, 14 bytes: organisation 1, application 0x4000, AUTOSTART, and a 0x00 descriptor without profiles and labels
abbrev pub least : List ℕ
least = 0x00 ∷ 0x00 ∷ 0x00 ∷ 0x01 ∷ 0x40 ∷ 0x00 ∷ 0x01 ∷ 0xF0 ∷ 0x05 ∷ 0x00 ∷ 0x03 ∷ 0x00 ∷ 0xFF ∷ 0x01 ∷ []

-- n of them
unfoldable pub leasts : ℕ → List ℕ
leasts zero = []
leasts (suc n) = least ++ leasts n

-- a section without common descriptors: header and body, and then their CRC
abbrev pub front : (h l : ℕ) (p : ℕ) (m : ℕ) (loop : List ℕ) → List ℕ
front h l p m loop = 0x74 ∷ h ∷ l ∷ 0x00 ∷ 0x01 ∷ 0xC1 ∷ 0x00 ∷ 0x00 ∷ 0xF0 ∷ 0x00 ∷ p ∷ m ∷ loop

abbrev pub whole : List ℕ → List ℕ
whole f = f ++ spelled 4 (crc_of f)

-- "An empty AIT has L = 13."
abbrev pub empty_front : List ℕ
empty_front = front 0xB0 0x0D 0xF0 0x00 []

-- "72 applications of the least length, 14 bytes, without common descriptors give L = 1,021."
abbrev pub full_front : List ℕ
full_front = front 0xB3 0xFD 0xF3 0xF0 (leasts 72)

length_whole : (f : List ℕ) → length (whole f) ≡ length f + 4
length_whole f = rw (length-append, spelled_length)

-- bytes with their CRC are a good section, if their first twelve bytes are
good-section : (f : List ℕ) → length (whole f) ≡ 3 + length_of (whole f) → is_table Application (table_of (whole f)) ≡ true → 9 ≤ length_of (whole f) → length_of (whole f) ≤ 1021
    → syntax_of (whole f) ≡ 1 → section_of (whole f) ≤ last_of (whole f) → current_of (whole f) ≡ 1 → GoodSection Application (whole f)
good-section f e t l m y n c =
    record { headed = omega arith; exact = e; table = t; least = l; most = m; syntax = y; numbers = n; crc = own-crc f; current = c }

body_of_lem : (f : List ℕ) → 8 ≤ length f → body_of (whole f) ≡ drop 8 f
body_of_lem f h =
    let l = length_whole f in
    let m : length (drop 8 f) ≡ length (whole f) - 12 = rw length-drop (omega arith) in
    ap (take (length (whole f) - 12)) (drop-append-le 8 f (spelled 4 (crc_of f)) h) ∙ take_at (drop 8 f) (spelled 4 (crc_of f)) (length (whole f) - 12) m

good-table : (f : List ℕ) → 8 ≤ length f → GoodSection Application (whole f) → WellFormed (drop 8 f)
    → every (λ a. sole_loop (own_loop a)) (items application (application_loop (drop 8 f))) ≡ true → table_judged (whole f) ≡ Ok (header_of (whole f))
good-table f h g w o = (accepted-exactly (whole f)).1 (record { section = g; body = rw (body_of_lem f h) w; sole = rw (body_of_lem f h) o })

-- the empty one
empty-section : GoodSection Application (whole empty_front)
unfolding field_at
empty-section = good-section empty_front (length_whole empty_front) refl (lit≤ tt) (lit≤ tt) refl (lit≤ tt) refl

empty-formed : WellFormed (drop 8 empty_front)
unfolding field_at framed items items_in joined fills every good_loop
empty-formed = record { ends = refl; common = refl; common_made = refl; applications = refl; own = refl; own_made = refl }

empty-sole : every (λ a. sole_loop (own_loop a)) (items application (application_loop (drop 8 empty_front))) ≡ true
unfolding field_at framed items items_in every
empty-sole = refl

-- the full one
full_length : length full_front ≡ 1020
unfolding leasts
full_length = refl

full-said : length_of (whole full_front) ≡ 1021
unfolding field_at
full-said = refl

full-section : GoodSection Application (whole full_front)
unfolding field_at
full-section = good-section full_front (length_whole full_front ∙ ap (λ (n : ℕ). n + 4) full_length) refl (lit≤ tt) (lit≤ tt) refl (lit≤ tt) refl

full-formed : WellFormed (drop 8 full_front)
unfolding leasts field_at framed items items_in joined fills every good_loop contents_good good00
full-formed = record { ends = refl; common = refl; common_made = refl; applications = refl; own = refl; own_made = refl }

full-sole : every (λ a. sole_loop (own_loop a)) (items application (application_loop (drop 8 full_front))) ≡ true
unfolding leasts field_at framed items items_in every sole_loop number
full-sole = refl

-- THE SOUNDINGS OF THE APPLICATION SECTION
pub soundings :
    -- "An empty AIT has L = 13", and is accepted
    (length_of (whole empty_front) ≡ 13) × (table_judged (whole empty_front) ≡ Ok (header_of (whole empty_front)))
    -- "72 applications of the least length, 14 bytes, without common descriptors give L = 1,021", and are accepted
    × (length least ≡ 14) × (length_of (whole full_front) ≡ 1021) × (table_judged (whole full_front) ≡ Ok (header_of (whole full_front)))
    -- "Application 0x3FFF unsigned, 0x4000 signed"
    × (class_of 0x3FFF ≡ Unsigned) × (class_of 0x4000 ≡ Signed)
    -- "Control code 5 reserved"
    × (control_of 5 ≡ Reserved)
unfolding field_at class_of control_of
soundings = (
  refl,
  good-table empty_front (lit≤ tt) empty-section empty-formed empty-sole,
  refl,
  full-said,
  good-table full_front (let l = full_length in omega arith) full-section full-formed full-sole,
  refl,
  refl,
  refl,
)

-- AND `read` COUNTS THEM: 72 applications, and no common descriptor
full_loop : count application (application_loop (drop 8 full_front)) ≡ 72
unfolding leasts field_at framed items items_in count
full_loop = refl

full-common : count descriptor (common_loop (drop 8 full_front)) ≡ 0
unfolding leasts field_at framed items items_in count
full-common = refl

pub seventy-two-read : (t : Table) × (read_answer (whole full_front) ≡ Ok t) × (t.applications ≡ 72) × (t.common ≡ 0)
unfolding read_table count_at size_of
seventy-two-read =
    let s : List ℕ = whole full_front in
    let g : FormedTable s = (accepted-exactly s).0 soundings.4 in
    let b : body_of s ≡ drop 8 full_front = body_of_lem full_front (let l = full_length in omega arith) in
    let l = twelve s g in (
      read_table (header_of s) s,
      read-exactly s g,
      ap (count application) (loop_part s l g.body) ∙ ap (λ (x : List ℕ). count application (application_loop x)) b ∙ full_loop,
      ap (count descriptor) (common_part s l g.body) ∙ ap (λ (x : List ℕ). count descriptor (common_loop x)) b ∙ full-common,
    )
