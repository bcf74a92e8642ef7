-- What `check` answers: the paper's number of each case, and its values.
use Rattle.std.specs.Prelude.{Result, None, Ok, Err, ℕ, ◌<◌, ◌≡◌, cond, List, eqb}
use Rattle.section.specs.declared.Header.{Header}
use Rattle.section.specs.Header.{header_of}
use Rattle.section.specs.Crc.{crc_of}
use Rattle.section.specs.Refusals.{refusal_by, refusal_of, spot_of}
use Rattle.section.specs.declared.Rules.{Rules}
use Rattle.section.specs.declared.Refusal.{Refusal}

-- a section's header, or its refusal
abbrev pub Checked : Type 0
Checked = Result Header Refusal

-- the paper's number of an answer; 0 is no refusal
abbrev pub number_of_checked : Checked → ℕ
number_of_checked (Err r) = r.number
number_of_checked (Ok h) = 0

-- 01, "Every one returns no value besides its number", with 02, §9: and, for 2 to 6, its place. A section's refusal by its number,
abbrev pub refused_by : Rules → List ℕ → ℕ → Refusal
refused_by rules s n = record { number = n; place = spot_of rules s n }

-- and a refusal that has no place: every one but 2 to 6
abbrev pub refused : ℕ → Refusal
refused n = record { number = n; place = None }

-- So every caller's refusal of a section reads: a number that is not 0; of 2 to 6, the section's own; and that number's place.
pub record Told (rules : Rules) (s : List ℕ) (r : Refusal) : Type 0 where
  pub some : r.number ≡ 0 → ⊥
  pub own : 1 < r.number → r.number < 7 → refusal_of rules s ≡ r.number
  pub placed : r.place ≡ spot_of rules s r.number

-- refused with its number and its place, or accepted with the header's fields: whatever register is handed in, and by the section's own
unfoldable pub checked_by : (register : ℕ) → Rules → List ℕ → Checked
checked_by g rules s = cond (eqb (refusal_by g rules s) 0) (Ok (header_of s)) (Err (refused_by rules s (refusal_by g rules s)))

abbrev pub checked_of : Rules → List ℕ → Checked
checked_of rules s = checked_by (crc_of s) rules s

-- by cases of an answer
abbrev pub on_checked : {A : Type 0} → Checked → (Refusal → A) → (Header → A) → A
on_checked (Err r) bad good = bad r
on_checked (Ok h) bad good = good h
