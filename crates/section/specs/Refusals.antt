-- Refusals 2 to 6, one test for each row of the paper's table. 01, "Numbers a call may answer".
use Rattle.std.specs.Prelude.{Option, Some, None, ℕ, ◌+◌, ◌-◌, ◌≤◌, ◌<◌, ◌≡◌, Bool, true, not, cond, ◌||◌, List, [], ◌∷◌, ltb, eqb, length}
use Rattle.wire.specs.Tests.{Tests, first_met}
use Rattle.section.specs.Crc.{crc_of}
use Rattle.section.specs.Header.{table_of, syntax_of, length_of, current_of, section_of, last_of, is_table, limit_of}
use Rattle.section.specs.declared.Rules.{Rules}

-- 2: "under 3 bytes, or not 3 + L"
unfoldable pub meets2 : List ℕ → Bool
meets2 s = ltb (length s) 3 || not (eqb (length s) (3 + length_of s))

-- 3: "wrong table number"
unfoldable pub meets3 : Rules → List ℕ → Bool
meets3 rules s = not (is_table rules (table_of s))

-- 4: "L under 9, or over 1,021 (AIT) or 4,093; syntax indicator 0; section number above last". All but the last:
abbrev pub misframed : Rules → List ℕ → Bool
misframed rules s = ltb (length_of s) 9 || ltb (limit_of rules) (length_of s) || eqb (syntax_of s) 0

unfoldable pub meets4 : Rules → List ℕ → Bool
meets4 rules s = misframed rules s || ltb (last_of s) (section_of s)

-- 5: "CRC"; "right when the whole section, CRC included, leaves zero". Of the register that it leaves:
unfoldable pub meets5 : (register : ℕ) → Bool
meets5 g = not (eqb g 0)

-- 6: "current_next 0"
unfoldable pub meets6 : List ℕ → Bool
meets6 s = eqb (current_of s) 0

-- The table, in its order, whatever register is handed in: who has computed it need not do so again.
abbrev pub tests_by : (register : ℕ) → Rules → List ℕ → Tests
tests_by g rules s = (2, meets2 s) ∷ (3, meets3 rules s) ∷ (4, meets4 rules s) ∷ (5, meets5 g) ∷ (6, meets6 s) ∷ []

-- "The lowest that applies is given"; 0 where none does
unfoldable pub refusal_by : (register : ℕ) → Rules → List ℕ → ℕ
refusal_by g rules s = first_met (tests_by g rules s)

-- and the section's own: by the register that it leaves
abbrev pub section_tests : Rules → List ℕ → Tests
section_tests rules s = tests_by (crc_of s) rules s

abbrev pub refusal_of : Rules → List ℕ → ℕ
refusal_of rules s = refusal_by (crc_of s) rules s

-- WHERE IT BROKE. 02, §9: "Refusals 2 to 6 now carry a place: 2 the lent length; 3 zero; 4 one, or six where only the section numbers are wrong; 5 the first CRC byte; 6 five."
-- A place is a byte, counted from the section's first. No other number has one.
abbrev pub Spot : Type 0
Spot = Option ℕ

unfoldable pub spot_of : Rules → List ℕ → (number : ℕ) → Spot
spot_of rules s n =
    cond (eqb n 2) (Some (length s))
    (cond (eqb n 3) (Some 0)
    (cond (eqb n 4) (Some (cond (misframed rules s) 1 6))
    (cond (eqb n 5) (Some (length s - 4))
    (cond (eqb n 6) (Some 5)
    None))))

-- An accepted section as a reader would say it: every clause of the paper, none of them a test.
pub record GoodSection (rules : Rules) (s : List ℕ) : Type 0 where
  pub headed : 3 ≤ length s
  pub exact : length s ≡ 3 + length_of s
  pub table : is_table rules (table_of s) ≡ true
  pub least : 9 ≤ length_of s
  pub most : length_of s ≤ limit_of rules
  pub syntax : syntax_of s ≡ 1
  pub numbers : section_of s ≤ last_of s
  pub crc : crc_of s ≡ 0
  pub current : current_of s ≡ 1

-- And where it broke as a reader would say it, number by number, none of it a test: `p` is the place of the number n.
pub record Placed (rules : Rules) (s : List ℕ) (n : ℕ) (p : Spot) : Type 0 where
  pub two : n ≡ 2 → p ≡ Some (length s)
  pub three : n ≡ 3 → p ≡ Some 0
  pub four-short : n ≡ 4 → length_of s < 9 → p ≡ Some 1
  pub four-long : n ≡ 4 → limit_of rules < length_of s → p ≡ Some 1
  pub four-syntax : n ≡ 4 → syntax_of s ≡ 0 → p ≡ Some 1
  pub four-numbers : n ≡ 4 → 9 ≤ length_of s → length_of s ≤ limit_of rules → syntax_of s ≡ 1 → p ≡ Some 6
  pub five : n ≡ 5 → p ≡ Some (length s - 4)
  pub six : n ≡ 6 → p ≡ Some 5
  pub below : n < 2 → p ≡ None
  pub above : 6 < n → p ≡ None
