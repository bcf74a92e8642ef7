-- Numbered tests, as the paper's table of refusals has them: each a number, and whether it holds.
use Rattle.std.specs.Prelude.{ℕ, ◌<◌, ◌≤◌, Bool, false, cond, ◌&&◌, ◌||◌, List, [], ◌∷◌, eqb}

abbrev pub Tests : Type 0
Tests = List (ℕ × Bool)

-- the number of the first test that holds, and 0 where none does
unfoldable pub first_met : Tests → ℕ
first_met [] = 0
first_met (t ∷ ts) = cond t.1 t.0 (first_met ts)

-- whether a test with the number n holds
unfoldable pub holds : ℕ → Tests → Bool
holds n [] = false
holds n (t ∷ ts) = (eqb t.0 n && t.1) || holds n ts

-- each number is above the one before it, and the first above k
abbrev pub RisingFrom : ℕ → Tests → Type 0
RisingFrom k [] = Unit {0}
RisingFrom k (t ∷ ts) = (k < t.0) × RisingFrom t.0 ts

-- each number is from a to b
abbrev pub Within : (a b : ℕ) → Tests → Type 0
Within a b [] = Unit {0}
Within a b (t ∷ ts) = (a ≤ t.0) × (t.0 ≤ b) × Within a b ts
