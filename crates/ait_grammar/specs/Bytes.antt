-- Bytes laid one after another, and lengths before what they count. Numbers are spelled most significant bit first (wire `spelled`).
use Rattle.std.specs.Prelude.{ℕ, ◌+◌, ◌*◌, ◌<◌, List, [], ◌∷◌, ◌++◌, length}
use Rattle.wire.specs.Fields.{spelled}

-- a fact of each of some values
abbrev pub Each : {A : Type 0} → (A → Type 0) → List A → Type 0
Each P [] = Unit {0}
Each P (a ∷ as') = P a × Each P as'

abbrev pub Bytes : List ℕ → Type 0
Bytes xs = Each (λ (x : ℕ). x < 0x100) xs

-- bytes that an 8-bit length can count
abbrev pub Short : List ℕ → Type 0
Short xs = (length xs < 0x100) × Bytes xs

-- "repeated": one after another
unfoldable pub spell_all : {A : Type 0} → (A → List ℕ) → List A → List ℕ
spell_all spell [] = []
spell_all spell (a ∷ as') = spell a ++ spell_all spell as'

-- an 8-bit length and what it counts
abbrev pub sized8 : List ℕ → List ℕ
sized8 xs = spelled 1 (length xs) ++ xs

-- "4 reserved, length 12" and what it counts
abbrev pub sized12 : (reserved : ℕ) → List ℕ → List ℕ
sized12 r xs = spelled 2 (r * 4096 + length xs) ++ xs
