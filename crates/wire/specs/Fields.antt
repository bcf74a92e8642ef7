-- Numbers in bytes. A byte past the end of a list reads as 0, so a field has one value in every list and at every place.
use Rattle.std.specs.Prelude.{ℕ, zero, suc, ◌+◌, ◌*◌, ◌/◌, ◌%◌, ◌^◌, List, [], ◌∷◌, get_or}

-- the byte at place i, from 0
abbrev pub byte_at : List ℕ → ℕ → ℕ
byte_at s i = get_or s i 0

-- the n bytes from place i on as one number, most significant byte first
unfoldable pub field_at : ℕ → List ℕ → ℕ → ℕ
field_at zero s i = 0
field_at (suc n) s i = field_at n s i * 256 + byte_at s (i + n)

abbrev pub sixteen_at : List ℕ → ℕ → ℕ
sixteen_at s i = field_at 2 s i

abbrev pub thirty_two_at : List ℕ → ℕ → ℕ
thirty_two_at s i = field_at 4 s i

-- the w bits of a number above its k lowest: what a shift by k and a mask of w ones leave
abbrev pub bits : (k w x : ℕ) → ℕ
bits k w x = x / 2 ^ k % 2 ^ w

-- the 12 low bits of two bytes
abbrev pub twelve_at : List ℕ → ℕ → ℕ
twelve_at s i = bits 0 12 (sixteen_at s i)

-- the n bytes that spell a number, most significant first
unfoldable pub spelled : ℕ → ℕ → List ℕ
spelled zero x = []
spelled (suc n) x = x / 256 ^ n % 256 ∷ spelled n x
