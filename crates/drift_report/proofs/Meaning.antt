-- What a reader of the text finds: digits that are the number, an angle's and a minute's parts that come to it, and an argument that is taken back.
use Prim.Native.Nat.{ℕ, zero, suc, ◌+◌, ◌*◌, ◌/◌, ◌%◌, ◌^◌, ◌≤◌, ◌<◌}
use mathlib.Core.Path.{◌≡◌, refl, ◌∙◌}
use mathlib.Core.List.{[], ◌∷◌}
use native.Mathlib.Omega.{arith}
use lib.ListN.{length, length-append}
use Rattle.text.specs.Text.{digit, decimal}
use Rattle.text.specs.Digits.{value_from}
use Rattle.text.proofs.Laws.Digits.{tenth}
use Rattle.text.proofs.Meaning.{value-last, said-again}
use Rattle.std.proofs.Common.{Some}
use Rattle.drift_report.specs.Lines.{padded}
use Rattle.drift_report.specs.Argument.{module_asked}
use Rattle.drift_report.proofs.Laws.Asked.{asked-said}

-- SO MANY DIGITS AS ARE ASKED FOR, and they say the number
pub padded_length : (w n : ℕ) → length (padded w n) ≡ w
unfolding padded
padded_length zero n = refl
padded_length (suc w) n = let e = length-append (padded w (n / 10)) (digit (n % 10) ∷ []) in let r = padded_length w (n / 10) in omega arith

pub padded-value : (w n : ℕ) → n < 10 ^ w → value_from 0 (padded w n) ≡ n
unfolding padded value_from
padded-value zero n h = omega arith
padded-value (suc w) n h = let r = padded-value w (n / 10) (tenth w n h) in value-last 0 (padded w (n / 10)) (digit (n % 10)) ∙ omega (arith, r)

-- AN ANGLE'S THREE NUMBERS give it back: degrees, minutes below 60, and their ten-thousandths
pub angle-says : (a : ℕ) → (a ≡ a / 600_000 * 600_000 + a % 600_000 / 10_000 * 10_000 + a % 10_000) × (a % 600_000 / 10_000 < 60) × (a % 10_000 < 10 ^ 4)
angle-says a = (omega arith, omega arith, omega arith)

-- within a half turn the degrees have three digits, within a quarter two
pub degrees_fit : (a : ℕ) → (a ≤ 108_000_000 → a / 600_000 < 10 ^ 3) × (a ≤ 54_000_000 → a / 600_000 < 10 ^ 2)
degrees_fit a = (λ h. omega arith, λ h. omega arith)

-- A MINUTE OF THE WEEK likewise: the day, hours below 24, and minutes below 60
pub time-says : (m : ℕ) → (m ≡ m / 1_440 * 1_440 + m % 1_440 / 60 * 60 + m % 60) × (m % 1_440 / 60 < 24) × (m % 60 < 60)
time-says m = (omega arith, omega arith, omega arith)

-- A MODULE'S NUMBER IN DECIMAL ASKS FOR IT
pub asked-again : (n : ℕ) → n < 65_536 → module_asked (decimal n) ≡ Some n
asked-again n h = asked-said (decimal n) ∙ said-again 65535 n (omega arith) (omega arith)
