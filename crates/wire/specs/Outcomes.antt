-- Answers that a number decides: the paper's number of a refusal, 0 for none.
use Rattle.std.specs.Prelude.{ℕ, zero, suc, Result, Ok, Err}

-- refused with a number, or this
abbrev pub answered : {A : Type 0} → ℕ → A → Result A ℕ
answered zero a = Ok a
answered (suc n) a = Err (suc n)

-- refused with a number, or nothing more to say
abbrev pub passed : ℕ → Result (Unit {0}) ℕ
passed n = answered n tt

-- the number of an answer; 0 is no refusal
abbrev pub number_of : {A : Type 0} → Result A ℕ → ℕ
number_of (Ok a) = 0
number_of (Err n) = n
