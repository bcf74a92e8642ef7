-- `ait_numbers::classes::class_number` meets its contract, case by case.
use mathlib.Core.Path.{refl}
use Rattle.ait_numbers.specs.Classes.{class_number}
use Rattle.ait_numbers.proofs.classes.class_number.Goals as goal

pub returns-in-Unsigned : goal.returns-in-Unsigned
unfolding class_number
returns-in-Unsigned c = rw c.in-Unsigned.is refl

pub returns-in-Signed : goal.returns-in-Signed
unfolding class_number
returns-in-Signed c = rw c.in-Signed.is refl

pub returns-in-Other : goal.returns-in-Other
unfolding class_number
returns-in-Other c = rw c.in-Other.is refl

pub returns-in-Wildcard : goal.returns-in-Wildcard
unfolding class_number
returns-in-Wildcard c = rw c.in-Wildcard.is refl
