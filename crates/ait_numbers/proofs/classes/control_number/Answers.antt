-- `ait_numbers::classes::control_number` meets its contract, case by case.
use mathlib.Core.Path.{refl}
use Rattle.ait_numbers.specs.Classes.{control_number}
use Rattle.ait_numbers.proofs.classes.control_number.Goals as goal

pub returns-in-Autostart : goal.returns-in-Autostart
unfolding control_number
returns-in-Autostart c = rw c.in-Autostart.is refl

pub returns-in-Present : goal.returns-in-Present
unfolding control_number
returns-in-Present c = rw c.in-Present.is refl

pub returns-in-Destroy : goal.returns-in-Destroy
unfolding control_number
returns-in-Destroy c = rw c.in-Destroy.is refl

pub returns-in-Kill : goal.returns-in-Kill
unfolding control_number
returns-in-Kill c = rw c.in-Kill.is refl

pub returns-in-Remote : goal.returns-in-Remote
unfolding control_number
returns-in-Remote c = rw c.in-Remote.is refl

pub returns-in-Reserved : goal.returns-in-Reserved
unfolding control_number
returns-in-Reserved c = rw c.in-Reserved.is refl
