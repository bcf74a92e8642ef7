-- Classes by their numbers.
use Rattle.std.specs.Prelude.{ℕ}
use Rattle.ait_read.specs.declared.Class.{Class}
use Rattle.ait_read.specs.declared.Class.TheVariants as class
use Rattle.ait_read.specs.declared.Control.{Control}
use Rattle.ait_read.specs.declared.Control.TheVariants as control

-- classes of an application number: unsigned 1, signed 2, other 3, wildcard 4
unfoldable pub class_number : Class → ℕ
class_number class.Unsigned = 1
class_number class.Signed = 2
class_number class.Other = 3
class_number class.Wildcard = 4

-- classes of a control code, by the paper's codes: "AUTOSTART 1, PRESENT 2, DESTROY 3, KILL 4, REMOTE 6, else reserved". Reserved is 255, a reserved code itself.
unfoldable pub control_number : Control → ℕ
control_number control.Autostart = 1
control_number control.Present = 2
control_number control.Destroy = 3
control_number control.Kill = 4
control_number control.Remote = 6
control_number control.Reserved = 255
