-- What is read of an application, from its own bytes. 01, "The application section".
use Rattle.std.specs.Prelude.{ℕ, cond, List, ltb, eqb}
use Rattle.wire.specs.Fields.{byte_at, sixteen_at, thirty_two_at}
use Rattle.wire.specs.Places.{after}
use Rattle.ait_descriptors.specs.declared.Kind.TheVariants.{Descriptor}
use Rattle.ait_read.specs.declared.Class.{Class}
use Rattle.ait_read.specs.declared.Class.TheVariants.{Unsigned, Signed, Other, Wildcard}
use Rattle.ait_read.specs.declared.Control.{Control}
use Rattle.ait_read.specs.declared.Control.TheVariants.{Autostart, Present, Destroy, Kill, Remote, Reserved}
use Rattle.ait_read.specs.declared.Application.{Application}
use Rattle.ait_descriptors.specs.Kinds.{count_at}

-- "0x0000 to 0x3FFF unsigned, 0x4000 to 0x7FFF signed, 0x8000 to 0xFFFD other, 0xFFFE and 0xFFFF wildcards"
unfoldable pub class_of : ℕ → Class
class_of n = cond (ltb n 0x4000) Unsigned (cond (ltb n 0x8000) Signed (cond (ltb n 0xFFFE) Other Wildcard))

-- "AUTOSTART 1, PRESENT 2, DESTROY 3, KILL 4, REMOTE 6, else reserved"
unfoldable pub control_of : ℕ → Control
control_of n =
    cond (eqb n 1) Autostart
    (cond (eqb n 2) Present
    (cond (eqb n 3) Destroy
    (cond (eqb n 4) Kill
    (cond (eqb n 6) Remote
    Reserved))))

-- "organisation 32, application 16, control code 8, 4 reserved, length 12, descriptors"; "Each number is kept besides its class."
unfoldable pub application_of : List ℕ → Application
application_of x =
    record {
      organisation = thirty_two_at x 0;
      number = sixteen_at x 4;
      class = class_of (sixteen_at x 4);
      code = byte_at x 6;
      control = control_of (byte_at x 6);
      descriptors = count_at Descriptor (after 9 x) x;
    }
