-- Worked lines and arguments, computed.
use mathlib.Core.Path.{◌≡◌, refl}
use lib.IntN.{pos, negsuc}
use Rattle.text.specs.Text.{codes, digits_in}
use Rattle.text.specs.Digits.{all_digits, value_from}
use Rattle.drift_list.specs.declared.State.TheVariants as state
use Rattle.std.proofs.Common.{Some, None}
use Rattle.drift_report.specs.Lines.{state_name, signed_decimal, padded, side_of, position, fix_line}
use Rattle.drift_report.specs.Argument.{module_asked}

-- west and south of zero by the least, and at the west end; the second day begins
last-known : fix_line (record { buoy = 3; state = state.LastKnown; longitude = negsuc 107_999_998; latitude = negsuc 0; minute = 1_440 })
    ≡ codes "3,last,-107999999,-1,1440,00 00.0001 S 179 59.9999 W,1 00:00\n"
unfolding fix_line state_name signed_decimal digits_in padded side_of position
last-known = refl

-- the pole, on the meridian; the last minute of the week
at_pole : fix_line (record { buoy = 1_048_575; state = state.Fix; longitude = pos 0; latitude = pos 54_000_000; minute = 10_079 })
    ≡ codes "1048575,fix,0,54000000,10079,90 00.0000 N 000 00.0000 E,6 23:59\n"
unfolding fix_line state_name signed_decimal digits_in padded side_of position
at_pole = refl

-- no position
unknown : fix_line (record { buoy = 1; state = state.None; longitude = pos 0; latitude = pos 0; minute = 59 }) ≡ codes "1,none,0,0,59,,0 00:59\n"
unfolding fix_line state_name signed_decimal digits_in padded side_of position
unknown = refl

-- the greatest number of 16 bits, the next one, nothing, a letter, and zeros in front
greatest : module_asked (codes "65535") ≡ Some 65_535
unfolding module_asked all_digits value_from
greatest = refl

too_great : module_asked (codes "65536") ≡ None
unfolding module_asked all_digits value_from
too_great = refl

empty : module_asked (codes "") ≡ None
unfolding module_asked
empty = refl

a_letter : module_asked (codes "1x") ≡ None
unfolding module_asked all_digits value_from
a_letter = refl

zeros_in-front : module_asked (codes "00001") ≡ Some 1
unfolding module_asked all_digits value_from
zeros_in-front = refl
