-- The answers about a drift list as structs of numbers, for C and Rust. On a refusal every other field is 0.
use Rattle.std.specs.Prelude.{ℕ, Result, Ok, Err, pos}
use Rattle.drift_list.specs.declared.Fix.{Fix}
use Rattle.drift_list.specs.declared.Heading.{Heading}
use Rattle.drift_list.specs.Values.{state_number}
use Rattle.nebosvar.specs.declared.ListOut.{ListOut}
use Rattle.nebosvar.specs.declared.FixOut.{FixOut}
use Rattle.nebosvar.specs.declared.WrittenOut.{WrittenOut}

abbrev pub list_out : Result Heading ℕ → ListOut
list_out (Err n) = record { issue = 0; count = 0; refusal = n }
list_out (Ok h) = record { issue = h.issue; count = h.count; refusal = 0 }

abbrev pub fix_out : Result Fix ℕ → FixOut
fix_out (Err n) = record { buoy = 0; longitude = pos 0; latitude = pos 0; minute = 0; state = 0; refusal = n }
fix_out (Ok f) = record { buoy = f.buoy; longitude = f.longitude; latitude = f.latitude; minute = f.minute; state = state_number f.state; refusal = 0 }

abbrev pub written_out : Result ℕ ℕ → WrittenOut
written_out (Err n) = record { size = 0; refusal = n }
written_out (Ok n) = record { size = n; refusal = 0 }
