-- The answers of the shore player as structs of numbers, for C and Rust. On a refusal the other field is 0.
use Rattle.nebosvar.specs.declared.CountedOut.{CountedOut}
use Rattle.nebosvar.specs.declared.WrittenOut.{WrittenOut}
use Rattle.nebosvar.specs.Drift.{written_out}
use Rattle.std.specs.Prelude.{Result, Ok, Err, ℕ}

abbrev pub counted_out : Result ℕ ℕ → CountedOut
counted_out (Err n) = record { sections = 0; refusal = n }
counted_out (Ok n) = record { sections = n; refusal = 0 }

abbrev pub played_out : Result ℕ ℕ → WrittenOut
played_out = written_out
