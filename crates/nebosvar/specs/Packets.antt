-- The answers about transport packets as structs of numbers, for C and Rust. On a refusal every other field is 0.
use Rattle.std.specs.Prelude.{Result, Ok, Err, ℕ}
use Rattle.wire.specs.Outcomes.{number_of}
use Rattle.transport.specs.declared.Answer.{Answer}
use Rattle.transport.specs.declared.Handed.{Handed}
use Rattle.transport.specs.declared.Gathered.{Gathered}
use Rattle.nebosvar.specs.declared.FedOut.{FedOut}
use Rattle.nebosvar.specs.declared.GatheredOut.{GatheredOut}
use Rattle.nebosvar.specs.declared.PackedOut.{PackedOut}
use Rattle.transport.specs.declared.Answer.TheVariants as answer

-- the paper's number; 0 where the packet was not refused
abbrev pub number_of_packet : Result Answer ℕ → ℕ
number_of_packet = number_of

-- kinds: taken 1, broken 2, repeated 3; 0 is a packet that was refused
unfoldable pub kind_of_packet : Result Answer ℕ → ℕ
kind_of_packet (Err n) = 0
kind_of_packet (Ok answer.Taken) = 1
kind_of_packet (Ok answer.Broken) = 2
kind_of_packet (Ok answer.Repeated) = 3

abbrev pub fed_out : Handed → FedOut
fed_out h = record { size = h.size; refusal = number_of_packet h.answer; kind = kind_of_packet h.answer }

unfoldable pub gathered_out : Result Gathered ℕ → GatheredOut
gathered_out (Err n) =
    record { passed = 0; size = 0; taken = 0; repeated = 0; broken = 0; refused40 = 0; refused41 = 0; refused42 = 0; refused43 = 0; refusal = n }
gathered_out (Ok g) =
    record {
      passed = g.passed;
      size = g.size;
      taken = g.counts.taken;
      repeated = g.counts.repeated;
      broken = g.counts.broken;
      refused40 = g.counts.refused40;
      refused41 = g.counts.refused41;
      refused42 = g.counts.refused42;
      refused43 = g.counts.refused43;
      refusal = 0;
    }

abbrev pub packed_out : Result ℕ ℕ → PackedOut
packed_out (Err n) = record { packets = 0; refusal = n }
packed_out (Ok n) = record { packets = n; refusal = 0 }
