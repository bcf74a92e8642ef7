-- Packets of a few sections, in numbers: PID 0x112, and the first one's counter 15.
use Prim.Native.Nat.{ℕ}
use mathlib.Core.Path.{◌≡◌, refl}
use mathlib.Core.List.{List, [], ◌∷◌, ◌++◌, map}
use Rattle.std.proofs.Common.{Ok, Err}
use lib.ListN.{length, take, drop, replicate}
use Rattle.wire.specs.Fields.{field_at}
use Rattle.wire.specs.Items.{joined}
use Rattle.wire.specs.Pieces.{cut, cut_in}
use Rattle.wire.specs.Tests.{first_met}
use Rattle.transport_write.specs.Writer.{packets_over, section_packets, pack_refusal, pack_answer}

-- table 0x70, a length L, and L bytes of 7
abbrev sounded : ℕ → List ℕ
sounded l = 0x70 ∷ 0 ∷ l ∷ replicate l 7

abbrev packets : ℕ → List (List ℕ)
packets l = section_packets 0x112 15 (sounded l)

abbrev firsts : List (List ℕ) → List (List ℕ)
firsts ps = map (take 6) ps

abbrev lasts : List (List ℕ) → List (List ℕ)
lasts ps = map (drop 186) ps

abbrev lengths : List (List ℕ) → List ℕ
lengths ps = map (λ (p : List ℕ). length p) ps

-- 3 bytes: one packet, and 180 bytes of stuffing
three-bytes : packets 0 ≡ (0x47 ∷ 0x41 ∷ 0x12 ∷ 0x1F ∷ 0 ∷ 0x70 ∷ 0 ∷ 0 ∷ replicate 180 0xFF) ∷ []
unfolding cut cut_in packets_over section_packets
three-bytes = refl

-- 183 bytes: one packet, without stuffing
one_full : lengths (packets 180) ≡ 188 ∷ []
unfolding cut cut_in packets_over section_packets
one_full = refl

one_full-first : firsts (packets 180) ≡ (0x47 ∷ 0x41 ∷ 0x12 ∷ 0x1F ∷ 0 ∷ 0x70 ∷ []) ∷ []
unfolding cut cut_in packets_over section_packets
one_full-first = refl

one_full-last : lasts (packets 180) ≡ (7 ∷ 7 ∷ []) ∷ []
unfolding cut cut_in packets_over section_packets
one_full-last = refl

-- 184 bytes: two; the second goes on, with the counter 0, brings one byte and 183 of stuffing
two-packets : lengths (packets 181) ≡ 188 ∷ 188 ∷ []
unfolding cut cut_in packets_over section_packets
two-packets = refl

two-first : firsts (packets 181) ≡ (0x47 ∷ 0x41 ∷ 0x12 ∷ 0x1F ∷ 0 ∷ 0x70 ∷ []) ∷ (0x47 ∷ 0x01 ∷ 0x12 ∷ 0x10 ∷ 7 ∷ 0xFF ∷ []) ∷ []
unfolding cut cut_in packets_over section_packets
two-first = refl

two-last : lasts (packets 181) ≡ (7 ∷ 7 ∷ []) ∷ (0xFF ∷ 0xFF ∷ []) ∷ []
unfolding cut cut_in packets_over section_packets
two-last = refl

-- the answers: how many; a byte too few, or too many; stuffing; a buffer that is one byte short; a PID of 14 bits, a counter of 5
two-counted : pack_answer 0x112 15 (sounded 181) 376 ≡ Ok 2
unfolding cut cut_in packets_over section_packets joined field_at first_met pack_refusal pack_answer
two-counted = refl

too_few : pack_answer 0x112 15 (0x70 ∷ 0 ∷ []) 376 ≡ Err 2
unfolding cut cut_in packets_over section_packets joined field_at first_met pack_refusal pack_answer
too_few = refl

too_many : pack_answer 0x112 15 (sounded 4 ++ (7 ∷ [])) 376 ≡ Err 2
unfolding cut cut_in packets_over section_packets joined field_at first_met pack_refusal pack_answer
too_many = refl

stuffed : pack_answer 0x112 15 (0xFF ∷ 0 ∷ 0 ∷ []) 376 ≡ Err 3
unfolding cut cut_in packets_over section_packets joined field_at first_met pack_refusal pack_answer
stuffed = refl

little-room : pack_answer 0x112 15 (sounded 181) 375 ≡ Err 21
unfolding cut cut_in packets_over section_packets joined field_at first_met pack_refusal pack_answer
little-room = refl

wide_pid : pack_answer 0x2000 15 (sounded 0) 376 ≡ Err 25
unfolding cut cut_in packets_over section_packets joined field_at first_met pack_refusal pack_answer
wide_pid = refl

wide-counter : pack_answer 0x112 16 (sounded 0) 376 ≡ Err 25
unfolding cut cut_in packets_over section_packets joined field_at first_met pack_refusal pack_answer
wide-counter = refl
