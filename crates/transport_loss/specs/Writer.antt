-- WHAT transport_write WRITES OF MANY SECTIONS, one after another, the counter going on; and what each of its packets carries.
use Rattle.std.specs.Prelude.{ℕ, ◌+◌, ◌-◌, ◌/◌, ◌%◌, Bool, cond, ◌&&◌, List, [], ◌∷◌, ◌++◌, ltb, length, take, drop}
use Rattle.wire.specs.Pieces.{cut}
use Rattle.transport_write.specs.Writer.{packet_of, payload_length, section_packets}
use Rattle.transport_loss.specs.Stream.{middle, final, start, Carry}

unfoldable pub packets_of_all : (pid counter : ℕ) → (sections : List (List ℕ)) → List (List ℕ)
packets_of_all pid c [] = []
packets_of_all pid c (s ∷ ss) = section_packets pid c s ++ packets_of_all pid ((c + length (section_packets pid c s)) % 16) ss

-- the pieces after a section's first: bytes of it, and with the last of them stuffing
unfoldable pub carry_on : (pid counter : ℕ) → (pieces : List (List ℕ)) → List Carry
carry_on pid c [] = []
carry_on pid c (b ∷ []) = (packet_of pid 0 c b, final b (payload_length - length b)) ∷ []
carry_on pid c (b ∷ (d ∷ ds)) = (packet_of pid 0 c b, middle b) ∷ carry_on pid ((c + 1) % 16) (d ∷ ds)

-- the first 183 bytes follow the pointer: all of the section, and stuffing; or its head
unfoldable pub carry_first : (pid counter : ℕ) → (section : List ℕ) → (pieces : List (List ℕ)) → List Carry
carry_first pid c s [] = (packet_of pid 1 c (0 ∷ s), start [] (s ∷ []) [] (183 - length s)) ∷ []
carry_first pid c s (b ∷ bs) = (packet_of pid 1 c (0 ∷ take 183 s), start [] [] (take 183 s) 0) ∷ carry_on pid ((c + 1) % 16) (b ∷ bs)

abbrev pub carry_of : (pid counter : ℕ) → (section : List ℕ) → List Carry
carry_of pid c s = carry_first pid c s (cut payload_length (drop 183 s))

unfoldable pub carry_of_all : (pid counter : ℕ) → (sections : List (List ℕ)) → List Carry
carry_of_all pid c [] = []
carry_of_all pid c (s ∷ ss) = carry_of pid c s ++ carry_of_all pid ((c + length (section_packets pid c s)) % 16) ss

-- BY THE PACKETS' PLACES: i packets come, and the n after them are lost. A section of k packets has one of these exactly where i < k and n is not 0.
abbrev pub touched : (i n k : ℕ) → Bool
touched i n k = ltb i k && ltb 0 n

-- a pointer and a section fill so many
abbrev pub packet_count : (section : List ℕ) → ℕ
packet_count s = length s / 184 + 1

-- the sections of which no packet is lost
unfoldable pub untouched : (i n : ℕ) → (sections : List (List ℕ)) → List (List ℕ)
untouched i n [] = []
untouched i n (s ∷ ss) = cond (touched i n (packet_count s)) [] (s ∷ []) ++ untouched (i - packet_count s) (n - (packet_count s - i)) ss
