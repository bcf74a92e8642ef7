-- A loss in numbers: sections of 3, 184 and 3 bytes, which are packet 0, packets 1 and 2, and packet 3.
use Prim.Native.Nat.{ℕ}
use mathlib.Core.Path.{◌≡◌, refl}
use mathlib.Core.List.{List, [], ◌∷◌, ◌++◌}
use native.Mathlib.Omega.{arith}
use lib.ListN.{take, drop, replicate}
use Rattle.wire.specs.Fields.{field_at}
use Rattle.wire.specs.Items.{Wholes}
use Rattle.section.specs.Whole.{whole_at}
use Rattle.transport.specs.Feed.{fresh, handed_on}
use Rattle.transport_loss.specs.Writer.{packets_of_all, untouched}
use Rattle.transport_loss.proofs.HandedOn.{written-handed-on}
use Rattle.transport_loss.proofs.Places.{lost-exactly}

abbrev short : List ℕ
short = 0x70 ∷ 0 ∷ 0 ∷ []

abbrev long : List ℕ
long = 0x71 ∷ 0 ∷ 181 ∷ replicate 181 7

abbrev three : List (List ℕ)
three = short ∷ long ∷ short ∷ []

abbrev sent : List (List ℕ)
sent = packets_of_all 0x112 14 three

whole : Wholes whole_at three
unfolding whole_at field_at
whole = ((refl, omega arith), ((refl, omega arith), ((refl, omega arith), tt)))

all_come : handed_on 0x112 fresh sent ≡ three
all_come = written-handed-on 0x112 14 three (omega arith) (omega arith) whole

-- packet 1 is lost: the long one is missing; packets 0 and 1: the first two; 2 and 3: the last two
one-lost : handed_on 0x112 fresh (take 1 sent ++ drop 2 sent) ≡ short ∷ short ∷ []
unfolding untouched
one-lost = lost-exactly 0x112 14 three (omega arith) (omega arith) whole 1 1 (omega arith)

first-two-lost : handed_on 0x112 fresh (drop 2 sent) ≡ short ∷ []
unfolding untouched
first-two-lost = lost-exactly 0x112 14 three (omega arith) (omega arith) whole 0 2 (omega arith)

last-two-lost : handed_on 0x112 fresh (take 2 sent ++ drop 4 sent) ≡ short ∷ []
unfolding untouched
last-two-lost = lost-exactly 0x112 14 three (omega arith) (omega arith) whole 2 2 (omega arith)
