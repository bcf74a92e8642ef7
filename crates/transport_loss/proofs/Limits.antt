-- WHY 14. After 15 lost payloads the next packet has the last one's counter, and can be equal to it byte for byte: it is taken for a repeat. After 16 it looks like the next one: two halves are
-- put together that belong to different sections.
use Prim.Native.Nat.{ℕ, zero, suc, ◌<◌}
use mathlib.Core.Path.{◌≡◌, refl, sym, ap, ◌∙◌}
use mathlib.Core.Bool.{false}
use mathlib.Core.List.{List, [], ◌∷◌, ◌++◌}
use native.Mathlib.Omega.{arith}
use lib.ListN.{length, replicate}
use Rattle.wire.specs.Fields.{field_at}
use Rattle.wire.specs.Tests.{first_met}
use Rattle.wire.specs.Items.{framed, items, items_in, joined}
use Rattle.transport.specs.Packet.{packet_refusal, view_of}
use Rattle.wire.specs.Copies.{same_numbers}
use Rattle.section.specs.Whole.{whole_at}
use Rattle.transport.specs.Feed.{fresh, handed_on, fed, kept_hand, hands_on, leaves, ended, grown, head_in}
use Rattle.transport_loss.specs.Stream.{Sent, final, start, shown, turned, Fits, Aired, came, WellSent, carried, spared, Carry, comes, goes, packets, payloads}
use Rattle.transport_loss.specs.Promise.{with_loss, LossPromise}
use Rattle.transport_loss.specs.Encoder.{none, field, written}
use Rattle.transport_loss.proofs.Laws.Written.{view-written, not-refused}

-- SIXTEEN: the head of one section in one packet, the end of another in the 17th after it. If those between are lost, a section comes out that nobody sent.
sixteen : handed_on 0 fresh (written 0 0 (field (replicate 179 0xFF)) (start [] [] (0x10 ∷ 0 ∷ 2 ∷ []) 0) ∷ written 0 1 none (final (2 ∷ 2 ∷ []) 182) ∷ [])
    ≡ (0x10 ∷ 0 ∷ 2 ∷ 2 ∷ 2 ∷ []) ∷ []
unfolding handed_on fed packet_refusal first_met view_of kept_hand same_numbers hands_on leaves ended grown head_in whole_at framed items items_in joined field_at written
sixteen = refl

-- FIFTEEN: one small section, sent again and again in a packet of its own
abbrev alone : Sent
alone = start [] ((0x74 ∷ 0 ∷ 0 ∷ []) ∷ []) [] 180

abbrev numbered : ℕ → Carry
numbered c = (written 0 c none alone, alone)

abbrev many : ℕ → ℕ → List Carry
many zero c = []
many (suc n) c = numbered (turned c alone) ∷ many n (turned c alone)

abbrev counter_after : ℕ → ℕ → ℕ
counter_after zero c = c
counter_after (suc n) c = counter_after n (turned c alone)

fits : Fits [] alone
unfolding whole_at framed field_at
fits = (refl, ((refl, omega arith), tt), tt)

full : (c : ℕ) → length (written 0 c none alone) ≡ 188
unfolding written joined
full c = refl

well-one : (c : ℕ) → c < 16 → (packet_refusal 0 (written 0 c none alone) ≡ 0) × (view_of (written 0 c none alone) ≡ shown c alone)
well-one c l = (not-refused 0 c none alone (omega arith) l (full c), view-written 0 c none alone (omega arith) l)

well-many : (n c : ℕ) (rs : List Aired) → WellSent 0 (counter_after n c) [] rs → WellSent 0 c [] (goes (many n c) ++ rs)
unfolding goes
well-many zero c rs w = w
well-many (suc n) c rs w = let o = well-one (turned c alone) (omega arith) in (o.0, o.1, fits, well-many n (turned c alone) rs w)

abbrev first : Carry
first = numbered 0

well : WellSent 0 15 [] (with_loss (first ∷ []) (many 15 0) (first ∷ []))
unfolding comes
well = let o = well-one 0 (omega arith) in (o.0, o.1, fits, well-many 15 0 (came first.0 first.1 ∷ []) (o.0, o.1, fits, tt))

come_out : handed_on 0 fresh (packets (first ∷ []) ++ packets (first ∷ [])) ≡ (0x74 ∷ 0 ∷ 0 ∷ []) ∷ []
unfolding packets handed_on fed packet_refusal first_met view_of kept_hand same_numbers hands_on leaves ended grown head_in whole_at framed items items_in joined field_at written
come_out = refl

should : spared (carried [] false (with_loss (first ∷ []) (many 15 0) (first ∷ []))) ≡ (0x74 ∷ 0 ∷ 0 ∷ []) ∷ (0x74 ∷ 0 ∷ 0 ∷ []) ∷ []
unfolding spared carried comes goes
should = refl

how-many : payloads (many 15 0) ≡ 15
unfolding payloads
how-many = refl

pub not_fifteen : LossPromise 15 → ⊥
not_fifteen f =
    let e = sym come_out ∙ f 0 15 (first ∷ []) (many 15 0) (first ∷ []) well (omega (arith, how-many)) ∙ should in
    let l : ◌≡◌ {A = ℕ} 1 2 = ap (λ (x : List (List ℕ)). length x) e in
    omega arith
