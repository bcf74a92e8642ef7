-- "A 4,066-byte block without adaptation has L = 4,093": of every block that is heard, and there is one for any 4,066 bytes.
use Prim.Native.Nat.{ℕ, ◌+◌, ◌-◌, ◌<◌}
use mathlib.Core.Path.{◌≡◌, refl, sym, ap, ◌∙◌}
use mathlib.Core.List.{List, ◌∷◌, ◌++◌}
use native.Mathlib.Omega.{arith}
use Rattle.std.proofs.Common.{Ok, Err}
use lib.Dec.{lit≤}
use lib.ListN.{length, drop, length-append, length-drop}
use lib.Seq.{take_at, length-take-le}
use Rattle.wire.specs.Fields.{field_at, spelled}
use Rattle.wire.proofs.Laws.Fields.{spelled_length}
use Rattle.wire.proofs.Laws.Order.{None}
use Rattle.section.specs.declared.Rules.TheVariants.{Carousel}
use Rattle.section.specs.Crc.{crc_of}
use Rattle.section.specs.Header.{length_of, header_of, body_of}
use Rattle.section.specs.Refusals.{GoodSection}
use Rattle.section.proofs.Laws.Crc.{own-crc}
use Rattle.carousel_messages.specs.declared.Block.{Block}
use Rattle.carousel_messages.specs.declared.Message.TheVariants as message
use Rattle.carousel_messages.specs.declared.CarouselTable.TheVariants.{Blocks}
use Rattle.carousel_messages.specs.Message.{adaptation_of, payload_of}
use Rattle.carousel_messages.specs.Contents.{block_data_of}
use Rattle.carousel_messages.specs.Refusals.{short7, meets8, message_framed, payload_framed, message_meets7, meets9, message_tests}
use Rattle.carousel_messages.specs.Judged.{Judged, block_of, judged_of, number_of_judged}
use Rattle.carousel_messages.specs.Heard.{Arrived, arrived, arrived_in, span_of, heard_in, heard_of}
use Rattle.carousel_messages.proofs.Exact.{good-exactly, carried-exactly}
use Rattle.carousel_messages.proofs.Laws.Heard.{data-said}

-- L of a block that is heard: 27, its adaptation bytes and its data
pub block-long : (s : List ℕ) (d : Arrived) → heard_of s ≡ arrived d → 0 < length d.bytes → length_of s ≡ 27 + adaptation_of (body_of s) + length d.bytes
unfolding heard_of heard_in arrived_in
block-long s d e p = go (judged_of s) refl e
  where
    go : (j : Judged) → judged_of s ≡ j → heard_in s j ≡ arrived d → length_of s ≡ 27 + adaptation_of (body_of s) + length d.bytes
    go (Err r) j e = let z : ◌≡◌ {A = ℕ} 0 1 = cc in absurd (omega arith)
    go (Ok (message.Announced a)) j e = let z : ◌≡◌ {A = ℕ} 0 1 = cc in absurd (omega arith)
    go (Ok (message.Carried b)) j e =
        let q : arrived_in b (span_of s b.part.start b.part.size) ≡ d = cc in
        let z : length d.bytes ≡ length (block_data_of (payload_of (body_of s))) = ap (λ (x : Arrived). length x.bytes) (sym q) ∙ ap length (data-said s b j) in
        let g = ((good-exactly s).0 (ap number_of_judged j)).0 in
        let x = g.exact in
        let l = g.least in
        let m = length-drop 6 (payload_of (body_of s)) in
        let n = length-drop (12 + adaptation_of (body_of s)) (body_of s) in
        let o = length-take-le (length s - 12) (drop 8 s) (rw length-drop (omega arith)) in
        omega arith

-- any 4,066 bytes as block 0 of module 1, version 0, of download 1: a section's header and body, and then their CRC
abbrev front : List ℕ → List ℕ
front ds =
    0x3C ∷ 0xBF ∷ 0xFD ∷ 0x00 ∷ 0x01 ∷ 0xC1 ∷ 0x00 ∷ 0x00 ∷ 0x11 ∷ 0x03 ∷ 0x10 ∷ 0x03 ∷ 0x00 ∷ 0x00 ∷ 0x00 ∷ 0x01 ∷ 0xFF ∷ 0x00 ∷ 0x0F ∷ 0xE8
    ∷ 0x00 ∷ 0x01 ∷ 0x00 ∷ 0xFF ∷ 0x00 ∷ 0x00 ∷ ds

abbrev pub longest : List ℕ → List ℕ
longest ds = front ds ++ spelled 4 (crc_of (front ds))

module _ (ds : List ℕ) (e : length ds ≡ 4066) where
  long : length (longest ds) ≡ 4096
  long = length-append (front ds) (spelled 4 (crc_of (front ds))) ∙ rw (spelled_length, e)

  body_of_lem : body_of (longest ds) ≡ drop 8 (front ds)
  body_of_lem = let l = long in take_at (drop 8 (front ds)) (spelled 4 (crc_of (front ds))) (length (longest ds) - 12) (omega arith)

  good : GoodSection Carousel (longest ds)
  unfolding field_at
  good = record { headed = let l = long in omega arith; exact = long; table = refl; least = lit≤ tt; most = lit≤ tt; syntax = refl; numbers = lit≤ tt; crc = own-crc (front ds); current = refl }

  abbrev carried : Block
  carried = record { download = 1; number = 1; version = 0; block = 0; part = record { start = 26; size = 4066 } }

  passed : None (message_tests Blocks (header_of (longest ds)) (body_of (longest ds)))
  unfolding field_at short7 meets8 message_framed payload_framed message_meets7 meets9
  passed = rw (body_of_lem, e) (refl, (refl, (refl, (refl, tt))))

  judged-block : judged_of (longest ds) ≡ Ok (message.Carried carried)
  unfolding field_at block_of
  judged-block = (carried-exactly (longest ds) carried).1 ((good-exactly (longest ds)).1 (good, passed), refl, rw (body_of_lem, e))

  heard-block : heard_of (longest ds) ≡ arrived (record { download = 1; number = 1; version = 0; block = 0; bytes = ds })
  unfolding heard_of heard_in arrived_in
  heard-block = ap (heard_in (longest ds)) judged-block
      ∙ ap (λ (l : List ℕ). arrived (record { download = 1; number = 1; version = 0; block = 0; bytes = l }))
      (take_at ds (spelled 4 (crc_of (front ds))) 4066 e)

-- "A 4,066-byte block without adaptation has L = 4,093."
pub longest-block : ((s : List ℕ) (d : Arrived) → heard_of s ≡ arrived d → adaptation_of (body_of s) ≡ 0 → length d.bytes ≡ 4066 → length_of s ≡ 4093)
    × ((ds : List ℕ) → length ds ≡ 4066
    → (heard_of (longest ds) ≡ arrived (record { download = 1; number = 1; version = 0; block = 0; bytes = ds })) × (adaptation_of (body_of (longest ds)) ≡ 0) × (length_of (longest ds) ≡ 4093))
unfolding field_at
longest-block = (λ s d h a n. let l = block-long s d h (omega arith) in omega arith, λ ds e. (heard-block ds e, rw (body_of_lem ds e), refl))
