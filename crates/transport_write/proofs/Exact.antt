-- EACH NUMBER EXACTLY IN ITS CASE, in plain facts, lowest first: 2 and 3 of the section, 21 a short buffer, 25 a PID or a counter that is too wide.
use Prim.Native.Nat.{ℕ, ◌+◌, ◌*◌, ◌/◌, ◌≤◌, ◌<◌}
use mathlib.Core.Path.{◌≡◌, refl, sym, ap, ◌∙◌}
use mathlib.Core.Logic.{◌↔◌}
use mathlib.Core.Bool.{Bool, true, false, not, cond, ◌||◌}
use mathlib.Core.List.{List, [], ◌∷◌, ◌++◌}
use native.Mathlib.Omega.{arith}
use lib.Dec.{ltb, eqb}
use Rattle.std.proofs.Common.{Ok, Err}
use lib.ListN.{length, drop}
use borrow.Author.Tests.{lt-ltb, le-ltb, ltb-true, ltb-false, eq-eqb, ne_eqb, eqb-true, eqb-false, not-false}
use Rattle.wire.specs.Fields.{byte_at}
use Rattle.wire.specs.Items.{Whole, joined}
use Rattle.wire.specs.Outcomes.{answered}
use Rattle.wire.specs.Pieces.{laid_first}
use Rattle.wire.specs.Tests.{holds, RisingFrom}
use Rattle.wire.proofs.Laws.Tests.{neither, lowest_met}
use Rattle.wire.proofs.Laws.Outcomes.{is_refused}
use Rattle.wire.proofs.Laws.Order.{none-exactly, nth-exactly, unmet}
use Rattle.section.specs.Header.{length_of}
use Rattle.section.specs.Whole.{said_length, is_short, whole_at}
use Rattle.section.proofs.Laws.Whole.{whole_is}
use Rattle.transport_write.specs.Writer.{section_packets, pack_tests, pack_refusal, pack_answer, packed_bytes}
use Rattle.transport_write.proofs.Laws.Packets.{packets-many, room-asked}

module _ (pid c : ℕ) (s : List ℕ) (room : ℕ) where
  abbrev test2 : Bool
  test2 = ltb (length s) 3 || not (eqb (length s) (said_length s))

  abbrev test3 : Bool
  test3 = eqb (byte_at s 0) 0xFF

  abbrev test21 : Bool
  test21 = ltb room (length (joined (section_packets pid c s)))

  abbrev test25 : Bool
  test25 = ltb 0x1FFF pid || ltb 15 c

  -- "3 + L bytes": no fewer, and no more
  test2-is : (test2 ≡ false) ↔ (length s ≡ 3 + length_of s)
  test2-is = (
    λ e. eqb-true (length s) (said_length s) (not-false _ (neither (ltb (length s) 3) (not (eqb (length s) (said_length s))) e).1),
    λ h. rw (le-ltb (length s) 3 (omega arith), eq-eqb (length s) (said_length s) h),
  )

  test3-is : (test3 ≡ false) ↔ (byte_at s 0 ≡ 0xFF → ⊥)
  test3-is = (eqb-false (byte_at s 0) 0xFF, ne_eqb (byte_at s 0) 0xFF)

  abbrev asked : ℕ
  asked = 188 * (length s / 184 + 1)

  test21-is : (test21 ≡ false) ↔ (asked ≤ room)
  test21-is =
      let e = room-asked pid c s in
      (λ h. let l = ltb-false room (length (joined (section_packets pid c s))) h in omega (arith, e, l), λ h. le-ltb room (length (joined (section_packets pid c s))) (omega (arith, e, h)))

  test25-is : (test25 ≡ false) ↔ ((pid < 8192) × (c < 16))
  test25-is = (
    λ e. let h = neither (ltb 0x1FFF pid) (ltb 15 c) e in let a = ltb-false 0x1FFF pid h.0 in let b = ltb-false 15 c h.1 in (omega (arith, a), omega (arith, b)),
    λ h. rw (le-ltb 0x1FFF pid (omega (arith, h.0)), le-ltb 15 c (omega (arith, h.1))),
  )

  rising : RisingFrom 0 (pack_tests pid c s room)
  rising = (omega arith, (omega arith, (omega arith, (omega arith, tt))))

  -- THE PACKETS ARE WRITTEN exactly when nothing is wrong
  pub written-exactly : (pack_refusal pid c s room ≡ 0) ↔ ((length s ≡ 3 + length_of s) × (byte_at s 0 ≡ 0xFF → ⊥) × (188 * (length s / 184 + 1) ≤ room) × (pid < 8192) × (c < 16))
  unfolding pack_refusal
  written-exactly =
      let n = none-exactly (pack_tests pid c s room) (λ z. omega arith, (λ z. omega arith, (λ z. omega arith, (λ z. omega arith, tt)))) in (
        λ e. let h = n.0 e in let w = test25-is.0 h.1.1.1.0 in (test2-is.0 h.0, test3-is.0 h.1.0, test21-is.0 h.1.1.0, w.0, w.1),
        λ h. n.1 (test2-is.1 h.0, (test3-is.1 h.1, (test21-is.1 h.2, (test25-is.1 (h.3, h.4), tt)))),
      )

  pub two-exactly : (pack_refusal pid c s room ≡ 2) ↔ (length s ≡ 3 + length_of s → ⊥)
  unfolding pack_refusal
  two-exactly =
      let n = nth-exactly [] 2 test2 ((3, test3) ∷ (21, test21) ∷ (25, test25) ∷ []) rising in
      let u = unmet test2 test2-is in
      (λ e. u.0 (n.0 e).1, λ h. n.1 (tt, u.1 h))

  pub three-exactly : (pack_refusal pid c s room ≡ 3) ↔ ((length s ≡ 3 + length_of s) × (byte_at s 0 ≡ 0xFF))
  unfolding pack_refusal
  three-exactly =
      let n = nth-exactly ((2, test2) ∷ []) 3 test3 ((21, test21) ∷ (25, test25) ∷ []) rising in
      (λ e. let h = n.0 e in (test2-is.0 h.0.0, eqb-true (byte_at s 0) 0xFF h.1), λ h. n.1 ((test2-is.1 h.0, tt), eq-eqb (byte_at s 0) 0xFF h.1))

  pub twenty-one-exactly : (pack_refusal pid c s room ≡ 21) ↔ ((length s ≡ 3 + length_of s) × (byte_at s 0 ≡ 0xFF → ⊥) × (room < 188 * (length s / 184 + 1)))
  unfolding pack_refusal
  twenty-one-exactly =
      let n = nth-exactly ((2, test2) ∷ (3, test3) ∷ []) 21 test21 ((25, test25) ∷ []) rising in
      let r = room-asked pid c s in (
        λ e. let h = n.0 e in let l = ltb-true room (length (joined (section_packets pid c s))) h.1 in (test2-is.0 h.0.0, test3-is.0 h.0.1.0, omega (arith, r, l)),
        λ h. n.1 ((test2-is.1 h.0, (test3-is.1 h.1, tt)), lt-ltb room (length (joined (section_packets pid c s))) (omega (arith, r, h.2))),
      )

  pub twenty-five-exactly : (pack_refusal pid c s room ≡ 25)
      ↔ ((length s ≡ 3 + length_of s) × (byte_at s 0 ≡ 0xFF → ⊥) × (188 * (length s / 184 + 1) ≤ room) × ((pid < 8192) × (c < 16) → ⊥))
  unfolding pack_refusal
  twenty-five-exactly =
      let n = nth-exactly ((2, test2) ∷ (3, test3) ∷ (21, test21) ∷ []) 25 test25 [] rising in
      let u = unmet test25 test25-is in (
        λ e. let h = n.0 e in (test2-is.0 h.0.0, test3-is.0 h.0.1.0, test21-is.0 h.0.1.1.0, u.0 h.1),
        λ h. n.1 ((test2-is.1 h.0, (test3-is.1 h.1, (test21-is.1 h.2, tt))), u.1 h.3),
      )

  -- lowest first
  pub lowest-exactly : (n : ℕ) → 0 < n
      → (pack_refusal pid c s room ≡ n) ↔ ((holds n (pack_tests pid c s room) ≡ true) × ((m : ℕ) → m < n → holds m (pack_tests pid c s room) ≡ false))
  unfolding pack_refusal
  lowest-exactly = lowest_met (pack_tests pid c s room) rising

-- A SECTION THAT IS REFUSED WITH NEITHER 2 NOR 3 is what a receiver takes for a whole one
pub whole-exactly : (s : List ℕ) → ((length s ≡ 3 + length_of s) × (byte_at s 0 ≡ 0xFF → ⊥)) ↔ Whole whole_at s
unfolding whole_at
whole-exactly s = (there, back)
  where
    there : (length s ≡ 3 + length_of s) × (byte_at s 0 ≡ 0xFF → ⊥) → Whole whole_at s
    there h = (whole_is s (omega (arith, h.0)) h.1 (omega (arith, h.0)) ∙ sym h.0, omega (arith, h.0))

    back : Whole whole_at s → (length s ≡ 3 + length_of s) × (byte_at s 0 ≡ 0xFF → ⊥)
    back w = go (is_short s) (eqb (byte_at s 0) 0xFF) refl w.0
      where
        go : (t u : Bool) → eqb (byte_at s 0) 0xFF ≡ u → cond (t || u) 0 (said_length s) ≡ length s → (length s ≡ 3 + length_of s) × (byte_at s 0 ≡ 0xFF → ⊥)
        go true u f e = absurd (omega (arith, e, w.1))
        go false true f e = absurd (omega (arith, e, w.1))
        go false false f e = (sym e, eqb-false (byte_at s 0) 0xFF f)

-- AT MOST 23 PACKETS: a buffer of so many always has room
pub packets-most : (pid c : ℕ) (s : List ℕ) → length s ≡ 3 + length_of s → length (section_packets pid c s) ≤ 23
packets-most pid c s e = let m = packets-many pid c s in let b = length_most s in omega arith
  where
    length_most : (s : List ℕ) → length_of s < 4096
    length_most s = omega arith

pub room-enough : (pid c : ℕ) (s : List ℕ) (room : ℕ) → 188 * 23 ≤ room → pack_refusal pid c s room ≡ 21 → ⊥
room-enough pid c s room r e =
    let h = (twenty-one-exactly pid c s room).0 e in
    let m = packets-most pid c s h.0 in
    let n = packets-many pid c s in
    omega (arith, r, m, n, h.2)

-- THE ANSWERS: a number, or how many packets; and the buffer. "a refusal writes nothing"
module _ (pid c : ℕ) (s out : List ℕ) where
  abbrev n : ℕ
  n = pack_refusal pid c s (length out)

  pub refused-keeps : (n ≡ 0 → ⊥) → (pack_answer pid c s (length out) ≡ Err n) × (packed_bytes pid c s out ≡ out)
  unfolding pack_answer packed_bytes
  refused-keeps h = (is_refused n _ h, ap (λ (t : Bool). cond t (laid_first (joined (section_packets pid c s)) out) out) (ne_eqb n 0 h))

  pub packed-is : n ≡ 0 → (pack_answer pid c s (length out) ≡ Ok (length (section_packets pid c s))) × (packed_bytes pid c s out ≡ laid_first (joined (section_packets pid c s)) out)
  unfolding pack_answer packed_bytes
  packed-is h = (
    ap (λ (k : ℕ). answered k (length (section_packets pid c s))) h,
    ap (λ (t : Bool). cond t (laid_first (joined (section_packets pid c s)) out) out) (eq-eqb n 0 h),
  )

  -- "what lies past" them "is unchanged"
  pub written_is : n ≡ 0 → (pack_answer pid c s (length out) ≡ Ok (length s / 184 + 1))
      × (packed_bytes pid c s out ≡ joined (section_packets pid c s) ++ drop (188 * (length s / 184 + 1)) out)
  written_is h =
      let k = packed-is h in
      (k.0 ∙ ap Ok (packets-many pid c s), k.1 ∙ ap (λ (m : ℕ). joined (section_packets pid c s) ++ drop m out) (room-asked pid c s))
