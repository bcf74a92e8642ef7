-- Where a section broke. 02, §9: its place is what the request's sentence says, number by number; it lies within the section for 3 to 6; and no other number has one.
use Prim.Native.Nat.{ℕ, zero, suc, ◌+◌, ◌-◌, ◌≤◌, ◌<◌}
use mathlib.Core.Path.{◌≡◌, refl, sym, ap, ◌∙◌}
use mathlib.Core.Logic.{◌↔◌}
use mathlib.Core.Bool.{Bool, true, false, cond, ◌||◌}
use mathlib.Core.List.{List}
use native.Mathlib.Omega.{arith}
use Rattle.std.proofs.Common.{Some, None, Err}
use lib.ListN.{length, drop, length-drop}
use lib.Seq.{length-take-le}
use borrow.Author.Tests.{ltb-true, ltb-false, eqb-true, ne_eqb}
use lib.Dec.{ltb, eqb}
use Rattle.wire.specs.Fields.{sixteen_at}
use Rattle.wire.specs.Tests.{holds}
use Rattle.wire.proofs.Laws.Tests.{neither, clash, lowest_met}
use Rattle.wire.proofs.Laws.Fields.{bits_lt}
use Rattle.section.specs.Crc.{crc_of}
use Rattle.section.specs.Header.{syntax_of, length_of, limit_of, body_of}
use Rattle.section.specs.Refusals.{misframed, meets4, tests_by, refusal_by, refusal_of, spot_of, Placed, Spot}
use Rattle.section.specs.Answer.{refused, Told, checked_of}
use Rattle.section.specs.declared.Rules.{Rules}
use Rattle.section.specs.declared.Refusal.{Refusal}
use Rattle.section.proofs.Laws.Refusals.{frame-short, frame-long, sized_has, frame-syntax, frame_right, framed_has}
use Rattle.section.proofs.Laws.Exact.{rising-by, tests_by_lem, refused_has}

abbrev pub byte_in : Spot → ℕ
byte_in (Some p) = p
byte_in None = 0

-- by cases of a number: 2 to 6, and any other
by_number : (P : ℕ → Type 0) → ((n : ℕ) → n < 2 → P n) → P 2 → P 3 → P 4 → P 5 → P 6 → ((n : ℕ) → 6 < n → P n) → (n : ℕ) → P n
by_number P low p2 p3 p4 p5 p6 high zero = low 0 (omega arith)
by_number P low p2 p3 p4 p5 p6 high (suc zero) = low 1 (omega arith)
by_number P low p2 p3 p4 p5 p6 high (suc (suc zero)) = p2
by_number P low p2 p3 p4 p5 p6 high (suc (suc (suc zero))) = p3
by_number P low p2 p3 p4 p5 p6 high (suc (suc (suc (suc zero)))) = p4
by_number P low p2 p3 p4 p5 p6 high (suc (suc (suc (suc (suc zero))))) = p5
by_number P low p2 p3 p4 p5 p6 high (suc (suc (suc (suc (suc (suc zero)))))) = p6
by_number P low p2 p3 p4 p5 p6 high (suc (suc (suc (suc (suc (suc (suc n))))))) = high (suc (suc (suc (suc (suc (suc (suc n))))))) (omega arith)

module _ (rules : Rules) (s : List ℕ) where
  -- each number's place, and that the others have none
  pub spot2 : (n : ℕ) → n ≡ 2 → spot_of rules s n ≡ Some (length s)
  unfolding spot_of
  spot2 n e = rw e

  pub spot3 : (n : ℕ) → n ≡ 3 → spot_of rules s n ≡ Some 0
  unfolding spot_of
  spot3 n e = rw e

  pub spot4 : (n : ℕ) → n ≡ 4 → spot_of rules s n ≡ Some (cond (misframed rules s) 1 6)
  unfolding spot_of
  spot4 n e = rw e

  pub spot5 : (n : ℕ) → n ≡ 5 → spot_of rules s n ≡ Some (length s - 4)
  unfolding spot_of
  spot5 n e = rw e

  pub spot6 : (n : ℕ) → n ≡ 6 → spot_of rules s n ≡ Some 5
  unfolding spot_of
  spot6 n e = rw e

  pub spot-none : (n : ℕ) → (n ≡ 2 → ⊥) → (n ≡ 3 → ⊥) → (n ≡ 4 → ⊥) → (n ≡ 5 → ⊥) → (n ≡ 6 → ⊥) → spot_of rules s n ≡ None
  unfolding spot_of
  spot-none n a b c d e = rw (ne_eqb n 2 a, ne_eqb n 3 b, ne_eqb n 4 c, ne_eqb n 5 d, ne_eqb n 6 e)

  pub spot-above : (n : ℕ) → 6 < n → spot_of rules s n ≡ None
  spot-above n h = spot-none n (λ e. omega arith) (λ e. omega arith) (λ e. omega arith) (λ e. omega arith) (λ e. omega arith)

  pub spot-below : (n : ℕ) → n < 2 → spot_of rules s n ≡ None
  spot-below n h = spot-none n (λ e. omega arith) (λ e. omega arith) (λ e. omega arith) (λ e. omega arith) (λ e. omega arith)

  -- each of 2 to 6 has one, and it is not far past the end
  abbrev There : ℕ → Type 0
  There n = (spot_of rules s n ≡ Some (byte_in (spot_of rules s n))) × (byte_in (spot_of rules s n) ≤ length s + 6)

  there_as : (n p : ℕ) → spot_of rules s n ≡ Some p → p ≤ length s + 6 → There n
  there_as n p e h = rw e (refl, h)

  pub spot-there : (n : ℕ) → 1 < n → n < 7 → There n
  spot-there = by_number (λ n. 1 < n → n < 7 → There n)
      (λ n l h k. absurd (omega arith))
      (λ h k. there_as 2 (length s) (spot2 2 refl) (omega arith))
      (λ h k. there_as 3 0 (spot3 3 refl) (omega arith))
      (λ h k. there_as 4 (cond (misframed rules s) 1 6) (spot4 4 refl) (four (misframed rules s)))
      (λ h k. there_as 5 (length s - 4) (spot5 5 refl) (omega arith))
      (λ h k. there_as 6 5 (spot6 6 refl) (omega arith))
      (λ n l h k. absurd (omega arith))
    where
      four : (b : Bool) → cond b 1 6 ≤ length s + 6
      four true = omega arith
      four false = omega arith

  -- THE PLACE OF A NUMBER IS WHAT THE REQUEST'S SENTENCE SAYS, AND NO OTHER PLACE IS
  placed : (n : ℕ) → Placed rules s n (spot_of rules s n)
  placed n =
      record {
        two = spot2 n;
        three = spot3 n;
        four-short = λ e h. spot4 n e ∙ ap (λ (b : Bool). Some (cond b 1 6)) (frame-short rules s h);
        four-long = λ e h. spot4 n e ∙ ap (λ (b : Bool). Some (cond b 1 6)) (frame-long rules s h);
        four-syntax = λ e h. spot4 n e ∙ ap (λ (b : Bool). Some (cond b 1 6)) (frame-syntax rules s h);
        four-numbers = λ e h k i. spot4 n e ∙ ap (λ (b : Bool). Some (cond b 1 6)) (frame_right rules s h k (λ z. omega arith));
        five = spot5 n;
        six = spot6 n;
        below = spot-below n;
        above = spot-above n;
      }

  four_bad : (p : Spot) → Placed rules s 4 p → misframed rules s ≡ true → p ≡ Some 1
  four_bad p w e = go (ltb (length_of s) 9) refl (ltb (limit_of rules) (length_of s)) refl (eqb (syntax_of s) 0) refl e
    where
      go : (a : Bool) → ltb (length_of s) 9 ≡ a → (b : Bool) → ltb (limit_of rules) (length_of s) ≡ b → (c : Bool) → eqb (syntax_of s) 0 ≡ c → (a || b || c) ≡ true → p ≡ Some 1
      go true x b y c z f = w.four-short refl (ltb-true _ _ x)
      go false x true y c z f = w.four-long refl (ltb-true _ _ y)
      go false x false y true z f = w.four-syntax refl (eqb-true _ _ z)
      go false x false y false z f = absurd (clash _ f refl)

  four-only : (p : Spot) → Placed rules s 4 p → p ≡ Some (cond (misframed rules s) 1 6)
  four-only p w = go (misframed rules s) refl
    where
      go : (b : Bool) → misframed rules s ≡ b → p ≡ Some (cond b 1 6)
      go true e = four_bad p w e
      go false e =
          let f = framed_has rules s e in
          let n = f.2 in
          let b = bits_lt 15 1 (sixteen_at s 1) in
          w.four-numbers refl f.0 f.1 (omega (arith, n))

  placed-only : (n : ℕ) (p : Spot) → Placed rules s n p → p ≡ spot_of rules s n
  placed-only = by_number (λ n. (p : Spot) → Placed rules s n p → p ≡ spot_of rules s n)
      (λ n l p w. w.below l ∙ sym (spot-below n l))
      (λ p w. w.two refl ∙ sym (spot2 2 refl))
      (λ p w. w.three refl ∙ sym (spot3 3 refl))
      (λ p w. four-only p w ∙ sym (spot4 4 refl))
      (λ p w. w.five refl ∙ sym (spot5 5 refl))
      (λ p w. w.six refl ∙ sym (spot6 6 refl))
      (λ n l p w. w.above l ∙ sym (spot-above n l))

  pub placed-exactly : (n : ℕ) (p : Spot) → (p ≡ spot_of rules s n) ↔ Placed rules s n p
  placed-exactly n p = (λ e. rw e (placed n), placed-only n p)

  -- no test below the number holds; so from 3 on the section is as long as it says, and from 5 on it has its header and its CRC
  module _ (g : ℕ) where
    lower_by : (m : ℕ) → m < refusal_by g rules s → holds m (tests_by g rules s) ≡ false
    unfolding refusal_by
    lower_by m h = ((lowest_met (tests_by g rules s) (rising-by g rules s) (refusal_by g rules s) (omega arith)).0 refl).1 m h

    pub whole_by3 : 2 < refusal_by g rules s → (3 ≤ length s) × (length s ≡ 3 + length_of s)
    whole_by3 h = sized_has s (sym (tests_by_lem g rules s).0 ∙ lower_by 2 h)

    pub whole_by5 : 4 < refusal_by g rules s → 12 ≤ length s
    unfolding meets4
    whole_by5 h =
        let w = whole_by3 (omega arith) in
        let f = framed_has rules s (neither (misframed rules s) _ (sym (tests_by_lem g rules s).2 ∙ lower_by 4 h)).0 in
        omega (arith, w.1, f.0)

  pub whole3 : 2 < refusal_of rules s → (3 ≤ length s) × (length s ≡ 3 + length_of s)
  whole3 = whole_by3 (crc_of s)

  pub whole5 : 4 < refusal_of rules s → 12 ≤ length s
  whole5 = whole_by5 (crc_of s)

  four-within : 3 < refusal_of rules s → cond (misframed rules s) 1 6 < length s
  four-within h = go (misframed rules s) refl (whole3 (omega arith))
    where
      go : (b : Bool) → misframed rules s ≡ b → (3 ≤ length s) × (length s ≡ 3 + length_of s) → cond b 1 6 < length s
      go true e w = omega (arith, w.0)
      go false e w = omega (arith, w.1, (framed_has rules s e).0)

  within_as : (n p : ℕ) → spot_of rules s n ≡ Some p → p < length s → byte_in (spot_of rules s n) < length s
  within_as n p e h = rw e h

  byte-within : (n : ℕ) → refusal_of rules s ≡ n → 2 < n → byte_in (spot_of rules s n) < length s
  byte-within = by_number (λ n. refusal_of rules s ≡ n → 2 < n → byte_in (spot_of rules s n) < length s)
      (λ n l e h. absurd (omega arith))
      (λ e h. absurd (omega arith))
      (λ e h. within_as 3 0 (spot3 3 refl) (let w = whole3 (omega arith) in omega (arith, w.0)))
      (λ e h. within_as 4 (cond (misframed rules s) 1 6) (spot4 4 refl) (four-within (omega arith)))
      (λ e h. within_as 5 (length s - 4) (spot5 5 refl) (let w = whole5 (omega arith) in omega arith))
      (λ e h. within_as 6 5 (spot6 6 refl) (let w = whole5 (omega arith) in omega arith))
      (λ n l e h. rw (spot-above n l) (let w = whole3 (omega arith) in omega (arith, w.0)))

  -- IT LIES WITHIN THE SECTION FOR 3 TO 6
  pub spot-within : (p : ℕ) → 2 < refusal_of rules s → spot_of rules s (refusal_of rules s) ≡ Some p → p < length s
  spot-within p h e = let w = byte-within (refusal_of rules s) refl h in let f = ap byte_in e in omega arith

  -- "the first CRC byte": four bytes are left from there on, and the body ends there
  pub crc-place : 4 < refusal_of rules s → (length s ≡ length s - 4 + 4) × (8 + length (body_of s) ≡ length s - 4)
  crc-place h =
      let w = whole5 h in
      let d = length-drop 8 s in
      let t = length-take-le (length s - 12) (drop 8 s) (omega arith) in
      (omega arith, omega arith)

-- A SECTION'S REFUSAL IS ITS NUMBER AND ITS PLACE: the check's own, and every other by its number
module _ (rules : Rules) (s : List ℕ) where
  pub checked-told : (r : Refusal) → checked_of rules s ≡ Err r → Told rules s r
  checked-told r e =
      let h = refused_has rules s r e in
      let n = ap (λ (x : Refusal). x.number) h.0 in
      record { some = λ z. omega (arith, h.1); own = λ k l. sym n; placed = ap (λ (x : Refusal). x.place) h.0 ∙ ap (spot_of rules s) (sym n) }

  pub above-told : (n : ℕ) → 6 < n → Told rules s (refused n)
  above-told n h = record { some = λ z. omega arith; own = λ k l. absurd (omega arith); placed = sym (spot-above rules s n h) }

  pub broken-told : Told rules s (refused 1)
  broken-told = record { some = λ z. omega (arith, z); own = λ k l. absurd (omega (arith, k)); placed = sym (spot-below rules s 1 (omega arith)) }

  -- what that says of any caller's refusal: where it has a place, it is one of 2 to 6,
  pub told-byte : (r : Refusal) → Told rules s r → (p : ℕ) → r.place ≡ Some p → (1 < r.number) × (r.number < 7) × (p ≤ length s + 6)
  told-byte r t p e = go (ltb r.number 2) refl (ltb 6 r.number) refl
    where
      somewhere : spot_of rules s r.number ≡ None → ⊥
      somewhere f = let m = t.placed in let z : ◌≡◌ {A = ℕ} 0 1 = cc in omega arith

      go : (a : Bool) → ltb r.number 2 ≡ a → (b : Bool) → ltb 6 r.number ≡ b → (1 < r.number) × (r.number < 7) × (p ≤ length s + 6)
      go true f b g = absurd (somewhere (spot-below rules s r.number (ltb-true _ _ f)))
      go false f true g = absurd (somewhere (spot-above rules s r.number (ltb-true _ _ g)))
      go false f false g =
          let k = ltb-false r.number 2 f in
          let l = ltb-false 6 r.number g in
          let w = spot-there rules s r.number (omega arith) (omega arith) in
          let q = ap byte_in (sym t.placed ∙ e) in
          (omega arith, omega arith, omega (arith, w.1))

  -- and lies within the section, but for 2
  pub told-within : (r : Refusal) → Told rules s r → (p : ℕ) → 2 < r.number → r.place ≡ Some p → p < length s
  told-within r t p h e =
      let b = told-byte r t p e in
      let o = t.own b.0 b.1 in
      spot-within rules s p (omega arith) (ap (spot_of rules s) o ∙ sym t.placed ∙ e)
