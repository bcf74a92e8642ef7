-- EACH NUMBER EXACTLY IN ITS CASE, in plain facts: 40 to 43 of a packet, 1 and 21 of what is lent; "lowest first". 02, §2.
use Prim.Native.Nat.{ℕ, ◌+◌, ◌/◌, ◌%◌, ◌≤◌, ◌<◌}
use mathlib.Core.Path.{◌≡◌, refl, sym, ap, ap₂, subst, ◌∙◌}
use mathlib.Core.Logic.{◌↔◌}
use mathlib.Core.Bool.{Bool, true, false, not, cond, ◌&&◌, ◌||◌}
use mathlib.Core.List.{List, [], ◌∷◌, ◌++◌}
use native.Mathlib.Omega.{arith}
use lib.Dec.{eqb, leb, ltb}
use lib.ListN.{length, take, drop, replicate, length-drop, take-append-drop}
use lib.Seq.{length-take-le, take_at}
use borrow.Author.Tests.{eq-eqb, ne_eqb, eqb-true, eqb-false, lt-ltb, le-ltb, ltb-true, ltb-false, lt-leb, not-false}
use Rattle.wire.specs.Bits.{AllBytes}
use Rattle.wire.specs.Copies.{same_numbers}
use Rattle.wire.specs.Fields.{byte_at, field_at, spelled}
use Rattle.wire.specs.Pieces.{laid_first}
use Rattle.wire.specs.Tests.{RisingFrom}
use Rattle.wire.proofs.Laws.Copies.{same-is, same_refl}
use Rattle.wire.proofs.Laws.Order.{none-exactly, nth-exactly, unmet}
use Rattle.wire.proofs.Laws.Spelled.{part-spelled}
use Rattle.wire.proofs.Laws.Tests.{both, neither, clash}
use Rattle.section.specs.Whole.{whole_at}
use Rattle.section.proofs.Laws.Whole.{whole-few}
use Rattle.transport.specs.Packet.{packet_length, error_of, scrambling_of, unit_start_of, pid_of, has_field, has_payload, payload_at, payload_in, is_start}
use Rattle.transport.specs.Packet.{field_past, pointer_past, is_faulty, packet_tests, packet_refusal}
use Rattle.transport.specs.Feed.{State, is_head}
use Rattle.transport.specs.State.{hand_at, state_length, held_in, hand_in, state_bytes, state_good}
use Rattle.transport.specs.Sound.{WithPayload, PayloadAt, Sound, OfPid, Accepted, InHand, Left, untouched, after, Lent}
use Rattle.transport.specs.Calls.{most_handed, lent_tests, lent_refusal}
use Rattle.transport.proofs.Laws.Packets.{payload-inside, pointer-inside, byte_drop}
use Rattle.transport.proofs.Laws.Rule.{is-head}
use Rattle.transport.proofs.Laws.States.{Good, good-says, good-untouched, good_packet, laid-parts, left-good}
use Rattle.transport.proofs.Laws.Taking.{hand-stays}

-- A SOUND PACKET
module _ (p : List ℕ) where
  abbrev error : Bool
  error = eqb (error_of p) 1

  abbrev scrambled : Bool
  scrambled = not (eqb (scrambling_of p) 0)

  abbrev bare : Bool
  bare = not (has_field p) && not (has_payload p)

  -- where the payload lies
  at-is : PayloadAt p (payload_at p)
  at-is = record {
    bare = λ n. ap (λ (t : Bool). cond t (5 + byte_at p 4) 4) (ne_eqb (byte_at p 3 / 32 % 2) 1 n);
    behind = λ f.
        ap (λ (t : Bool). cond t (5 + byte_at p 4) 4) (eq-eqb (byte_at p 3 / 32 % 2) 1 f);
  }

  only_at : (at : ℕ) → PayloadAt p at → at ≡ payload_at p
  only_at at k = go (has_field p) refl
    where
      go : (t : Bool) → has_field p ≡ t → at ≡ cond t (5 + byte_at p 4) 4
      go true e = k.behind (eqb-true (byte_at p 3 / 32 % 2) 1 e)
      go false e = k.bare (eqb-false (byte_at p 3 / 32 % 2) 1 e)

  starts : WithPayload p → byte_at p 1 / 64 % 2 ≡ 1 → is_start p ≡ true
  starts a b = ap₂ (λ (t u : Bool). t && u) (eq-eqb (byte_at p 3 / 16 % 2) 1 a) (eq-eqb (byte_at p 1 / 64 % 2) 1 b)

  module _ (l : length p ≡ 188) where
    sound-there : is_faulty p ≡ false → Sound p
    sound-there f = record {
      no_error = eqb-false (error_of p) 1 n.0;
      clear = eqb-true (scrambling_of p) 0 (not-false _ n.1);
      control = λ k. go (has_payload p) refl (ne_eqb (byte_at p 3 / 32 % 2) 1 k);
      field_in = λ k. subst (λ (m : ℕ). m ≤ 188) (at-is.behind k) (payload-inside p l f);
      pointer_in = λ at k a b. reaches at (only_at at k) (pointer-inside p l f (starts a b));
    }
      where
        three : (error || scrambled || bare) ≡ false
        three = (neither (error || scrambled || bare) (field_past p) (neither (error || scrambled || bare || field_past p) (pointer_past p) f).0).0

        n : (error ≡ false) × (scrambled ≡ false)
        n = neither error scrambled (neither (error || scrambled) bare three).0

        go : (t : Bool) → has_payload p ≡ t → has_field p ≡ false → WithPayload p
        go true e g = eqb-true (byte_at p 3 / 16 % 2) 1 e
        go false e g = absurd (clash _ (ap₂ (λ (t u : Bool). not t && not u) g e) (neither (error || scrambled) bare three).1)

        reaches : (at : ℕ) → at ≡ payload_at p → byte_at (payload_in p) 0 < length (payload_in p) → at + 1 + byte_at p at ≤ 188
        reaches at e h =
            let d = length-drop (payload_at p) p in
            let b = byte_drop (payload_at p) p in
            let c = ap (λ (m : ℕ). byte_at p m) e in
            omega (arith, e, h, d, b, c, l)

    sound_back : Sound p → is_faulty p ≡ false
    sound_back s = rw (ne_eqb (error_of p) 1 s.no_error, eq-eqb (scrambling_of p) 0 s.clear, not-bare, no_field, no_pointer)
      where
        not-bare : bare ≡ false
        not-bare = go (has_field p) (has_payload p) refl refl
          where
            go : (t u : Bool) → has_field p ≡ t → has_payload p ≡ u → (not t && not u) ≡ false
            go true u e f = refl
            go false true e f = refl
            go false false e f = absurd (eqb-false (byte_at p 3 / 16 % 2) 1 f (s.control (eqb-false (byte_at p 3 / 32 % 2) 1 e)))

        no_field : field_past p ≡ false
        no_field = go (has_field p) refl
          where
            go : (t : Bool) → has_field p ≡ t → (t && ltb 188 (5 + byte_at p 4)) ≡ false
            go true e = le-ltb 188 (5 + byte_at p 4) (s.field_in (eqb-true (byte_at p 3 / 32 % 2) 1 e))
            go false e = refl

        no_pointer : pointer_past p ≡ false
        no_pointer = go (is_start p) refl
          where
            go : (t : Bool) → is_start p ≡ t → (t && leb (length (payload_in p)) (byte_at (payload_in p) 0)) ≡ false
            go false e = refl
            go true e =
                let q = both (has_payload p) (eqb (unit_start_of p) 1) e in
                let i = s.pointer_in (payload_at p) at-is (eqb-true (byte_at p 3 / 16 % 2) 1 q.0) (eqb-true (byte_at p 1 / 64 % 2) 1 q.1) in
                let d = length-drop (payload_at p) p in
                let b = byte_drop (payload_at p) p in
                lt-leb (length (payload_in p)) (byte_at (payload_in p) 0) (omega (arith, i, d, b, l))

-- A PACKET'S NUMBERS
module _ (pid : ℕ) (p : List ℕ) where
  pid-is : (pid_of p ≡ pid) ↔ OfPid pid p
  unfolding field_at
  pid-is = (λ e. omega (arith, e), λ e. omega (arith, e))

  test40 : (not (eqb (length p) 188) ≡ false) ↔ (length p ≡ 188)
  test40 = (λ e. eqb-true (length p) 188 (not-false _ e), λ h. ap not (eq-eqb (length p) 188 h))

  test41 : (not (eqb (byte_at p 0) 0x47) ≡ false) ↔ (byte_at p 0 ≡ 0x47)
  test41 = (λ e. eqb-true (byte_at p 0) 0x47 (not-false _ e), λ h. ap not (eq-eqb (byte_at p 0) 0x47 h))

  test42 : (not (eqb (pid_of p) pid) ≡ false) ↔ OfPid pid p
  test42 = (λ e. pid-is.0 (eqb-true (pid_of p) pid (not-false _ e)), λ h. ap not (eq-eqb (pid_of p) pid (pid-is.1 h)))

  pub packet-exactly : (packet_refusal pid p ≡ 0) ↔ Accepted pid p
  unfolding packet_refusal
  packet-exactly =
      let n = none-exactly (packet_tests pid p) (λ z. omega arith, (λ z. omega arith, (λ z. omega arith, (λ z. omega arith, tt)))) in (
        λ e. let h = n.0 e in let l = test40.0 h.0 in
            record { long = l; sync = test41.0 h.1.0; asked = test42.0 h.1.1.0; sound = sound-there p l h.1.1.1.0 },
        λ a. n.1 (test40.1 a.long, (test41.1 a.sync, (test42.1 a.asked, (sound_back p a.long a.sound, tt)))),
      )

  rising : RisingFrom 0 (packet_tests pid p)
  rising = (omega arith, (omega arith, (omega arith, (omega arith, tt))))

  pub forty-exactly : (packet_refusal pid p ≡ 40) ↔ (length p ≡ 188 → ⊥)
  unfolding packet_refusal
  forty-exactly =
      let n = nth-exactly [] 40 (not (eqb (length p) 188)) ((41, not (eqb (byte_at p 0) 0x47)) ∷ (42, not (eqb (pid_of p) pid)) ∷ (43, is_faulty p) ∷ []) rising in
      let u = unmet (not (eqb (length p) 188)) test40 in
      (λ e. u.0 (n.0 e).1, λ h. n.1 (tt, u.1 h))

  pub forty-one-exactly : (packet_refusal pid p ≡ 41) ↔ ((length p ≡ 188) × (byte_at p 0 ≡ 0x47 → ⊥))
  unfolding packet_refusal
  forty-one-exactly =
      let n = nth-exactly ((40, not (eqb (length p) 188)) ∷ []) 41 (not (eqb (byte_at p 0) 0x47)) ((42, not (eqb (pid_of p) pid)) ∷ (43, is_faulty p) ∷ []) rising in
      let u = unmet (not (eqb (byte_at p 0) 0x47)) test41 in
      (λ e. let h = n.0 e in (test40.0 h.0.0, u.0 h.1), λ h. n.1 ((test40.1 h.0, tt), u.1 h.1))

  pub forty-two-exactly : (packet_refusal pid p ≡ 42) ↔ ((length p ≡ 188) × (byte_at p 0 ≡ 0x47) × (OfPid pid p → ⊥))
  unfolding packet_refusal
  forty-two-exactly =
      let n = nth-exactly ((40, not (eqb (length p) 188)) ∷ (41, not (eqb (byte_at p 0) 0x47)) ∷ []) 42 (not (eqb (pid_of p) pid)) ((43, is_faulty p) ∷ []) rising in
      let u = unmet (not (eqb (pid_of p) pid)) test42 in
      (λ e. let h = n.0 e in (test40.0 h.0.0, test41.0 h.0.1.0, u.0 h.1), λ h. n.1 ((test40.1 h.0, (test41.1 h.1, tt)), u.1 h.2))

  pub forty-three-exactly : (packet_refusal pid p ≡ 43) ↔ ((length p ≡ 188) × (byte_at p 0 ≡ 0x47) × OfPid pid p × (Sound p → ⊥))
  unfolding packet_refusal
  forty-three-exactly =
      let n = nth-exactly ((40, not (eqb (length p) 188)) ∷ (41, not (eqb (byte_at p 0) 0x47)) ∷ (42, not (eqb (pid_of p) pid)) ∷ []) 43 (is_faulty p) [] rising in (
        λ e. let h = n.0 e in let l = test40.0 h.0.0 in
            (l, test41.0 h.0.1.0, test42.0 h.0.1.1.0, λ s. clash (is_faulty p) h.1 (sound_back p l s)),
        λ h. n.1 ((test40.1 h.0, (test41.1 h.1, (test42.1 h.2, tt))), (unmet (is_faulty p) (sound-there p h.0, sound_back p h.0)).1 h.3),
      )

-- IN HAND
head-exactly : (h : List ℕ) → (is_head h ≡ true) ↔ InHand h
head-exactly h = (there h, back h)
  where
    there : (g : List ℕ) → is_head g ≡ true → InHand g
    there [] e = (λ l. absurd (omega arith), whole-few [] (omega arith))
    there (x ∷ g) e = let k = is-head x g e in (λ l. k.0, k.1)

    back : (g : List ℕ) → InHand g → is_head g ≡ true
    back [] k = refl
    back (x ∷ g) k = rw (ne_eqb x 0xFF (k.0 (omega arith)), eq-eqb (whole_at (x ∷ g)) 0 k.1)

-- A STATE THAT CAN HAVE BEEN LEFT
module _ (pid : ℕ) (s : List ℕ) where
  -- nothing yet
  none-there : state_length ≤ length s → byte_at s 0 ≡ 0 → state_good pid s ≡ true → Lent pid s
  unfolding state_bytes spelled
  none-there l e g =
      record { enough = l; state = record { last = []; hand = [] }; possible = untouched; spelled-so = same-is (take hand_at s) (replicate hand_at 0) (sym (good-untouched pid s l e) ∙ g) }

  none-back : state_length ≤ length s → take (length (state_bytes (record { last = []; hand = [] }))) s ≡ state_bytes (record { last = []; hand = [] }) → state_good pid s ≡ true
  unfolding state_bytes spelled
  none-back l e =
      let z : byte_at s 0 ≡ 0 = sym (first_of s) ∙ ap (λ (t : List ℕ). byte_at t 0) e in
      good-untouched pid s l z ∙ ap (λ (t : List ℕ). same_numbers t (replicate hand_at 0)) e ∙ same_refl (replicate hand_at 0)
    where
      first_of : (xs : List ℕ) → byte_at (take hand_at xs) 0 ≡ byte_at xs 0
      first_of [] = refl
      first_of (x ∷ xs) = refl

  -- a packet, and so much in hand
  some_back : (p h : List ℕ) → state_length ≤ length s → packet_refusal pid p ≡ 0 → is_head h ≡ true
      → take (length (state_bytes (record { last = p; hand = h }))) s ≡ state_bytes (record { last = p; hand = h }) → state_good pid s ≡ true
  some_back p h l z k e =
      let b = state_bytes (record { last = p; hand = h }) in
      let w : laid_first b s ≡ s = ap (λ (t : List ℕ). t ++ drop (length b) s) (sym e) ∙ take-append-drop (length b) s in
      ap (state_good pid) (sym w) ∙ left-good pid p h s z k l

  pub possible-good : Lent pid s → state_good pid s ≡ true
  possible-good m = go m.state m.possible m.spelled-so
    where
      go : (x : State) → Left pid x → take (length (state_bytes x)) s ≡ state_bytes x → state_good pid s ≡ true
      go x untouched e = none-back m.enough e
      go x (after p h a k) e = some_back p h m.enough ((packet-exactly pid p).1 a) ((head-exactly h).1 k) e

  some-there : AllBytes s → (byte_at s 0 ≡ 0 → ⊥) → state_good pid s ≡ true → Lent pid s
  some-there b n g =
      record {
        enough = q.long;
        state = x;
        possible = after p h ((packet-exactly pid p).0 k.0) ((head-exactly h).0 k.1);
        spelled-so = ap (take (length (state_bytes x))) (sym all) ∙ take_at (state_bytes x) _ _ refl;
      }
    where
      q : Good pid s
      q = good-says pid s g

      k : (packet_refusal pid (take packet_length s) ≡ 0) × (is_head (hand_in s) ≡ true)
      k = good_packet pid s q.long n g

      p : List ℕ
      p = take packet_length s

      h : List ℕ
      h = hand_in s

      x : State
      x = record { last = p; hand = h }

      -- its bytes, laid over it, change nothing
      all : laid_first (state_bytes x) s ≡ s
      all =
          laid-parts p h s (length-take-le packet_length s (omega (arith, q.long)))
          ∙ ap₂ (λ (m : ℕ) (r : List ℕ). p ++ (spelled 2 m ++ r)) q.all_there (sym (hand-stays s (held_in s) (omega (arith, q.long, q.few, length-drop hand_at s))))
          ∙ ap (λ (r : List ℕ). p ++ r) (part-spelled 2 s packet_length b (omega (arith, q.long)))
          ∙ take-append-drop packet_length s

  pub good-possible : AllBytes s → state_good pid s ≡ true → Lent pid s
  good-possible b g = go (eqb (byte_at s 0) 0) refl
    where
      go : (t : Bool) → eqb (byte_at s 0) 0 ≡ t → Lent pid s
      go true e = none-there (good-says pid s g).long (eqb-true (byte_at s 0) 0 e) g
      go false e = some-there b (eqb-false (byte_at s 0) 0 e) g

-- WHAT IS LENT: 1, then 21
module _ (pid : ℕ) (s : List ℕ) (room : ℕ) (b : AllBytes s) where
  test1 : (not (state_good pid s) ≡ false) ↔ Lent pid s
  test1 = (λ e. good-possible pid s b (not-false _ e), λ m. ap not (possible-good pid s m))

  test21 : (ltb room most_handed ≡ false) ↔ (4281 ≤ room)
  test21 = (ltb-false room most_handed, le-ltb room most_handed)

  pub lent-exactly : (lent_refusal pid s room ≡ 0) ↔ (Lent pid s × (4281 ≤ room))
  unfolding lent_refusal
  lent-exactly =
      let n = none-exactly (lent_tests pid s room) (λ z. omega arith, (λ z. omega arith, tt)) in
      (λ e. let h = n.0 e in (test1.0 h.0, test21.0 h.1.0), λ h. n.1 (test1.1 h.0, (test21.1 h.1, tt)))

  pub one-exactly : (lent_refusal pid s room ≡ 1) ↔ (Lent pid s → ⊥)
  unfolding lent_refusal
  one-exactly =
      let n = nth-exactly [] 1 (not (state_good pid s)) ((21, ltb room most_handed) ∷ []) (omega arith, (omega arith, tt)) in
      let u = unmet (not (state_good pid s)) test1 in
      (λ e. u.0 (n.0 e).1, λ h. n.1 (tt, u.1 h))

  pub twenty-one-exactly : (lent_refusal pid s room ≡ 21) ↔ (Lent pid s × (room < 4281))
  unfolding lent_refusal
  twenty-one-exactly =
      let n = nth-exactly ((1, not (state_good pid s)) ∷ []) 21 (ltb room most_handed) [] (omega arith, (omega arith, tt)) in (
        λ e. let h = n.0 e in (test1.0 h.0.0, ltb-true room most_handed h.1),
        λ h. n.1 ((test1.1 h.0, tt), lt-ltb room most_handed h.1),
      )
