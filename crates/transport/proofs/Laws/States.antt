-- THE STATE'S BYTES: what a good state says, and that what a taken packet leaves is good and says what it should.
use Prim.Native.Nat.{ℕ, zero, suc, ◌+◌, ◌≤◌, ◌<◌}
use mathlib.Core.Path.{◌≡◌, refl, sym, ap, ap₂, ◌∙◌}
use mathlib.Core.Bool.{Bool, true, false, not, cond, ◌&&◌}
use mathlib.Core.List.{List, [], ◌∷◌, ◌++◌, append_assoc}
use Rattle.std.proofs.Common.{is_err}
use native.Mathlib.Omega.{arith}
use lib.Dec.{eqb, leb}
use lib.ListN.{length, take, drop, replicate, length-append, length-drop}
use lib.Seq.{length-take-le, take_at, drop_at, drop-drop}
use borrow.Author.Tests.{eq-eqb, ne_eqb, eqb-true, eqb-false, le-leb, lt-leb, leb-true}
use Rattle.wire.specs.Fields.{byte_at, field_at, sixteen_at, spelled}
use Rattle.wire.specs.Outcomes.{passed}
use Rattle.wire.specs.Pieces.{is_none, laid_first}
use Rattle.wire.specs.Tests.{first_met}
use Rattle.wire.proofs.Laws.Copies.{same-is}
use Rattle.wire.proofs.Laws.Fields.{field_drop, field_take, spelled_length, spelled-reads}
use Rattle.wire.proofs.Laws.Tests.{both, clash}
use Rattle.transport.specs.Packet.{packet_length, packet_refusal, pid_of, is_faulty, view_of}
use Rattle.transport.specs.Feed.{Fed, is_head, is_repeat, kept_hand, taken_by, fed, state_ruled}
use Rattle.transport.specs.State.{most_in_hand, hand_at, state_length, held_in, hand_in, state_in, state_bytes, is_untouched, is_left, state_good}
use Rattle.transport.specs.Calls.{next_state}
use Rattle.transport.proofs.Laws.Feeding.{fed-refused, fed-repeat, fed-taken, not_none}
use Rattle.transport.proofs.Laws.Rule.{full, hand-most, ruled-head, leaves-head, kept-head}

-- a packet that is not refused begins with its sync byte
pub synced : (pid : ℕ) (p : List ℕ) → packet_refusal pid p ≡ 0 → byte_at p 0 ≡ 0x47
unfolding packet_refusal first_met
synced pid p z = go (eqb (length p) 188) (eqb (byte_at p 0) 0x47) refl z
  where
    go : (u t : Bool) → eqb (byte_at p 0) 0x47 ≡ t → first_met ((40, not u) ∷ (41, not t) ∷ (42, not (eqb (pid_of p) pid)) ∷ (43, is_faulty p) ∷ []) ≡ 0
        → byte_at p 0 ≡ 0x47
    go u true e f = eqb-true (byte_at p 0) 0x47 e
    go true false e f = absurd (omega arith)
    go false false e f = absurd (omega arith)

pub hand-said : (s : List ℕ) → (state_in s).hand ≡ hand_in s
unfolding state_in
hand-said s = refl

-- WHAT A GOOD STATE SAYS
pub record Good (pid : ℕ) (s : List ℕ) : Type 0 where
  pub long : state_length ≤ length s
  pub few : held_in s ≤ most_in_hand
  pub all_there : length (hand_in s) ≡ held_in s
  pub rule-kept : state_ruled pid (state_in s) ≡ true

all_in-hand : (s : List ℕ) → state_length ≤ length s → held_in s ≤ most_in_hand → length (hand_in s) ≡ held_in s
all_in-hand s l h = let d = length-drop hand_at s in length-take-le (held_in s) (drop hand_at s) (omega arith)

untouched-none : (s : List ℕ) → is_untouched s ≡ true → held_in s ≡ 0
unfolding field_at
untouched-none s u =
    sym (field_take 2 s hand_at packet_length (omega arith)) ∙ ap (λ (l : List ℕ). sixteen_at l packet_length) (same-is (take hand_at s) (replicate hand_at 0) u)

-- what zeros say
pub untouched-says : (s : List ℕ) → byte_at s 0 ≡ 0 → is_untouched s ≡ true → state_in s ≡ record { last = []; hand = [] }
unfolding state_in
untouched-says s e u =
    ap₂ (λ (a b : List ℕ). record { last = a; hand = b }) (ap (λ (t : Bool). cond t [] (take packet_length s)) (eq-eqb (byte_at s 0) 0 e)) (ap (λ (n : ℕ). take n (drop hand_at s))
    (untouched-none s u))

pub good-says : (pid : ℕ) (s : List ℕ) → state_good pid s ≡ true → Good pid s
unfolding state_good state_in state_ruled
good-says pid s g = go (eqb (byte_at s 0) 0) refl b.1
  where
    b : (leb state_length (length s) ≡ true) × (cond (eqb (byte_at s 0) 0) (is_untouched s) (is_left pid s) ≡ true)
    b = both (leb state_length (length s)) (cond (eqb (byte_at s 0) 0) (is_untouched s) (is_left pid s)) g

    l : state_length ≤ length s
    l = leb-true state_length (length s) b.0

    some-last : (t : Bool) (h : List ℕ) → is_none (take packet_length s) ≡ false → eqb (packet_refusal pid (take packet_length s)) 0 ≡ true → is_head h ≡ true
        → cond (is_none (take packet_length s)) (is_none h) (eqb (packet_refusal pid (take packet_length s)) 0 && is_head h) ≡ true
    some-last t h n e f = rw (n, e, f)

    go : (t : Bool) → eqb (byte_at s 0) 0 ≡ t → cond t (is_untouched s) (is_left pid s) ≡ true → Good pid s
    go true e u =
        let z = untouched-none s u in
        let h : hand_in s ≡ [] = ap (λ (n : ℕ). take n (drop hand_at s)) z in
        record { long = l; few = omega arith; all_there = all_in-hand s l (omega arith); rule-kept = rw (e, h) }
    go false e u =
        let q = both (eqb (packet_refusal pid (take packet_length s)) 0 && leb (held_in s) most_in_hand) (is_head (hand_in s)) u in
        let r = both (eqb (packet_refusal pid (take packet_length s)) 0) (leb (held_in s) most_in_hand) q.0 in
        let f = leb-true (held_in s) most_in_hand r.1 in
        let n = not_none pid (take packet_length s) (eqb-true _ 0 r.0) in
        record { long = l; few = f; all_there = all_in-hand s l f; rule-kept = rw e (some-last true (hand_in s) n r.0 q.1) }

-- THE BYTES OF A STATE, laid over others, in their parts
last_some : (q h : List ℕ) → length q ≡ packet_length → state_bytes (record { last = q; hand = h }) ≡ q ++ spelled 2 (length h) ++ h
unfolding state_bytes
last_some [] h e = absurd (omega arith)
last_some (x ∷ q) h e = refl

bytes-long : (p h : List ℕ) → length p ≡ packet_length → length (p ++ spelled 2 (length h) ++ h) ≡ 190 + length h
bytes-long p h e =
    let a = length-append (p ++ spelled 2 (length h)) h in
    let b = length-append p (spelled 2 (length h)) in
    let c = spelled_length 2 (length h) in
    omega arith

pub laid-parts : (p h s : List ℕ) → length p ≡ packet_length
    → laid_first (state_bytes (record { last = p; hand = h })) s ≡ p ++ (spelled 2 (length h) ++ (h ++ drop (190 + length h) s))
laid-parts p h s e =
    ap (λ (b : List ℕ). b ++ drop (length b) s) (last_some p h e)
    ∙ ap (λ (n : ℕ). (p ++ spelled 2 (length h) ++ h) ++ drop n s) (bytes-long p h e)
    ∙ append_assoc (p ++ spelled 2 (length h)) h (drop (190 + length h) s)
    ∙ append_assoc p (spelled 2 (length h)) (h ++ drop (190 + length h) s)

-- WHAT A TAKEN PACKET LEAVES: p, and h in hand
module _ (pid : ℕ) (p h s : List ℕ) (z : packet_refusal pid p ≡ 0) (k : is_head h ≡ true) (l : state_length ≤ length s) where
  abbrev left : List ℕ
  left = laid_first (state_bytes (record { last = p; hand = h })) s

  held : length h ≤ 4097
  held = hand-most h k

  left_is : left ≡ p ++ (spelled 2 (length h) ++ (h ++ drop (190 + length h) s))
  left_is = laid-parts p h s (full pid p z)

  left_packet : take packet_length left ≡ p
  left_packet = ap (take packet_length) left_is ∙ take_at p _ packet_length (full pid p z)

  left-rest : drop packet_length left ≡ spelled 2 (length h) ++ (h ++ drop (190 + length h) s)
  left-rest = ap (drop packet_length) left_is ∙ drop_at p _ packet_length (full pid p z)

  left-held : held_in left ≡ length h
  left-held =
      let e = sym (field_drop 2 left packet_length 0) ∙ ap (λ (t : List ℕ). field_at 2 t 0) left-rest ∙ spelled-reads 2 (length h) (h ++ drop (190 + length h) s) in
      let b = held in
      omega (arith, e)

  left_after_lem : drop hand_at left ≡ h ++ drop (190 + length h) s
  left_after_lem = sym (drop-drop 2 packet_length left) ∙ ap (drop 2) left-rest ∙ drop_at (spelled 2 (length h)) _ 2 (spelled_length 2 (length h))

  left-hand : hand_in left ≡ h
  left-hand = ap₂ take left-held left_after_lem ∙ take_at h (drop (190 + length h) s) (length h) refl

  left-first : byte_at left 0 ≡ 0x47
  left-first = sym (first_of left) ∙ ap (λ (t : List ℕ). byte_at t 0) left_packet ∙ synced pid p z
    where
      first_of : (xs : List ℕ) → byte_at (take packet_length xs) 0 ≡ byte_at xs 0
      first_of [] = refl
      first_of (x ∷ xs) = refl

  pub left-long : length left ≡ length s
  left-long =
      let a = ap (λ (t : List ℕ). length t) left_is in
      let b = length-append p (spelled 2 (length h) ++ (h ++ drop (190 + length h) s)) in
      let c = length-append (spelled 2 (length h)) (h ++ drop (190 + length h) s) in
      let d = length-append h (drop (190 + length h) s) in
      let e = length-drop (190 + length h) s in
      let f = spelled_length 2 (length h) in
      let g = full pid p z in
      let i = held in
      omega arith

  not_zero : byte_at left 0 ≡ 0 → ⊥
  not_zero e = let f = left-first in omega arith

  -- it is good, and says so
  pub left-good : state_good pid left ≡ true
  unfolding state_good
  left-good =
      let i = held in
      let j = left-held in
      rw (
        le-leb state_length (length left) (rw left-long l),
        ne_eqb (byte_at left 0) 0 not_zero,
        left_packet,
        eq-eqb (packet_refusal pid p) 0 z,
        le-leb
            (held_in left) most_in_hand (omega arith),
        left-hand,
        k,
      )

  pub left-says : state_in left ≡ record { last = p; hand = h }
  unfolding state_in
  left-says = ap₂ (λ (a b : List ℕ). record { last = a; hand = b }) (ap (λ (t : Bool). cond t [] (take packet_length left)) (ne_eqb (byte_at left 0) 0 not_zero) ∙ left_packet) left-hand

-- ONE PACKET MORE: the state stays good, and says what it should
module _ (pid : ℕ) (s p : List ℕ) where
  pub refused-stays : (packet_refusal pid p ≡ 0 → ⊥) → next_state pid s p ≡ s
  unfolding next_state
  refused-stays n = rw (ne_eqb (packet_refusal pid p) 0 n)

  pub repeat-stays : packet_refusal pid p ≡ 0 → is_repeat (state_in s) p ≡ true → next_state pid s p ≡ s
  unfolding next_state
  repeat-stays z r = rw (eq-eqb (packet_refusal pid p) 0 z, r)

  pub taken-left : packet_refusal pid p ≡ 0 → is_repeat (state_in s) p ≡ false → next_state pid s p ≡ laid_first (state_bytes (taken_by (state_in s) p).state) s
  unfolding next_state
  taken-left z r = rw (eq-eqb (packet_refusal pid p) 0 z, r)

module _ (pid : ℕ) (s p : List ℕ) (g : state_good pid s ≡ true) where
  head-left : packet_refusal pid p ≡ 0 → is_head (taken_by (state_in s) p).state.hand ≡ true
  head-left z = leaves-head (kept_hand (state_in s) p) (view_of p) (kept-head (state_in s) p (ruled-head pid (state_in s) (good-says pid s g).rule-kept))

  pub next-good : state_good pid (next_state pid s p) ≡ true
  next-good = go (eqb (packet_refusal pid p) 0) (is_repeat (state_in s) p) refl refl
    where
      go : (t u : Bool) → eqb (packet_refusal pid p) 0 ≡ t → is_repeat (state_in s) p ≡ u → state_good pid (next_state pid s p) ≡ true
      go false u e f = ap (state_good pid) (refused-stays pid s p (eqb-false (packet_refusal pid p) 0 e)) ∙ g
      go true true e f = ap (state_good pid) (repeat-stays pid s p (eqb-true (packet_refusal pid p) 0 e) f) ∙ g
      go true false e f =
          let z = eqb-true (packet_refusal pid p) 0 e in
          ap (state_good pid) (taken-left pid s p z f) ∙ left-good pid p _ s z (head-left z) (good-says pid s g).long

  pub next-says : state_in (next_state pid s p) ≡ (fed pid (state_in s) p).state
  next-says = go (eqb (packet_refusal pid p) 0) (is_repeat (state_in s) p) refl refl
    where
      go : (t u : Bool) → eqb (packet_refusal pid p) 0 ≡ t → is_repeat (state_in s) p ≡ u → state_in (next_state pid s p) ≡ (fed pid (state_in s) p).state
      go false u e f =
          let n = eqb-false (packet_refusal pid p) 0 e in
          ap state_in (refused-stays pid s p n) ∙ sym (ap (λ (w : Fed). w.state) (fed-refused pid (state_in s) p n))
      go true true e f =
          let z = eqb-true (packet_refusal pid p) 0 e in
          ap state_in (repeat-stays pid s p z f) ∙ sym (ap (λ (w : Fed). w.state) (fed-repeat pid (state_in s) p z f))
      go true false e f =
          let z = eqb-true (packet_refusal pid p) 0 e in
          ap state_in (taken-left pid s p z f)
          ∙ left-says pid p _ s z (head-left z) (good-says pid s g).long
          ∙ sym (ap (λ (w : Fed). w.state) (fed-taken pid (state_in s) p z f))

-- A GOOD STATE, by the tests
module _ (pid : ℕ) (s : List ℕ) where
  pub good-short : length s < state_length → state_good pid s ≡ false
  unfolding state_good
  good-short l = rw (lt-leb state_length (length s) l)

  module _ (l : state_length ≤ length s) where
    pub good-untouched : byte_at s 0 ≡ 0 → state_good pid s ≡ is_untouched s
    unfolding state_good
    good-untouched e = rw (le-leb state_length (length s) l, eq-eqb (byte_at s 0) 0 e)

    module _ (n : byte_at s 0 ≡ 0 → ⊥) where
      good_left : state_good pid s ≡ is_left pid s
      unfolding state_good
      good_left = rw (le-leb state_length (length s) l, ne_eqb (byte_at s 0) 0 n)

      -- and what it says of the packet and of what is in hand
      pub good_packet : state_good pid s ≡ true → (packet_refusal pid (take packet_length s) ≡ 0) × (is_head (hand_in s) ≡ true)
      good_packet g =
          let q = both (eqb (packet_refusal pid (take packet_length s)) 0 && leb (held_in s) most_in_hand) (is_head (hand_in s)) (sym good_left ∙ g) in
          (eqb-true (packet_refusal pid (take packet_length s)) 0 (both (eqb (packet_refusal pid (take packet_length s)) 0) (leb (held_in s) most_in_hand) q.0).0, q.1)

      pub good-refused : (packet_refusal pid (take packet_length s) ≡ 0 → ⊥) → state_good pid s ≡ false
      good-refused r = good_left ∙ ap (λ (t : Bool). t && leb (held_in s) most_in_hand && is_head (hand_in s)) (ne_eqb (packet_refusal pid (take packet_length s)) 0 r)

      module _ (r : packet_refusal pid (take packet_length s) ≡ 0) where
        sound : eqb (packet_refusal pid (take packet_length s)) 0 ≡ true
        sound = eq-eqb (packet_refusal pid (take packet_length s)) 0 r

        pub good-over : most_in_hand < held_in s → state_good pid s ≡ false
        good-over m = good_left ∙ ap₂ (λ (t u : Bool). t && u && is_head (hand_in s)) sound (lt-leb (held_in s) most_in_hand m)

        pub good-head : held_in s ≤ most_in_hand → state_good pid s ≡ is_head (hand_in s)
        good-head m = good_left ∙ ap₂ (λ (t u : Bool). t && u && is_head (hand_in s)) sound (le-leb (held_in s) most_in_hand m)

-- what is told by a refusal: whether there is one
pub clear-told : (n : ℕ) → false ≡ is_err (passed n) → n ≡ 0
clear-told zero e = refl
clear-told (suc n) e = absurd (clash false e refl)

pub refused-told : (n : ℕ) → true ≡ is_err (passed n) → n ≡ 0 → ⊥
refused-told zero e z = clash true refl e
refused-told (suc n) e z = omega (arith, z)
