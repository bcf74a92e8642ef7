-- A PACKET'S REFUSAL AND ITS PARTS, from the facts that code learns on its ways.
use Prim.Native.Nat.{ℕ, zero, suc, ◌+◌, ◌-◌, ◌≤◌, ◌<◌}
use mathlib.Core.Path.{◌≡◌, refl, sym, ap, ap₂, ◌∙◌}
use mathlib.Core.Bool.{Bool, true, false, not, cond, ◌&&◌, ◌||◌}
use mathlib.Core.List.{List, [], ◌∷◌}
use native.Mathlib.Omega.{arith}
use lib.Dec.{eqb, leb, ltb}
use lib.ListN.{length, take, drop, length-drop}
use lib.Seq.{drop-drop, drop-length, take_all}
use borrow.Author.Tests.{eq-eqb, ne_eqb, le-ltb, ltb-false, leb-false}
use Rattle.wire.specs.Fields.{byte_at}
use Rattle.wire.specs.Tests.{first_met}
use Rattle.wire.proofs.Laws.Tests.{neither}
use Rattle.transport.specs.Packet.{error_of, scrambling_of, pid_of, unit_start_of, has_field, has_payload, payload_at, payload_in, is_start, field_past, pointer_past, is_faulty, packet_refusal}
use Rattle.transport.specs.Packet.{view_of}

-- one of five tests
last_of : (a b c d e : Bool) → a ≡ false → b ≡ false → c ≡ false → d ≡ false → (a || b || c || d || e) ≡ e
last_of a b c d e p q r s = rw (p, q, r, s)

module _ (p : List ℕ) where
  abbrev error : Bool
  error = eqb (error_of p) 1

  abbrev scrambled : Bool
  scrambled = not (eqb (scrambling_of p) 0)

  abbrev empty : Bool
  empty = not (has_field p) && not (has_payload p)

  -- past the first three
  module _ (a : error_of p ≡ 1 → ⊥) (b : scrambling_of p ≡ 0) (c : empty ≡ false) where
    pub faulty-pointer : length p ≡ 188 → payload_at p ≤ length p → is_faulty p ≡ pointer_past p
    faulty-pointer l f =
        last_of error scrambled empty (field_past p) (pointer_past p) (ne_eqb (error_of p) 1 a) (ap not (eq-eqb (scrambling_of p) 0 b)) c (go (has_field p) f)
      where
        go : (t : Bool) → cond t (5 + byte_at p 4) 4 ≤ length p → (t && ltb 188 (5 + byte_at p 4)) ≡ false
        go true g = le-ltb 188 (5 + byte_at p 4) (omega arith)
        go false g = refl

  -- A SOUND PACKET: its fields end in it
  module _ (l : length p ≡ 188) (f : is_faulty p ≡ false) where
    pub payload-inside : payload_at p ≤ 188
    payload-inside = go (has_field p) (neither (error || scrambled || empty || field_past p) (pointer_past p) f).0
      where
        go : (t : Bool) → (error || scrambled || empty || (t && ltb 188 (5 + byte_at p 4))) ≡ false → cond t (5 + byte_at p 4) 4 ≤ 188
        go true e = ltb-false 188 (5 + byte_at p 4) (neither (error || scrambled || empty) (ltb 188 (5 + byte_at p 4)) e).1
        go false e = omega arith

    pub pointer-inside : is_start p ≡ true → byte_at (payload_in p) 0 < length (payload_in p)
    pointer-inside s =
        let e = (neither (error || scrambled || empty || field_past p) (pointer_past p) f).1 in
        let g : leb (length (payload_in p)) (byte_at (payload_in p) 0) ≡ false = sym (ap (λ (t : Bool). t && leb (length (payload_in p)) (byte_at (payload_in p) 0)) s) ∙ e in
        leb-false (length (payload_in p)) (byte_at (payload_in p) 0) g

-- REFUSALS, one after another
module _ (pid : ℕ) (p : List ℕ) where
  pub refused-40 : (length p ≡ 188 → ⊥) → packet_refusal pid p ≡ 40
  unfolding packet_refusal first_met
  refused-40 n = rw (ne_eqb (length p) 188 n)

  module _ (l : length p ≡ 188) where
    pub refused-41 : (byte_at p 0 ≡ 0x47 → ⊥) → packet_refusal pid p ≡ 41
    unfolding packet_refusal first_met
    refused-41 n = rw (eq-eqb (length p) 188 l, ne_eqb (byte_at p 0) 0x47 n)

    module _ (s : byte_at p 0 ≡ 0x47) where
      pub refused-42 : (pid_of p ≡ pid → ⊥) → packet_refusal pid p ≡ 42
      unfolding packet_refusal first_met
      refused-42 n = rw (eq-eqb (length p) 188 l, eq-eqb (byte_at p 0) 0x47 s, ne_eqb (pid_of p) pid n)

      module _ (q : pid_of p ≡ pid) where
        pub refused-43 : is_faulty p ≡ true → packet_refusal pid p ≡ 43
        unfolding packet_refusal first_met
        refused-43 f = rw (eq-eqb (length p) 188 l, eq-eqb (byte_at p 0) 0x47 s, eq-eqb (pid_of p) pid q, f)

        pub not-refused : is_faulty p ≡ false → packet_refusal pid p ≡ 0
        unfolding packet_refusal first_met
        not-refused f = rw (eq-eqb (length p) 188 l, eq-eqb (byte_at p 0) 0x47 s, eq-eqb (pid_of p) pid q, f)

  -- and back: one that is not refused is sound
  pub sound : packet_refusal pid p ≡ 0 → is_faulty p ≡ false
  unfolding packet_refusal first_met
  sound z = go (eqb (length p) 188) (eqb (byte_at p 0) 0x47) (eqb (pid_of p) pid) (is_faulty p) refl z
    where
      go : (a b c t : Bool) → is_faulty p ≡ t → first_met ((40, not a) ∷ (41, not b) ∷ (42, not c) ∷ (43, t) ∷ []) ≡ 0 → is_faulty p ≡ false
      go a b c false e f = e
      go false b c true e f = absurd (omega arith)
      go true false c true e f = absurd (omega arith)
      go true true false true e f = absurd (omega arith)
      go true true true true e f = absurd (omega arith)

-- WHERE ITS BYTES LIE
pub record Lies (p : List ℕ) (payload start : Bool) (from mid : ℕ) : Type 0 where
  pub has : payload ≡ (view_of p).payload
  pub begins-one : start ≡ (view_of p).start
  pub order : from ≤ mid
  pub inside : mid ≤ length p
  pub before-is : take (mid - from) (drop from p) ≡ (view_of p).before
  pub after_is : drop mid p ≡ (view_of p).after

none-taken : (n : ℕ) (l : List ℕ) → take (n - n) l ≡ []
none-taken n l = let z : n - n ≡ 0 = omega arith in ap (λ (k : ℕ). take k l) z

all-taken : (at : ℕ) (p : List ℕ) → take (length p - at) (drop at p) ≡ drop at p
all-taken at p = let d = length-drop at p in take_all (length p - at) (drop at p) (omega arith)

pub byte_drop : (at : ℕ) (p : List ℕ) → byte_at (drop at p) 0 ≡ byte_at p at
byte_drop zero p = refl
byte_drop (suc n) [] = refl
byte_drop (suc n) (x ∷ p) = byte_drop n p

module _ (p : List ℕ) where
  pub lies-idle : has_payload p ≡ false → Lies p false false (length p) (length p)
  unfolding view_of
  lies-idle n =
      record { has = sym n; begins-one = sym s; order = omega arith; inside = omega arith; before-is = none-taken (length p) _ ∙ sym b; after_is = drop-length p ∙ sym a }
    where
      s : is_start p ≡ false
      s = ap (λ (t : Bool). t && eqb (unit_start_of p) 1) n

      b : (view_of p).before ≡ []
      b = rw (s, n)

      a : (view_of p).after ≡ []
      a = rw s

  module _ (l : length p ≡ 188) (f : is_faulty p ≡ false) (q : has_payload p ≡ true) where
    pub lies-on : is_start p ≡ false → Lies p true false (payload_at p) (length p)
    unfolding view_of
    lies-on s =
        let i = payload-inside p l f in
        record { has = sym q; begins-one = sym s; order = omega arith; inside = omega arith; before-is = all-taken (payload_at p) p ∙ sym b; after_is = drop-length p ∙ sym a }
      where
        b : (view_of p).before ≡ payload_in p
        b = rw (s, q)

        a : (view_of p).after ≡ []
        a = rw s

    pub lies-start : is_start p ≡ true → Lies p true true (payload_at p + 1) (payload_at p + 1 + byte_at p (payload_at p))
    unfolding view_of
    lies-start s =
        record { has = sym q; begins-one = sym s; order = omega arith; inside = inside; before-is = ap₂ take count (sym (drop-drop 1 (payload_at p) p)) ∙ sym b; after_is = there ∙ sym a }
      where
        k : byte_at (payload_in p) 0 ≡ byte_at p (payload_at p)
        k = byte_drop (payload_at p) p

        inside : payload_at p + 1 + byte_at p (payload_at p) ≤ length p
        inside = let i = pointer-inside p l f s in let d = length-drop (payload_at p) p in let e = k in omega arith

        count : payload_at p + 1 + byte_at p (payload_at p) - (payload_at p + 1) ≡ byte_at (payload_in p) 0
        count = let e = k in omega arith

        there : drop (payload_at p + 1 + byte_at p (payload_at p)) p ≡ drop (1 + byte_at (payload_in p) 0) (payload_in p)
        there =
            let e = k in
            let m : payload_at p + 1 + byte_at p (payload_at p) ≡ payload_at p + (1 + byte_at (payload_in p) 0) = omega arith in
            ap (λ (n : ℕ). drop n p) m ∙ sym (drop-drop (1 + byte_at (payload_in p) 0) (payload_at p) p)

        b : (view_of p).before ≡ take (byte_at (payload_in p) 0) (drop 1 (payload_in p))
        b = rw s

        a : (view_of p).after ≡ drop (1 + byte_at (payload_in p) 0) (payload_in p)
        a = rw s

-- by which `packet_refusal` meets its contract
pub ruleset refusals = (refused-40, refused-41, refused-42, refused-43, not-refused)
