-- WHAT IS WRITTEN IS READ: a packet of 188 bytes that the encoder writes is not refused and shows what it is to carry.
use Prim.Native.Nat.{ℕ, suc, ◌+◌, ◌*◌, ◌/◌, ◌%◌, ◌<◌, ◌≤◌}
use mathlib.Core.Path.{◌≡◌, refl, ap, ap₂, ◌∙◌}
use mathlib.Core.Bool.{Bool, true, false, not, cond, ◌&&◌, ◌||◌}
use mathlib.Core.List.{List, [], ◌∷◌, ◌++◌}
use native.Mathlib.Omega.{arith}
use lib.Dec.{eqb, leb, ltb}
use lib.ListN.{length, take, drop, length-append}
use lib.Seq.{take_at, drop_at}
use borrow.Author.Tests.{eq-eqb, ne_eqb, le-ltb, lt-leb}
use Rattle.wire.specs.Fields.{byte_at, field_at, bits}
use Rattle.wire.specs.Tests.{first_met}
use Rattle.wire.specs.Items.{joined}
use Rattle.transport.specs.Packet.{View, view_of, packet_refusal, has_field, has_payload, is_start, payload_in, is_faulty, pid_of, counter_of, error_of, unit_start_of, scrambling_of}
use Rattle.transport_loss.specs.Stream.{Sent, idle, middle, final, start, shown, stuffed}
use Rattle.transport_loss.specs.Encoder.{Extra, none, field, field_bit, payload_bit, start_bit, payload, written}

-- the bits of bytes 1 and 3
module _ (u n : ℕ) (a : u ≤ 1) (b : n < 32) where
  error-bit : bits 7 1 (64 * u + n) ≡ 0
  error-bit = omega arith

  start-bit : bits 6 1 (64 * u + n) ≡ u
  start-bit = omega arith

pid-bits : (u pid : ℕ) → u ≤ 1 → pid < 8192 → ((64 * u + pid / 256) * 256 + pid % 256) / 1 % 8192 ≡ pid
pid-bits u pid a b = omega arith

module _ (f q c : ℕ) (a : f ≤ 1) (b : q ≤ 1) (l : c < 16) where
  scrambling-bits : bits 6 2 (32 * f + 16 * q + c) ≡ 0
  scrambling-bits = omega arith

  field-bit : bits 5 1 (32 * f + 16 * q + c) ≡ f
  field-bit = omega arith

  payload-bit : bits 4 1 (32 * f + 16 * q + c) ≡ q
  payload-bit = omega arith

  counter-bits : bits 0 4 (32 * f + 16 * q + c) ≡ c
  counter-bits = omega arith

field-one : (a : Extra) → field_bit a ≤ 1
field-one none = omega arith
field-one (field f) = omega arith

payload-one : (x : Sent) → payload_bit x ≤ 1
payload-one idle = omega arith
payload-one (middle bs) = omega arith
payload-one (final bs n) = omega arith
payload-one (start e ws h n) = omega arith

start-one : (x : Sent) → start_bit x ≤ 1
start-one idle = omega arith
start-one (middle bs) = omega arith
start-one (final bs n) = omega arith
start-one (start e ws h n) = omega arith

-- a view, and the fault, from what was read
abbrev seen : ℕ → (q s : Bool) → List ℕ → View
seen c q s l =
    record { counter = c; payload = q; start = s; before = cond s (take (byte_at l 0) (drop 1 l)) (cond q l []); after = cond s (drop (1 + byte_at l 0) l) [] }

seen-shown : (c : ℕ) (x : Sent) → seen c (eqb (payload_bit x) 1) (eqb (payload_bit x) 1 && eqb (start_bit x) 1) (payload x) ≡ shown c x
unfolding shown
seen-shown c idle = refl
seen-shown c (middle bs) = refl
seen-shown c (final bs n) = refl
seen-shown c (start e ws h n) =
    let r : List ℕ = joined ws ++ (h ++ stuffed n) in
    let k : 1 + length e ≡ suc (length e) = omega arith in
    let b : take (length e) (e ++ r) ≡ e = take_at e r (length e) refl in
    let d : drop (1 + length e) (length e ∷ (e ++ r)) ≡ r = ap (λ (m : ℕ). drop m (length e ∷ (e ++ r))) k ∙ drop_at e r (length e) refl in
    ap₂ (λ (y z : List ℕ). record { counter = c; payload = true; start = true; before = y; after = z }) b d

pointer-fits : (x : Sent) → (eqb (payload_bit x) 1 && eqb (start_bit x) 1 && leb (length (payload x)) (byte_at (payload x) 0)) ≡ false
pointer-fits idle = refl
pointer-fits (middle bs) = refl
pointer-fits (final bs n) = refl
pointer-fits (start e ws h n) = let l = length-append e (joined ws ++ (h ++ stuffed n)) in lt-leb (suc (length (e ++ (joined ws ++ (h ++ stuffed n))))) (length e) (omega arith)

after-extra : (pid c : ℕ) (a : Extra) (x : Sent) → drop (cond (eqb (field_bit a) 1) (5 + byte_at (written pid c a x) 4) 4) (written pid c a x) ≡ payload x
unfolding written
after-extra pid c none x = refl
after-extra pid c (field f) x =
    let k : 5 + length f ≡ suc (suc (suc (suc (suc (length f))))) = omega arith in
    ap (λ (n : ℕ). drop n (written pid c (field f) x)) k ∙ drop_at f (payload x) (length f) refl

none_of : (e s k f b : Bool) → e ≡ false → s ≡ true → k ≡ false → f ≡ false → b ≡ false → (e || not s || k || f || b) ≡ false
none_of e s k f b p q r t u = rw (p, q, r, t, u)

-- a packet of 188 bytes has an adaptation field or a payload, and its field ends in it
one_of-both : (pid c : ℕ) (a : Extra) (x : Sent) → length (written pid c a x) ≡ 188 → (not (eqb (field_bit a) 1) && not (eqb (payload_bit x) 1)) ≡ false
unfolding written
one_of-both pid c none idle l = absurd (omega arith)
one_of-both pid c none (middle bs) l = refl
one_of-both pid c none (final bs n) l = refl
one_of-both pid c none (start d ws h n) l = refl
one_of-both pid c (field f) x l = refl

field_fits : (pid c : ℕ) (a : Extra) (x : Sent) → length (written pid c a x) ≡ 188 → (eqb (field_bit a) 1 && ltb 188 (5 + byte_at (written pid c a x) 4)) ≡ false
unfolding written
field_fits pid c none x l = refl
field_fits pid c (field f) x l = let k = length-append f (payload x) in le-ltb 188 (5 + length f) (omega arith)

module _ (pid c : ℕ) (a : Extra) (x : Sent) (pl : pid < 8192) (cl : c < 16) where
  abbrev p : List ℕ
  p = written pid c a x

  counter-is : counter_of p ≡ c
  unfolding written
  counter-is = counter-bits (field_bit a) (payload_bit x) c (field-one a) (payload-one x) cl

  field_is : has_field p ≡ eqb (field_bit a) 1
  unfolding written
  field_is = ap (λ (n : ℕ). eqb n 1) (field-bit (field_bit a) (payload_bit x) c (field-one a) (payload-one x) cl)

  payload-is : has_payload p ≡ eqb (payload_bit x) 1
  unfolding written
  payload-is = ap (λ (n : ℕ). eqb n 1) (payload-bit (field_bit a) (payload_bit x) c (field-one a) (payload-one x) cl)

  start_is : unit_start_of p ≡ start_bit x
  unfolding written
  start_is = start-bit (start_bit x) (pid / 256) (start-one x) (omega arith)

  is_start-is : is_start p ≡ (eqb (payload_bit x) 1 && eqb (start_bit x) 1)
  is_start-is = ap₂ (λ (q : Bool) (s : ℕ). q && eqb s 1) payload-is start_is

  bytes_are : payload_in p ≡ payload x
  bytes_are = ap (λ (t : Bool). drop (cond t (5 + byte_at p 4) 4) p) field_is ∙ after-extra pid c a x

  pub view-written : view_of p ≡ shown c x
  unfolding view_of
  view-written =
      ap₂ (λ (n : ℕ) (q : Bool). seen n q (is_start p) (payload_in p)) counter-is payload-is
      ∙ ap₂ (λ (s : Bool) (l : List ℕ). seen c (eqb (payload_bit x) 1) s l) is_start-is bytes_are
      ∙ seen-shown c x

  -- no test of the four holds
  sync-is : byte_at p 0 ≡ 0x47
  unfolding written
  sync-is = refl

  pid-is : pid_of p ≡ pid
  unfolding written field_at
  pid-is = let b = pid-bits (start_bit x) pid (start-one x) pl in omega (arith, b)

  error-is : error_of p ≡ 0
  unfolding written
  error-is = error-bit (start_bit x) (pid / 256) (start-one x) (omega arith)

  scrambling-is : scrambling_of p ≡ 0
  unfolding written
  scrambling-is = scrambling-bits (field_bit a) (payload_bit x) c (field-one a) (payload-one x) cl

  module _ (full : length p ≡ 188) where
    some-control : (not (has_field p) && not (has_payload p)) ≡ false
    some-control = ap₂ (λ (t u : Bool). not t && not u) field_is payload-is ∙ one_of-both pid c a x full

    pub not-refused : packet_refusal pid p ≡ 0
    unfolding packet_refusal first_met
    not-refused =
        rw (eq-eqb (length p) 188 full, eq-eqb (byte_at p 0) 0x47 sync-is, eq-eqb (pid_of p) pid pid-is, faultless)
      where
        faultless : is_faulty p ≡ false
        faultless =
            let e = ne_eqb (error_of p) 1 (λ z. let w = error-is in omega (arith, z)) in
            let s = eq-eqb (scrambling_of p) 0 scrambling-is in
            let f : (has_field p && ltb 188 (5 + byte_at p 4)) ≡ false = ap (λ (t : Bool). t && ltb 188 (5 + byte_at p 4)) field_is ∙ field_fits pid c a x full in
            let b : (is_start p && leb (length (payload_in p)) (byte_at (payload_in p) 0)) ≡ false =
            ap₂ (λ (t : Bool) (l : List ℕ). t && leb (length l) (byte_at l 0)) is_start-is bytes_are ∙ pointer-fits x in
            none_of (eqb (error_of p) 1) (eqb (scrambling_of p) 0) (not (has_field p) && not (has_payload p)) (has_field p && ltb 188 (5 + byte_at p 4))
            (is_start p && leb (length (payload_in p)) (byte_at (payload_in p) 0)) e s some-control f b
