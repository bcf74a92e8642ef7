-- A PLAIN PACKET is taken, hands nothing on, and all it brings stays in hand.
use Prim.Native.Nat.{ℕ, ◌+◌, ◌/◌, ◌%◌, ◌<◌}
use mathlib.Core.Path.{◌≡◌, sym, ap, ap₂, ◌∙◌}
use mathlib.Core.Bool.{Bool, true, false, not, cond, ◌&&◌}
use mathlib.Core.List.{List, [], ◌++◌}
use Rattle.std.proofs.Common.{Ok}
use native.Mathlib.Omega.{arith}
use lib.Dec.{leb}
use lib.ListN.{length, take, drop, length-append, length-drop, get_or-append}
use borrow.Author.Tests.{eq-eqb, ne_eqb}
use Rattle.wire.specs.Fields.{byte_at, field_at, bits}
use Rattle.wire.specs.Items.{joined}
use Rattle.section.specs.Whole.{whole_at}
use Rattle.section.proofs.Laws.Whole.{whole-short}
use Rattle.transport.specs.declared.Answer.TheVariants as answer
use Rattle.transport.specs.Packet.{packet_length, error_of, unit_start_of, pid_of, scrambling_of, has_field, has_payload, counter_of, payload_at, payload_in, is_start, is_faulty, packet_refusal}
use Rattle.transport.specs.Packet.{view_of}
use Rattle.transport.specs.Feed.{ended, grown, hands_on, leaves}
use Rattle.transport.specs.Pieces.{judged, Plain}
use Rattle.transport.proofs.Laws.Packets.{faulty-pointer, not-refused}
use Rattle.transport.proofs.Laws.Hands.{ended-short, none-long}
use Rattle.transport.proofs.Laws.Taking.{on_hands, grown-on}
use Rattle.transport.proofs.Laws.Judged.{differ-at, after-some, judged-on}

module _ (pid : ℕ) (last hand p : List ℕ) (f : Plain pid last hand p) where
  -- byte 1 has neither error nor unit start
  high : byte_at p 1 < 32
  unfolding field_at
  high = let e = f.asked in let s = f.small in omega (arith, e, s)

  of_pid : pid_of p ≡ pid
  of_pid = let e = f.asked in let s = f.small in omega (arith, e, s)

  no_error : error_of p ≡ 1 → ⊥
  no_error e = let h = high in omega (arith, e, h)

  clear : scrambling_of p ≡ 0
  clear = let n = f.next in omega (arith, n)

  no_field : has_field p ≡ false
  no_field = ne_eqb (bits 5 1 (byte_at p 3)) 1 (λ e. let n = f.next in omega (arith, n, e))

  payload : has_payload p ≡ true
  payload = let n = f.next in let q : byte_at p 3 / 16 ≡ 1 = omega (arith, n) in eq-eqb (bits 4 1 (byte_at p 3)) 1 (ap (λ (k : ℕ). k % 2) q)

  no_start : is_start p ≡ false
  no_start = ap₂ (λ (t u : Bool). t && u) payload (ne_eqb (unit_start_of p) 1 (λ e. let h = high in omega (arith, e, h)))

  four : payload_at p ≡ 4
  four = ap (λ (t : Bool). cond t (5 + byte_at p 4) 4) no_field

  sound : is_faulty p ≡ false
  sound =
      faulty-pointer p no_error clear (ap₂ (λ (t u : Bool). not t && not u) no_field payload) f.long (let q = four in let l = f.long in omega (arith, q, l))
      ∙ ap (λ (t : Bool). t && leb (length (payload_in p)) (byte_at (payload_in p) 0)) no_start

  pub plain-clear : packet_refusal pid p ≡ 0
  plain-clear = not-refused pid p f.long f.sync of_pid sound

  -- its counter is the next one, and not the last one
  counted : counter_of p ≡ (counter_of last + 1) % 16
  counted = let n = f.next in omega (arith, n)

  pub plain-judged : length last ≡ packet_length → Ok answer.Taken ≡ judged pid last p
  unfolding view_of
  plain-judged l =
      sym
      (judged-on pid last p plain-clear
      ∙ ap Ok (after-some p last l)
      ∙ ap₂ (λ (t u : Bool). Ok (cond t answer.Repeated (cond u answer.Taken answer.Broken)))
      (differ-at 3 last p (λ e. let c = counted in omega (arith, e, c)))
      (eq-eqb (counter_of p) _ (counted ∙ ap (λ (t : Bool). (counter_of last + cond t 1 0) % 16) (sym payload))))

  -- what it brings
  with-payload : (view_of p).payload ≡ true
  unfolding view_of
  with-payload = payload

  without-start : (view_of p).start ≡ false
  unfolding view_of
  without-start = no_start

  brought : (view_of p).before ≡ drop 4 p
  unfolding view_of
  brought =
      ap₂ (λ (t u : Bool). cond t (take (byte_at (payload_in p) 0) (drop 1 (payload_in p))) (cond u (payload_in p) [])) no_start payload
      ∙ ap (λ (n : ℕ). drop n p) four

  brought-long : length (drop 4 p) ≡ 184
  brought-long = let d = length-drop 4 p in let l = f.long in omega (arith, d, l)

  -- the section in hand is not whole with it
  not-whole : whole_at (hand ++ drop 4 p) ≡ 0
  unfolding field_at
  not-whole =
      let a = length-append hand (drop 4 p) in
      let b = brought-long in
      let h = f.begun in
      let k = f.lacking in
      let y = get_or-append hand (drop 4 p) 0 1 (omega (arith, h)) in
      let z = get_or-append hand (drop 4 p) 0 2 (omega (arith, h)) in
      whole-short (hand ++ drop 4 p) (omega (arith, a, h)) (omega (arith, a, b, k, y, z))

  pub plain_hands : hands_on hand (view_of p) ≡ []
  plain_hands = (on_hands hand (view_of p) with-payload without-start).0 ∙ ap (ended hand) brought ∙ ended-short hand (drop 4 p) not-whole

  pub plain-leaves : leaves hand (view_of p) ≡ hand ++ drop 4 p
  plain-leaves =
      (on_hands hand (view_of p) with-payload without-start).1
      ∙ ap (grown hand) brought
      ∙ grown-on hand (drop 4 p) (λ e. let h = f.begun in omega (arith, e, h)) (ap (λ (ss : List (List ℕ)). length (joined ss)) (ended-short hand (drop 4 p) not-whole) ∙ none-long)

  pub plain-long : length (leaves hand (view_of p)) ≡ length hand + 184
  plain-long = let a = length-append hand (drop 4 p) in let b = brought-long in let e = ap (λ (l : List ℕ). length l) plain-leaves in omega (arith, a, b, e)
