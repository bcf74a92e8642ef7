-- A packet and its 188 bytes; the packets of pieces, one and the rest; how many a section has; and the loop that writes them.
use Prim.Native.Nat.{ℕ, zero, suc, ◌+◌, ◌*◌, ◌/◌, ◌%◌, ◌-◌, ◌≤◌, ◌<◌, min}
use mathlib.Core.Path.{◌≡◌, refl, sym, ap, ap₂, subst, ◌∙◌}
use mathlib.Core.Bool.{Bool, true, false}
use mathlib.Core.List.{List, [], ◌∷◌, ◌++◌, append_assoc, append-nil}
use native.Mathlib.Omega.{arith}
use lib.Dec.{ltb}
use borrow.Author.Tests.{ltb-true, ltb-false}
use lib.ListN.{length, take, drop, set, replicate, length-append, length-take, length-drop, length-replicate, take-append-drop, drop_of_length-le}
use lib.Seq.{length-take-le, take_at, drop_at, drop-drop, drop-append-add, take_all}
use Rattle.wire.specs.Copies.{overwrite, laid_at}
use Rattle.wire.specs.Items.{joined}
use Rattle.wire.specs.Pieces.{cut, laid_first}
use Rattle.wire.proofs.Laws.Copies.{laid-fits}
use Rattle.transport_write.specs.Writer.{payload_length, packet_head, packet_of, packets_over, section_packets}
use Rattle.wire.proofs.Laws.Pieces.{cut-none, cut_step, cut_length, by_cutting, Wide}

-- ONE PACKET
module _ (pid u c : ℕ) (b : List ℕ) (l : length b ≤ payload_length) where
  pub packet_length_lem : length (packet_of pid u c b) ≡ 188
  packet_length_lem =
      let a = length-append b (replicate (payload_length - length b) 0xFF) in
      let r = length-replicate {A = ℕ} (payload_length - length b) 0xFF in
      omega arith

stuffing-left : (m n : ℕ) → ◌≡◌ {A = List ℕ} (drop n (replicate m 0xFF)) (replicate (m - n) 0xFF)
stuffing-left m zero = let e : m ≡ m - 0 = omega arith in ap (λ (k : ℕ). replicate k 0xFF) e
stuffing-left zero (suc n) = let e : 0 ≡ 0 - suc n = omega arith in ap (λ (k : ℕ). replicate k 0xFF) e
stuffing-left (suc m) (suc n) = let e : m - n ≡ suc m - suc n = omega arith in stuffing-left m n ∙ ap (λ (k : ℕ). replicate k 0xFF) e

-- as code puts it: 188 bytes of stuffing, the head over the first four, the piece after it
abbrev pub headed : (pid u c : ℕ) → List ℕ
headed pid u c = set (set (set (set (replicate 188 0xFF) 0 0x47) 1 (64 * u + pid / 256)) 2 (pid % 256)) 3 (16 + c)

module _ (pid u c : ℕ) (b : List ℕ) (l : length b ≤ payload_length) where
  over-head : overwrite (packet_head pid u c ++ replicate 184 0xFF) 4 b ≡ packet_of pid u c b
  unfolding overwrite
  over-head =
      ap (λ (t : List ℕ). packet_head pid u c ++ (b ++ t)) (drop-append-add (packet_head pid u c) (replicate 184 0xFF) (length b) ∙ stuffing-left 184 (length b))

  pub packet_put : laid_at (headed pid u c) 4 b ≡ packet_of pid u c b
  packet_put = let r = length-replicate {A = ℕ} 184 0xFF in laid-fits (headed pid u c) 4 b (omega arith) ∙ over-head

  -- and laid over a buffer that has room for it
  pub packet_laid : (out : List ℕ) (at : ℕ) → at + 188 ≤ length out → (p new : List ℕ) → p ≡ laid_at (headed pid u c) 4 b → new ≡ laid_at out at p
      → new ≡ overwrite out at (packet_of pid u c b)
  packet_laid out at r p new e f =
      let k = packet_length_lem pid u c b l in
      f ∙ ap (laid_at out at) (e ∙ packet_put) ∙ laid-fits out at (packet_of pid u c b) (omega (arith, r, k))

-- THE POINTER AND THE SECTION, in zeros that have room for both
pub unit_made : (n : ℕ) (s : List ℕ) → length s < n → (new : List ℕ) → new ≡ laid_at (replicate n 0) 1 s → take (1 + length s) new ≡ 0 ∷ s
unfolding overwrite
unit_made zero s l new e = absurd (omega arith)
unit_made (suc n) s l new e =
    let r = length-replicate {A = ℕ} (suc n) 0 in
    let k : length (0 ∷ s) ≡ 1 + length s = omega arith in
    ap (take (1 + length s)) (e ∙ laid-fits (replicate (suc n) 0) 1 s (omega (arith, r, l))) ∙ take_at (0 ∷ s) (drop (1 + length s) (replicate (suc n) 0)) (1 + length s) k

-- THE PACKETS OF BYTES
module _ (pid : ℕ) where
  abbrev pub packets_from : (u c : ℕ) → List ℕ → List (List ℕ)
  packets_from u c xs = packets_over pid u c (cut payload_length xs)

  pub over_none : (u c : ℕ) → packets_from u c [] ≡ []
  unfolding packets_over
  over_none u c = ap (packets_over pid u c) (cut-none payload_length)

  pub over-step : (u c : ℕ) (xs : List ℕ) → 0 < length xs
      → packets_from u c xs ≡ packet_of pid u c (take payload_length xs) ∷ packets_from 0 ((c + 1) % 16) (drop payload_length xs)
  unfolding packets_over
  over-step u c xs l = ap (packets_over pid u c) (cut_step payload_length xs (omega arith) l)

  pub as_many_lem : (u c : ℕ) (ps : List (List ℕ)) → length (packets_over pid u c ps) ≡ length ps
  unfolding packets_over
  as_many_lem u c [] = refl
  as_many_lem u c (p ∷ ps) = ap suc (as_many_lem 0 ((c + 1) % 16) ps)

  piece-most : (xs : List ℕ) → length (take payload_length xs) ≤ payload_length
  piece-most xs = let t = length-take payload_length xs in omega arith

  -- each has 188 bytes
  pub bytes_of_lem : (xs : List ℕ) (u c : ℕ) → length (joined (packets_from u c xs)) ≡ 188 * length (packets_from u c xs)
  unfolding joined
  bytes_of_lem = by_cutting payload_length (omega arith) (λ xs. (u c : ℕ) → length (joined (packets_from u c xs)) ≡ 188 * length (packets_from u c xs)) none more
    where
      none : (u c : ℕ) → length (joined (packets_from u c [])) ≡ 188 * length (packets_from u c [])
      none u c = rw (over_none u c) refl

      more : (xs : List ℕ) → 0 < length xs → ((u c : ℕ) → length (joined (packets_from u c (drop payload_length xs))) ≡ 188 * length (packets_from u c (drop payload_length xs)))
          → (u c : ℕ) → length (joined (packets_from u c xs)) ≡ 188 * length (packets_from u c xs)
      more xs l ih u c =
          let e = over-step u c xs l in
          let f = ap (λ (ps : List (List ℕ)). length (joined ps)) e in
          let g = ap (λ (ps : List (List ℕ)). length ps) e in
          let p = packet_of pid u c (take payload_length xs) in
          let h = length-append p (joined (packets_from 0 ((c + 1) % 16) (drop payload_length xs))) in
          let i = ih 0 ((c + 1) % 16) in
          let k = packet_length_lem pid u c (take payload_length xs) (piece-most xs) in
          omega (arith, f, g, h, i, k)

  pub each_long : (xs : List ℕ) (u c : ℕ) → Wide 188 (packets_from u c xs)
  each_long = by_cutting payload_length (omega arith) (λ xs. (u c : ℕ) → Wide 188 (packets_from u c xs)) none more
    where
      none : (u c : ℕ) → Wide 188 (packets_from u c [])
      none u c = rw (over_none u c) tt

      more : (xs : List ℕ) → 0 < length xs → ((u c : ℕ) → Wide 188 (packets_from u c (drop payload_length xs))) → (u c : ℕ) → Wide 188 (packets_from u c xs)
      more xs l ih u c = rw (over-step u c xs l) (packet_length_lem pid u c (take payload_length xs) (piece-most xs), ih 0 ((c + 1) % 16))

  pub packets-long : (c : ℕ) (s : List ℕ) → Wide 188 (section_packets pid c s)
  unfolding section_packets
  packets-long c s = each_long (0 ∷ s) 1 c

  pub section-is : (c : ℕ) (s unit : List ℕ) → unit ≡ 0 ∷ s → packets_from 1 c unit ≡ section_packets pid c s
  unfolding section_packets
  section-is c s unit e = ap (packets_from 1 c) e

  -- HOW MANY A SECTION HAS, and how many bytes they are
  pub packets-many : (c : ℕ) (s : List ℕ) → length (section_packets pid c s) ≡ length s / 184 + 1
  unfolding section_packets
  packets-many c s =
      let e : length (0 ∷ s) - 1 ≡ length s = omega arith in
      as_many_lem 1 c (cut payload_length (0 ∷ s)) ∙ cut_length payload_length (0 ∷ s) (omega arith) (omega arith) ∙ ap (λ (n : ℕ). n / 184 + 1) e

  pub room-asked : (c : ℕ) (s : List ℕ) → length (joined (section_packets pid c s)) ≡ 188 * (length s / 184 + 1)
  unfolding section_packets
  room-asked c s = bytes_of_lem (0 ∷ s) 1 c ∙ ap (λ (n : ℕ). 188 * n) (packets-many c s)

-- BYTES LAID OVER OTHERS, and what stands before and after
module _ (out : List ℕ) (k : ℕ) (p : List ℕ) (room : k + length p ≤ length out) where
  front : length (take k out) ≡ k
  front = length-take-le k out (omega arith)

  whole-front : length (take k out ++ p) ≡ k + length p
  whole-front = let a = length-append (take k out) p in let b = front in omega arith

  parts : overwrite out k p ≡ take k out ++ p ++ drop (k + length p) out
  unfolding overwrite
  parts = sym (append_assoc (take k out) p (drop (k + length p) out))

  pub laid-front : take (k + length p) (overwrite out k p) ≡ take k out ++ p
  laid-front = ap (take (k + length p)) parts ∙ take_at (take k out ++ p) (drop (k + length p) out) (k + length p) whole-front

  pub laid-back : drop (k + length p) (overwrite out k p) ≡ drop (k + length p) out
  laid-back = ap (drop (k + length p)) parts ∙ drop_at (take k out ++ p) (drop (k + length p) out) (k + length p) whole-front

  pub laid_length : length (overwrite out k p) ≡ length out
  laid_length =
      let e = ap (λ (t : List ℕ). length t) parts in
      let a = length-append (take k out ++ p) (drop (k + length p) out) in
      let b = whole-front in
      let d = length-drop (k + length p) out in
      omega arith

-- a piece of so many bytes, cut off the front, and what follows it
nothing : (xs : List ℕ) → length xs ≡ 0 → xs ≡ []
nothing [] e = refl
nothing (x ∷ xs) e = absurd (omega arith)

front-piece : (w : ℕ) (xs b r : List ℕ) → xs ≡ b ++ r → length b ≡ min w (length xs) → (b ≡ take w xs) × (r ≡ drop w xs)
front-piece w xs b r e h = go (ltb (length xs) w) refl
  where
    go : (t : Bool) → ltb (length xs) w ≡ t → (b ≡ take w xs) × (r ≡ drop w xs)
    go false f =
        let l = ltb-false (length xs) w f in
        let k : length b ≡ w = omega (arith, h, l) in
        (sym (ap (take w) e ∙ take_at b r w k), sym (ap (drop w) e ∙ drop_at b r w k))
    go true f =
        let l = ltb-true (length xs) w f in
        let a = ap (λ (t : List ℕ). length t) e in
        let c = length-append b r in
        let n = nothing r (omega (arith, a, c, h, l)) in (
          sym (append-nil b) ∙ ap (λ (t : List ℕ). b ++ t) (sym n) ∙ sym e ∙ sym (take_all w xs (omega (arith, l))),
          n ∙ sym (drop_of_length-le xs {i = w} (omega (arith, l))),
        )

-- THE LOOP: n packets are written, and those of the rest are to come
pub record Going (pid counter : ℕ) (unit old out : List ℕ) (n : ℕ) (rest : List ℕ) (u c : ℕ) : Type 0 where
  pub bit : u < 2
  pub nibble : c < 16
  pub kept : length out ≡ length old
  pub so_far : 188 * n ≤ length old
  pub counted : n + length (packets_from pid u c rest) ≡ length (packets_from pid 1 counter unit)
  pub done : take (188 * n) out ++ joined (packets_from pid u c rest) ≡ joined (packets_from pid 1 counter unit)
  pub unchanged : drop (188 * n) out ≡ drop (188 * n) old

module _ (pid counter : ℕ) (unit old : List ℕ) where
  pub begins : counter < 16 → Going pid counter unit old old 0 unit 1 counter
  begins l = record { bit = omega arith; nibble = l; kept = refl; so_far = omega arith; counted = omega arith; done = refl; unchanged = refl }

  module _ (out : List ℕ) (n : ℕ) (rest : List ℕ) (u c : ℕ) (g : Going pid counter unit old out n rest u c) (room : length (joined (packets_from pid 1 counter unit)) ≤ length old) where
    abbrev piece : List ℕ
    piece = take payload_length rest

    abbrev packet : List ℕ
    packet = packet_of pid u c piece

    lies : 188 * n + length (joined (packets_from pid u c rest)) ≡ length (joined (packets_from pid 1 counter unit))
    lies =
        let e = ap (λ (t : List ℕ). length t) g.done in
        let a = length-append (take (188 * n) out) (joined (packets_from pid u c rest)) in
        let t = length-take-le (188 * n) out (omega (arith, g.kept, g.so_far)) in
        omega (arith, e, a, t)

    module _ (l : 0 < length rest) where
      long : length packet ≡ 188
      long = packet_length_lem pid u c piece (piece-most pid rest)

      split : packets_from pid u c rest ≡ packet ∷ packets_from pid 0 ((c + 1) % 16) (drop payload_length rest)
      split = over-step pid u c rest l

      -- there is room for one more
      pub one-fits : 188 * n + 188 ≤ length out
      unfolding joined
      one-fits =
          let e = ap (λ (ps : List (List ℕ)). length (joined ps)) split in
          let a = length-append packet (joined (packets_from pid 0 ((c + 1) % 16) (drop payload_length rest))) in
          let b = long in
          let f = lies in
          omega (arith, e, a, b, f, room, g.kept)

      -- and once it is written, as before
      pub one_more_lem : Going pid counter unit old (overwrite out (188 * n) packet) (n + 1) (drop payload_length rest) 0 ((c + 1) % 16)
      unfolding joined
      one_more_lem =
          let f = one-fits in
          let b = long in
          let m : 188 * n + length packet ≤ length out = omega (arith, f, b) in
          let k : 188 * (n + 1) ≡ 188 * n + length packet = omega (arith, b) in
          let k' : 188 * (n + 1) ≡ 188 * n + 188 = omega arith in
          let more = packets_from pid 0 ((c + 1) % 16) (drop payload_length rest) in
          let e = ap (λ (ps : List (List ℕ)). length ps) split in
          record {
            bit = omega arith;
            nibble = omega arith;
            kept = laid_length out (188 * n) packet m ∙ g.kept;
            so_far = omega (arith, f, g.kept);
            counted = omega (arith, e, g.counted);
            done =
                ap (λ (s : List ℕ). s ++ joined more)
                (ap (λ (j : ℕ). take j (overwrite out (188 * n) packet)) k ∙ laid-front out (188 * n) packet m)
                ∙ append_assoc (take (188 * n) out) packet (joined more)
                ∙ ap (λ (ps : List (List ℕ)). take (188 * n) out ++ joined ps) (sym split)
                ∙ g.done;
            unchanged =
                ap (λ (j : ℕ). drop j (overwrite out (188 * n) packet)) k
                ∙ laid-back out (188 * n) packet m
                ∙ ap (λ (j : ℕ). drop j out) (sym k ∙ k')
                ∙ sym (drop-drop 188 (188 * n) out)
                ∙ ap (drop 188) g.unchanged
                ∙ drop-drop 188 (188 * n) old
                ∙ ap (λ (j : ℕ). drop j old) (sym k');
          }

      -- as code has it: a piece that was cut off the front of the rest
      pub one-turn : (b r : List ℕ) → rest ≡ b ++ r → length b ≡ min payload_length (length rest)
          → (new : List ℕ) → new ≡ overwrite out (188 * n) (packet_of pid u c b) → Going pid counter unit old new (n + 1) r 0 ((c + 1) % 16)
      one-turn b r e h new q =
          let f = front-piece payload_length rest b r e h in
          subst (λ (t : List ℕ). Going pid counter unit old new (n + 1) t 0 ((c + 1) % 16)) (sym f.1)
          (subst (λ (t : List ℕ). Going pid counter unit old t (n + 1) (drop payload_length rest) 0 ((c + 1) % 16))
          (sym (q ∙ ap (λ (t : List ℕ). overwrite out (188 * n) (packet_of pid u c t)) f.0)) one_more_lem)

    pub ends : length rest ≡ 0 → (n ≡ length (packets_from pid 1 counter unit)) × (out ≡ laid_first (joined (packets_from pid 1 counter unit)) old)
    unfolding joined
    ends l =
        let z = ap (packets_from pid u c) (nothing rest l) ∙ over_none pid u c in
        let e = ap (λ (ps : List (List ℕ)). length ps) z in
        let f = ap (λ (ps : List (List ℕ)). length (joined ps)) z in
        let h = lies in
        let k : 188 * n ≡ length (joined (packets_from pid 1 counter unit)) = omega (arith, f, h) in
        let d = sym (append-nil (take (188 * n) out)) ∙ ap (λ (ps : List (List ℕ)). take (188 * n) out ++ joined ps) (sym z) ∙ g.done in (
          omega (arith, e, g.counted),
          sym (take-append-drop (188 * n) out) ∙ ap₂ (λ (s t : List ℕ). s ++ t) d (g.unchanged ∙ ap (λ (j : ℕ). drop j old) k),
        )
