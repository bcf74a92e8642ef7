-- A LOSS OF WHAT transport_write WROTE, by the packets' places: i packets come, n are lost, the rest comes. Exactly the sections with a packet among the lost are missing.
use Prim.Native.Nat.{ℕ, zero, suc, ◌+◌, ◌-◌, ◌%◌, ◌≤◌, ◌<◌}
use mathlib.Core.Path.{◌≡◌, refl, sym, ap, ap₂, ◌∙◌}
use mathlib.Core.Bool.{Bool, true, false, cond, ◌&&◌, ◌||◌, and-false, or-true, or-false}
use mathlib.Core.List.{List, [], ◌∷◌, ◌++◌, append_assoc, append-nil}
use native.Mathlib.Omega.{arith}
use lib.Dec.{ltb}
use lib.ListN.{length, take, drop, length-take, take-append-drop}
use lib.Seq.{drop-drop}
use borrow.Author.Tests.{lt-ltb, le-ltb, ltb-true, ltb-false}
use Rattle.wire.specs.Items.{Wholes, joined}
use Rattle.wire.specs.Pieces.{cut}
use Rattle.wire.proofs.Laws.Pieces.{cut-joined}
use Rattle.section.specs.Whole.{whole_at}
use Rattle.transport.specs.Feed.{fresh, handed_on}
use Rattle.transport_write.specs.Writer.{payload_length, section_packets}
use Rattle.transport_write.proofs.Laws.Packets.{packets-many}
use Rattle.transport_loss.specs.Stream.{Sent, idle, middle, final, start, Aired, came, lost, carried, spared, burden, Carry, comes, goes, packets, payloads}
use Rattle.transport_loss.specs.Promise.{with_loss}
use Rattle.transport_loss.specs.Writer.{packets_of_all, carry_on, carry_first, carry_of, carry_of_all, touched, packet_count, untouched}
use Rattle.transport_loss.proofs.Writer.{packets_of, packets-all, how-many}
use Rattle.transport_loss.proofs.HandedOn.{written-with_loss}

-- whether a section is touched, one packet on
touched-next : (i n k : ℕ) → touched (suc i) n (suc k) ≡ touched i n k
touched-next i n k = ap (λ (t : Bool). t && ltb 0 n) (go (ltb i k) refl)
  where
    go : (t : Bool) → ltb i k ≡ t → ltb (suc i) (suc k) ≡ t
    go true e = let l = ltb-true i k e in lt-ltb (suc i) (suc k) (omega (arith, l))
    go false e = let l = ltb-false i k e in le-ltb (suc i) (suc k) (omega (arith, l))

touched-first : (n k : ℕ) → touched 0 (suc n) (suc k) ≡ true
touched-first n k = rw (lt-ltb 0 (suc k) (omega arith), lt-ltb 0 (suc n) (omega arith))

touched-never : (i k : ℕ) → touched i 0 k ≡ false
touched-never i k = and-false (ltb i k)

touched-past : (i n : ℕ) → touched (suc i) n 1 ≡ false
touched-past i n = rw (le-ltb (suc i) 1 (omega arith))

-- the packets with what they carry, on the air
unfoldable aired : (i n : ℕ) → List Carry → List Aired
aired i n [] = []
aired (suc i) n (k ∷ ks) = came k.0 k.1 ∷ aired i n ks
aired zero (suc n) (k ∷ ks) = lost k.0 k.1 ∷ aired zero n ks
aired zero zero (k ∷ ks) = came k.0 k.1 ∷ aired zero zero ks

aired-comes : (ks : List Carry) → aired 0 0 ks ≡ comes ks
unfolding aired comes
aired-comes [] = refl
aired-comes (k ∷ ks) = ap (λ (l : List Aired). came k.0 k.1 ∷ l) (aired-comes ks)

aired-goes : (n : ℕ) (ks : List Carry) → aired 0 n ks ≡ goes (take n ks) ++ comes (drop n ks)
unfolding aired goes comes
aired-goes zero ks = aired-comes ks
aired-goes (suc n) [] = refl
aired-goes (suc n) (k ∷ ks) = ap (λ (l : List Aired). lost k.0 k.1 ∷ l) (aired-goes n ks)

-- it is the promise's stream with one loss
aired-is : (i n : ℕ) (ks : List Carry) → aired i n ks ≡ with_loss (take i ks) (take n (drop i ks)) (drop n (drop i ks))
unfolding aired comes goes
aired-is zero n ks = aired-goes n ks
aired-is (suc i) zero [] = refl
aired-is (suc i) (suc n) [] = refl
aired-is (suc i) n (k ∷ ks) = ap (λ (l : List Aired). came k.0 k.1 ∷ l) (aired-is i n ks)

-- of two stretches, what is left for the second
aired-both : (i n : ℕ) (ks js : List Carry) → aired i n (ks ++ js) ≡ aired i n ks ++ aired (i - length ks) (n - (length ks - i)) js
unfolding aired
aired-both i n [] js =
    let a : i ≡ i - 0 = omega arith in
    let b : n ≡ n - (0 - i) = omega arith in
    ap₂ (λ (x y : ℕ). aired x y js) a b
aired-both (suc i) n (k ∷ ks) js =
    let a : i - length ks ≡ suc i - suc (length ks) = omega arith in
    let b : n - (length ks - i) ≡ n - (suc (length ks) - suc i) = omega arith in
    ap (λ (l : List Aired). came k.0 k.1 ∷ l) (aired-both i n ks js ∙ ap₂ (λ (x y : ℕ). aired i n ks ++ aired x y js) a b)
aired-both zero (suc n) (k ∷ ks) js =
    let a : 0 - length ks ≡ 0 - suc (length ks) = omega arith in
    let b : n - (length ks - 0) ≡ suc n - (suc (length ks) - 0) = omega arith in
    ap (λ (l : List Aired). lost k.0 k.1 ∷ l) (aired-both 0 n ks js ∙ ap₂ (λ (x y : ℕ). aired 0 n ks ++ aired x y js) a b)
aired-both zero zero (k ∷ ks) js =
    let a : 0 - length ks ≡ 0 - suc (length ks) = omega arith in
    let b : 0 - (length ks - 0) ≡ 0 - (suc (length ks) - 0) = omega arith in
    ap (λ (l : List Aired). came k.0 k.1 ∷ l) (aired-both 0 0 ks js ∙ ap₂ (λ (x y : ℕ). aired 0 0 ks ++ aired x y js) a b)

-- ONE SECTION: it comes exactly where none of its packets is lost
module _ (pid : ℕ) (rs : List Aired) where
  abbrev r : List (List ℕ)
  r = spared (carried [] false rs)

  ended_as : (x y : List ℕ) (t u : Bool) → x ≡ y → t ≡ u → spared (record { bytes = x; hurt = t } ∷ carried [] false rs) ≡ cond u [] (y ∷ []) ++ r
  unfolding spared
  ended_as x y t true e f = rw f refl
  ended_as x y t false e f = rw (f, e) refl

  on-marks : (ps : List (List ℕ)) (c : ℕ) (h : List ℕ) (l : Bool) (i n : ℕ) → 0 < length ps
      → spared (carried h l (aired i n (carry_on pid c ps) ++ rs)) ≡ cond (l || touched i n (length ps)) [] ((h ++ joined ps) ∷ []) ++ r
  unfolding carry_on aired carried joined
  on-marks [] c h l i n p = absurd (omega arith)
  on-marks (b ∷ []) c h l (suc i) n p = ended_as (h ++ b) (h ++ (b ++ [])) (l || false) (l || touched (suc i) n 1)
      (ap (λ (x : List ℕ). h ++ x) (sym (append-nil b))) (ap (λ (t : Bool). l || t) (sym (touched-past i n)))
  on-marks (b ∷ []) c h l zero (suc n) p =
      ended_as (h ++ b) (h ++ (b ++ [])) (l || true) (l || touched 0 (suc n) 1) (ap (λ (x : List ℕ). h ++ x) (sym (append-nil b)))
      (ap (λ (t : Bool). l || t) (sym (touched-first n 0)))
  on-marks (b ∷ []) c h l zero zero p = ended_as (h ++ b) (h ++ (b ++ [])) (l || false) (l || touched 0 0 1) (ap (λ (x : List ℕ). h ++ x) (sym (append-nil b))) refl
  on-marks (b ∷ (d ∷ ds)) c h l (suc i) n p =
      on-marks (d ∷ ds) ((c + 1) % 16) (h ++ b) (l || false) i n (omega arith)
      ∙ ap₂ (λ (t : Bool) (x : List ℕ). cond t [] (x ∷ []) ++ r)
      (ap₂ (λ (t u : Bool). t || u) (or-false l) (sym (touched-next i n (length (d ∷ ds))))) (append_assoc h b (joined (d ∷ ds)))
  on-marks (b ∷ (d ∷ ds)) c h l zero (suc n) p =
      on-marks (d ∷ ds) ((c + 1) % 16) (h ++ b) (l || true) 0 n (omega arith)
      ∙ ap₂ (λ (t : Bool) (x : List ℕ). cond t [] (x ∷ []) ++ r)
      (ap (λ (t : Bool). t || touched 0 n (length (d ∷ ds))) (or-true l) ∙ sym (ap (λ (t : Bool). l || t) (touched-first n (length (d ∷ ds))) ∙ or-true l)) (append_assoc h b (joined (d ∷ ds)))
  on-marks (b ∷ (d ∷ ds)) c h l zero zero p =
      on-marks (d ∷ ds) ((c + 1) % 16) (h ++ b) (l || false) 0 0 (omega arith)
      ∙ ap₂ (λ (t : Bool) (x : List ℕ). cond t [] (x ∷ []) ++ r)
      (ap₂ (λ (t u : Bool). t || u) (or-false l) (touched-never 0 (length (d ∷ ds)) ∙ sym (touched-never 0 (suc (length (d ∷ ds)))))) (append_assoc h b (joined (d ∷ ds)))

  -- whether the packet before, which left nothing in hand, was lost does not matter
  module _ (calm : (l : Bool) → spared (carried [] l rs) ≡ r) where
    first_marks : (c : ℕ) (s : List ℕ) (ps : List (List ℕ)) (l : Bool) (i n : ℕ) → joined ps ≡ drop 183 s
        → spared (carried [] l (aired i n (carry_first pid c s ps) ++ rs)) ≡ cond (touched i n (suc (length ps))) [] (s ∷ []) ++ r
    unfolding carry_first aired carried spared
    first_marks c s [] l (suc i) n e = ap (λ (t : Bool). cond t [] (s ∷ []) ++ r) (sym (touched-past i n))
    first_marks c s [] l zero (suc n) e = calm true ∙ ap (λ (t : Bool). cond t [] (s ∷ []) ++ r) (sym (touched-first n 0))
    first_marks c s [] l zero zero e = refl
    first_marks c s (b ∷ bs) l (suc i) n e =
        on-marks (b ∷ bs) ((c + 1) % 16) (take 183 s) false i n (omega arith)
        ∙ ap₂ (λ (t : Bool) (x : List ℕ). cond t [] (x ∷ []) ++ r) (sym (touched-next i n (length (b ∷ bs)))) (ap (λ (x : List ℕ). take 183 s ++ x) e ∙ take-append-drop 183 s)
    first_marks c s (b ∷ bs) l zero (suc n) e =
        on-marks (b ∷ bs) ((c + 1) % 16) (take 183 s) true 0 n (omega arith) ∙ ap (λ (t : Bool). cond t [] (s ∷ []) ++ r) (sym (touched-first n (length (b ∷ bs))))
    first_marks c s (b ∷ bs) l zero zero e =
        on-marks (b ∷ bs) ((c + 1) % 16) (take 183 s) false 0 0 (omega arith)
        ∙ ap₂ (λ (t : Bool) (x : List ℕ). cond t [] (x ∷ []) ++ r)
        (touched-never 0 (length (b ∷ bs)) ∙ sym (touched-never 0 (suc (length (b ∷ bs))))) (ap (λ (x : List ℕ). take 183 s ++ x) e ∙ take-append-drop 183 s)

-- ALL OF THEM
packets_length : (ks : List Carry) → length (packets ks) ≡ length ks
unfolding packets
packets_length [] = refl
packets_length (k ∷ ks) = ap suc (packets_length ks)

carry-many : (pid c : ℕ) (s : List ℕ) → length (carry_of pid c s) ≡ packet_count s
carry-many pid c s = sym (packets_length (carry_of pid c s)) ∙ ap (λ (l : List (List ℕ)). length l) (packets_of pid c s) ∙ packets-many pid c s

pieces-many : (pid c : ℕ) (s : List ℕ) → suc (length (cut payload_length (drop 183 s))) ≡ packet_count s
pieces-many pid c s = sym (how-many pid c s) ∙ packets-many pid c s

all-marks : (pid : ℕ) (ss : List (List ℕ)) (c : ℕ) (l : Bool) (i n : ℕ) → spared (carried [] l (aired i n (carry_of_all pid c ss))) ≡ untouched i n ss
unfolding carry_of_all aired carried untouched spared
all-marks pid [] c l i n = refl
all-marks pid (s ∷ ss) c l i n =
    let js : List Carry = carry_of_all pid ((c + length (section_packets pid c s)) % 16) ss in
    let k : ℕ = packet_count s in
    let rs : List Aired = aired (i - k) (n - (k - i)) js in
    let ih = all-marks pid ss ((c + length (section_packets pid c s)) % 16) in
    let calm : (m : Bool) → spared (carried [] m rs) ≡ spared (carried [] false rs) = λ m. ih m (i - k) (n - (k - i)) ∙ sym (ih false (i - k) (n - (k - i))) in
    ap (λ (x : List Aired). spared (carried [] l x)) (aired-both i n (carry_of pid c s) js)
    ∙ ap (λ (m : ℕ). spared (carried [] l (aired i n (carry_of pid c s) ++ aired (i - m) (n - (m - i)) js))) (carry-many pid c s)
    ∙ first_marks pid rs calm c s (cut payload_length (drop 183 s)) l i n (cut-joined payload_length (drop 183 s) (omega arith))
    ∙ ap (λ (m : ℕ). cond (touched i n m) [] (s ∷ []) ++ spared (carried [] false rs)) (pieces-many pid c s)
    ∙ ap (λ (x : List (List ℕ)). cond (touched i n (packet_count s)) [] (s ∷ []) ++ x) (ih false (i - k) (n - (k - i)))

-- the packets that come, and how many are lost
packets_take : (i : ℕ) (ks : List Carry) → packets (take i ks) ≡ take i (packets ks)
unfolding packets
packets_take zero ks = refl
packets_take (suc i) [] = refl
packets_take (suc i) (k ∷ ks) = ap (λ (l : List (List ℕ)). k.0 ∷ l) (packets_take i ks)

packets_drop : (i : ℕ) (ks : List Carry) → packets (drop i ks) ≡ drop i (packets ks)
unfolding packets
packets_drop zero ks = refl
packets_drop (suc i) [] = refl
packets_drop (suc i) (k ∷ ks) = packets_drop i ks

burden-one : (s : Sent) → burden s ≤ 1
burden-one idle = omega arith
burden-one (middle bs) = omega arith
burden-one (final bs n) = omega arith
burden-one (start e ws h n) = omega arith

payloads-most : (ks : List Carry) → payloads ks ≤ length ks
unfolding payloads
payloads-most [] = omega arith
payloads-most (k ∷ ks) = let a = burden-one k.1 in let b = payloads-most ks in omega arith

-- A LOSS OF n PACKETS IN A ROW, at most 14, after the first i, of those that transport_write wrote of ss: exactly the sections with a packet among them are missing
pub lost-exactly : (pid c : ℕ) (ss : List (List ℕ)) → pid < 8192 → c < 16 → Wholes whole_at ss → (i n : ℕ) → n ≤ 14
    → handed_on pid fresh (take i (packets_of_all pid c ss) ++ drop (i + n) (packets_of_all pid c ss)) ≡ untouched i n ss
lost-exactly pid c ss pl cl w i n m =
    let ks : List Carry = carry_of_all pid c ss in
    let bs : List Carry = take n (drop i ks) in
    let ds : List Carry = drop n (drop i ks) in
    let all : take i ks ++ (bs ++ ds) ≡ ks = ap (λ (x : List Carry). take i ks ++ x) (take-append-drop n (drop i ks)) ∙ take-append-drop i ks in
    let few : payloads bs ≤ 14 = let a = payloads-most bs in let b = length-take n (drop i ks) in omega arith in
    let front : packets (take i ks) ≡ take i (packets_of_all pid c ss) = packets_take i ks ∙ ap (take i) (packets-all pid c ss) in
    let back : packets ds ≡ drop (i + n) (packets_of_all pid c ss) = ap packets (drop-drop n i ks) ∙ packets_drop (i + n) ks ∙ ap (drop (i + n)) (packets-all pid c ss) in
    ap (handed_on pid fresh) (sym (ap₂ (λ (x y : List (List ℕ)). x ++ y) front back))
    ∙ (written-with_loss pid c ss pl cl w (take i ks) bs ds all few).0
    ∙ ap (λ (x : List Aired). spared (carried [] false x)) (sym (aired-is i n ks))
    ∙ all-marks pid ss c false i n
