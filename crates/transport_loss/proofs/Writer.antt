-- WHAT transport_write WRITES IS HANDED ON, section by section; and what a loss of it costs.
use Prim.Native.Nat.{ℕ, suc, ◌+◌, ◌-◌, ◌%◌, ◌≤◌, ◌<◌}
use mathlib.Core.Path.{◌≡◌, refl, sym, ap, ap₂, subst, ◌∙◌}
use mathlib.Core.Bool.{Bool, true, false}
use mathlib.Core.List.{List, [], ◌∷◌, ◌++◌, append_assoc, append-nil}
use native.Mathlib.Omega.{arith}
use lib.Dec.{leb}
use lib.ListN.{length, take, drop, replicate, length-append, length-take, length-drop, take-append-drop, drop_of_length-le}
use lib.Seq.{length-take-le}
use borrow.Author.Tests.{leb-true, leb-false}
use Rattle.wire.specs.Items.{Wholes, joined}
use Rattle.wire.specs.Pieces.{cut}
use Rattle.wire.proofs.Laws.Pieces.{by_cutting, cut-none, cut_step, cut-joined}
use Rattle.section.specs.Whole.{whole_at}
use Rattle.transport.specs.Packet.{view_of, packet_refusal}
use Rattle.transport_write.specs.Writer.{packet_head, packet_of, payload_length, packets_over, section_packets}
use Rattle.transport_write.proofs.Laws.Packets.{packet_length_lem, as_many_lem}
use Rattle.transport_loss.specs.Stream.{Sent, middle, final, start, shown, Some, Section, Head, Opens, Aired, WellSent, carried, all_of, Carry, comes, packets}
use Rattle.transport_loss.specs.Encoder.{none, written}
use Rattle.transport_loss.specs.Writer.{packets_of_all, carry_on, carry_first, carry_of, carry_of_all}
use Rattle.transport_loss.proofs.Laws.Sections.{beginning}
use Rattle.transport_loss.proofs.Laws.Written.{view-written, not-refused}
use Rattle.transport_loss.proofs.Promise.{comes-both}

-- THE PACKETS ARE THOSE THAT ARE WRITTEN
packets-on : (pid c : ℕ) (ps : List (List ℕ)) → packets (carry_on pid c ps) ≡ packets_over pid 0 c ps
unfolding carry_on packets packets_over
packets-on pid c [] = refl
packets-on pid c (b ∷ []) = refl
packets-on pid c (b ∷ (d ∷ ds)) = ap (λ (l : List (List ℕ)). packet_of pid 0 c b ∷ l) (packets-on pid ((c + 1) % 16) (d ∷ ds))

packets-first : (pid c : ℕ) (s : List ℕ) (ps : List (List ℕ)) → (ps ≡ [] → take 183 s ≡ s) → packets (carry_first pid c s ps) ≡ packets_over pid 1 c ((0 ∷ take 183 s) ∷ ps)
unfolding carry_first packets packets_over
packets-first pid c s [] h = ap (λ (l : List ℕ). packet_of pid 1 c (0 ∷ l) ∷ []) (sym (h refl))
packets-first pid c s (b ∷ bs) h = ap (λ (l : List (List ℕ)). packet_of pid 1 c (0 ∷ take 183 s) ∷ l) (packets-on pid ((c + 1) % 16) (b ∷ bs))

none_left : (xs : List ℕ) → cut payload_length xs ≡ [] → xs ≡ []
unfolding joined
none_left xs e = sym (cut-joined payload_length xs (omega arith)) ∙ ap joined e

first-all : (s : List ℕ) → drop 183 s ≡ [] → take 183 s ≡ s
first-all s e = sym (append-nil (take 183 s)) ∙ ap (λ (l : List ℕ). take 183 s ++ l) (sym e) ∙ take-append-drop 183 s

cut-first : (s : List ℕ) → cut payload_length (0 ∷ s) ≡ (0 ∷ take 183 s) ∷ cut payload_length (drop 183 s)
cut-first s = cut_step payload_length (0 ∷ s) (omega arith) (omega arith)

pub packets_of : (pid c : ℕ) (s : List ℕ) → packets (carry_of pid c s) ≡ section_packets pid c s
unfolding section_packets
packets_of pid c s =
    packets-first pid c s (cut payload_length (drop 183 s)) (λ e. first-all s (none_left (drop 183 s) e)) ∙ ap (packets_over pid 1 c) (sym (cut-first s))

pub how-many : (pid c : ℕ) (s : List ℕ) → length (section_packets pid c s) ≡ suc (length (cut payload_length (drop 183 s)))
unfolding section_packets
how-many pid c s = as_many_lem pid 1 c (cut payload_length (0 ∷ s)) ∙ ap (λ (l : List (List ℕ)). length l) (cut-first s)

packets-both : (ks js : List Carry) → packets (ks ++ js) ≡ packets ks ++ packets js
unfolding packets
packets-both [] js = refl
packets-both (k ∷ ks) js = ap (λ (l : List (List ℕ)). k.0 ∷ l) (packets-both ks js)

pub packets-all : (pid c : ℕ) (ss : List (List ℕ)) → packets (carry_of_all pid c ss) ≡ packets_of_all pid c ss
unfolding carry_of_all packets_of_all packets
packets-all pid c [] = refl
packets-all pid c (s ∷ ss) =
    packets-both (carry_of pid c s) (carry_of_all pid ((c + length (section_packets pid c s)) % 16) ss)
    ∙ ap₂ (λ (x y : List (List ℕ)). x ++ y) (packets_of pid c s) (packets-all pid ((c + length (section_packets pid c s)) % 16) ss)

-- EACH PIECE BUT THE LAST HAS 184 BYTES, and none is empty
abbrev Pieced : List (List ℕ) → Type 0
Pieced [] = Unit {0}
Pieced (b ∷ []) = (0 < length b) × (length b ≤ 184)
Pieced (b ∷ (d ∷ ds)) = (length b ≡ 184) × Pieced (d ∷ ds)

cut_pieced : (xs : List ℕ) → Pieced (cut payload_length xs)
cut_pieced = by_cutting payload_length (omega arith) (λ xs. Pieced (cut payload_length xs)) (rw (cut-none payload_length) tt) more
  where
    full : (xs : List ℕ) (d : List ℕ) (ds : List (List ℕ)) → cut payload_length (drop payload_length xs) ≡ d ∷ ds → 184 ≤ length xs
    full xs d ds e = go (leb 184 (length xs)) refl
      where
        go : (t : Bool) → leb 184 (length xs) ≡ t → 184 ≤ length xs
        go true f = leb-true 184 (length xs) f
        go false f =
            let l = leb-false 184 (length xs) f in
            let z = ap (λ (ps : List (List ℕ)). length ps) (sym e ∙ ap (cut payload_length) (drop_of_length-le xs {i = 184} (omega arith)) ∙ cut-none payload_length) in
            absurd (omega (arith, z))

    next : (xs : List ℕ) → 0 < length xs → (ps : List (List ℕ)) → cut payload_length (drop payload_length xs) ≡ ps → Pieced ps → Pieced (take payload_length xs ∷ ps)
    next xs l [] e g = let t = length-take payload_length xs in (omega arith, omega arith)
    next xs l (d ∷ ds) e g = let f = full xs d ds e in (length-take-le payload_length xs f, g)

    more : (xs : List ℕ) → 0 < length xs → Pieced (cut payload_length (drop payload_length xs)) → Pieced (cut payload_length xs)
    more xs l g = rw (cut_step payload_length xs (omega arith) l) (next xs l (cut payload_length (drop payload_length xs)) refl g)

long-some : (xs : List ℕ) → 0 < length xs → Some xs
long-some xs l e = let z = ap (λ (t : List ℕ). length t) e in omega (arith, l, z)

pieces-some : (b : List ℕ) (bs : List (List ℕ)) → Pieced (b ∷ bs) → 0 < length (joined (b ∷ bs))
unfolding joined
pieces-some b [] g = let a = length-append b [] in omega (arith, a, g.0)
pieces-some b (d ∷ ds) g = let a = length-append b (joined (d ∷ ds)) in omega (arith, a, g.0)

-- A PACKET SHOWS WHAT IT CARRIES, and is not refused
told : (pid c : ℕ) (x : Sent) (p : List ℕ) → pid < 8192 → c < 16 → p ≡ written pid c none x → length p ≡ 188 → (packet_refusal pid p ≡ 0) × (view_of p ≡ shown c x)
told pid c x p pl cl e l =
    let k : length (written pid c none x) ≡ 188 = ap (λ (t : List ℕ). length t) (sym e) ∙ l in
    (ap (packet_refusal pid) e ∙ not-refused pid c none x pl cl k, ap view_of e ∙ view-written pid c none x pl cl)

final-is : (pid c : ℕ) (b : List ℕ) → packet_of pid 0 c b ≡ written pid c none (final b (payload_length - length b))
unfolding written
final-is pid c b = refl

middle-is : (pid c : ℕ) (b : List ℕ) → length b ≡ 184 → packet_of pid 0 c b ≡ written pid c none (middle b)
unfolding written
middle-is pid c b l =
    let k : payload_length - length b ≡ 0 = omega (arith, l) in
    ap (λ (n : ℕ). packet_head pid 0 c ++ (b ++ replicate n 0xFF)) k ∙ ap (λ (t : List ℕ). packet_head pid 0 c ++ t) (append-nil b)

whole_is : (pid c : ℕ) (s : List ℕ) → length s ≤ 183 → packet_of pid 1 c (0 ∷ s) ≡ written pid c none (start [] (s ∷ []) [] (183 - length s))
unfolding written joined
whole_is pid c s l =
    let k : payload_length - length (0 ∷ s) ≡ 183 - length s = omega (arith, l) in
    ap₂ (λ (n : ℕ) (t : List ℕ). packet_head pid 1 c ++ (0 ∷ (t ++ replicate n 0xFF))) k (sym (append-nil s))

head-is : (pid c : ℕ) (h : List ℕ) → length h ≡ 183 → packet_of pid 1 c (0 ∷ h) ≡ written pid c none (start [] [] h 0)
unfolding written joined
head-is pid c h l =
    let k : payload_length - length (0 ∷ h) ≡ 0 = omega (arith, l) in
    ap (λ (n : ℕ). packet_head pid 1 c ++ (0 ∷ (h ++ replicate n 0xFF))) k

opens : (h : List ℕ) → Head h → Opens h 0
opens [] k = tt
opens (x ∷ h) k = (k, refl)

-- ITS PACKETS ARE A WELL-FORMED STREAM
module _ (pid : ℕ) (pl : pid < 8192) where
  well-on : (ps : List (List ℕ)) (q : ℕ) (h : List ℕ) → 0 < length ps → Pieced ps → Some h → Section (h ++ joined ps)
      → (rs : List Aired) → ((r : ℕ) → (r + 1) % 16 ≡ (q + 1 + length ps) % 16 → WellSent pid r [] rs)
      → WellSent pid q h (comes (carry_on pid ((q + 1) % 16) ps) ++ rs)
  unfolding carry_on comes joined
  well-on [] q h l g s w rs k = absurd (omega arith)
  well-on (b ∷ []) q h l g s w rs k =
      let t = told pid ((q + 1) % 16) (final b (payload_length - length b)) (packet_of pid 0 ((q + 1) % 16) b) pl (omega arith)
      (final-is pid ((q + 1) % 16) b) (packet_length_lem pid 0 ((q + 1) % 16) b g.1) in
      (t.0, t.1, (s, subst (λ (x : List ℕ). Section (h ++ x)) (append-nil b) w), k ((q + 1) % 16) (omega arith))
  well-on (b ∷ (d ∷ ds)) q h l g s w rs k =
      let t = told pid ((q + 1) % 16) (middle b) (packet_of pid 0 ((q + 1) % 16) b) pl (omega arith) (middle-is pid ((q + 1) % 16) b g.0)
      (packet_length_lem pid 0 ((q + 1) % 16) b (omega (arith, g.0))) in
      let v = subst Section (sym (append_assoc h b (joined (d ∷ ds)))) w in
      let m = long-some b (omega (arith, g.0)) in
      let n : Some (h ++ b) = long-some (h ++ b) (let a = length-append h b in omega (arith, a, g.0)) in
      let j = long-some (joined (d ∷ ds)) (pieces-some d ds g.1) in
      (t.0, t.1, (s, m, beginning (h ++ b) (joined (d ∷ ds)) n j v), well-on (d ∷ ds) ((q + 1) % 16) (h ++ b) (omega arith) g.1 n v rs (λ r e. k r (omega (arith, e))))

  well-first : (s : List ℕ) (ps : List (List ℕ)) (q : ℕ) → Section s → Pieced ps → joined ps ≡ drop 183 s
      → (rs : List Aired) → ((r : ℕ) → (r + 1) % 16 ≡ (q + 1 + suc (length ps)) % 16 → WellSent pid r [] rs)
      → WellSent pid q [] (comes (carry_first pid ((q + 1) % 16) s ps) ++ rs)
  unfolding carry_first comes joined
  well-first s [] q w g e rs k =
      let d = length-drop 183 s in
      let z = ap (λ (t : List ℕ). length t) e in
      let l : length s ≤ 183 = omega (arith, d, z) in
      let t = told pid ((q + 1) % 16) (start [] (s ∷ []) [] (183 - length s)) (packet_of pid 1 ((q + 1) % 16) (0 ∷ s)) pl (omega arith)
      (whole_is pid ((q + 1) % 16) s l) (packet_length_lem pid 1 ((q + 1) % 16) (0 ∷ s) (omega (arith, l))) in
      (t.0, t.1, (refl, (w, tt), tt), k ((q + 1) % 16) (omega arith))
  well-first s (b ∷ bs) q w g e rs k =
      let d = length-drop 183 s in
      let z = ap (λ (t : List ℕ). length t) e in
      let y = pieces-some b bs g in
      let l : 183 ≤ length s = omega (arith, d, z, y) in
      let f = length-take-le 183 s l in
      let t = told pid ((q + 1) % 16) (start [] [] (take 183 s) 0) (packet_of pid 1 ((q + 1) % 16) (0 ∷ take 183 s)) pl (omega arith)
      (head-is pid ((q + 1) % 16) (take 183 s) f) (packet_length_lem pid 1 ((q + 1) % 16) (0 ∷ take 183 s) (omega (arith, f))) in
      let m = long-some (take 183 s) (omega (arith, f)) in
      let v : Section (take 183 s ++ joined (b ∷ bs)) = subst Section (sym (ap (λ (x : List ℕ). take 183 s ++ x) e ∙ take-append-drop 183 s)) w in
      let h = beginning (take 183 s) (joined (b ∷ bs)) m (long-some (joined (b ∷ bs)) y) v in
      (t.0, t.1, (refl, tt, opens (take 183 s) h), well-on (b ∷ bs) ((q + 1) % 16) (take 183 s) (omega arith) g m v rs (λ r i. k r (omega (arith, i))))

  well-all : (ss : List (List ℕ)) (q : ℕ) → Wholes whole_at ss → WellSent pid q [] (comes (carry_of_all pid ((q + 1) % 16) ss))
  unfolding carry_of_all comes
  well-all [] q w = tt
  well-all (s ∷ ss) q w =
      let m = how-many pid ((q + 1) % 16) s in
      let rs : List Carry = carry_of_all pid (((q + 1) % 16 + length (section_packets pid ((q + 1) % 16) s)) % 16) ss in
      subst (λ (x : List Aired). WellSent pid q [] x) (sym (comes-both (carry_of pid ((q + 1) % 16) s) rs))
      (well-first s (cut payload_length (drop 183 s)) q w.0 (cut_pieced (drop 183 s)) (cut-joined payload_length (drop 183 s) (omega arith)) (comes rs)
      (λ r e.
      let i : (r + 1) % 16 ≡ ((q + 1) % 16 + length (section_packets pid ((q + 1) % 16) s)) % 16 = omega (arith, e, m) in
      subst (λ (n : ℕ). WellSent pid r [] (comes (carry_of_all pid n ss))) i (well-all ss r w.1)))

-- AND ITS SECTIONS ARE THOSE THAT WERE WRITTEN
on-sections : (pid : ℕ) (ps : List (List ℕ)) (c : ℕ) (h : List ℕ) → 0 < length ps → (rs : List Aired)
    → all_of (carried h false (comes (carry_on pid c ps) ++ rs)) ≡ (h ++ joined ps) ∷ all_of (carried [] false rs)
unfolding carry_on comes carried all_of joined
on-sections pid [] c h l rs = absurd (omega arith)
on-sections pid (b ∷ []) c h l rs = ap (λ (x : List ℕ). (h ++ x) ∷ all_of (carried [] false rs)) (sym (append-nil b))
on-sections pid (b ∷ (d ∷ ds)) c h l rs =
    on-sections pid (d ∷ ds) ((c + 1) % 16) (h ++ b) (omega arith) rs ∙ ap (λ (x : List ℕ). x ∷ all_of (carried [] false rs)) (append_assoc h b (joined (d ∷ ds)))

first-sections : (pid c : ℕ) (s : List ℕ) (ps : List (List ℕ)) → joined ps ≡ drop 183 s → (rs : List Aired)
    → all_of (carried [] false (comes (carry_first pid c s ps) ++ rs)) ≡ s ∷ all_of (carried [] false rs)
unfolding carry_first comes carried all_of
first-sections pid c s [] e rs = refl
first-sections pid c s (b ∷ bs) e rs =
    on-sections pid (b ∷ bs) ((c + 1) % 16) (take 183 s) (omega arith) rs
    ∙ ap (λ (x : List ℕ). x ∷ all_of (carried [] false rs)) (ap (λ (x : List ℕ). take 183 s ++ x) e ∙ take-append-drop 183 s)

pub all-sections : (pid c : ℕ) (ss : List (List ℕ)) → all_of (carried [] false (comes (carry_of_all pid c ss))) ≡ ss
unfolding carry_of_all comes carried all_of
all-sections pid c [] = refl
all-sections pid c (s ∷ ss) =
    let rs : List Carry = carry_of_all pid ((c + length (section_packets pid c s)) % 16) ss in
    ap (λ (x : List Aired). all_of (carried [] false x)) (comes-both (carry_of pid c s) rs)
    ∙ first-sections pid c s (cut payload_length (drop 183 s)) (cut-joined payload_length (drop 183 s) (omega arith)) (comes rs)
    ∙ ap (λ (x : List (List ℕ)). s ∷ x) (all-sections pid ((c + length (section_packets pid c s)) % 16) ss)

module _ (pid c : ℕ) (ss : List (List ℕ)) (pl : pid < 8192) (cl : c < 16) (w : Wholes whole_at ss) where
  -- the counter before the first packet
  abbrev pub before : ℕ
  before = (c + 15) % 16

  pub well-written : WellSent pid before [] (comes (carry_of_all pid c ss))
  well-written =
      let e : (before + 1) % 16 ≡ c = omega (arith, cl) in
      subst (λ (n : ℕ). WellSent pid before [] (comes (carry_of_all pid n ss))) e (well-all pid pl ss before w)
