-- WHAT THE CODE LEAVES in the state and in the buffer, from the facts that it learns on its ways.
use Prim.Native.Nat.{ℕ, ◌+◌, ◌-◌, ◌/◌, ◌%◌, ◌≤◌, ◌<◌}
use mathlib.Core.Path.{◌≡◌, refl, sym, ap, ap₂, ◌∙◌}
use mathlib.Core.Bool.{Bool, true, false, not, cond, ◌||◌}
use mathlib.Core.List.{List, [], ◌∷◌, ◌++◌, append_assoc}
use native.Mathlib.Omega.{arith}
use lib.Dec.{eqb}
use lib.ListN.{length, take, drop, set, length-append, length-drop, take-append-drop}
use lib.Seq.{length-take-le, take_at, drop_at, drop-drop, drop-length, drop-append-le, sets-eq}
use borrow.Rule.Slice.PartMut.{put_mid}
use borrow.Author.Tests.{eq-eqb, ne_eqb, eqb-false}
use Rattle.wire.specs.Copies.{overwrite, laid_at}
use Rattle.wire.specs.Fields.{byte_at, spelled}
use Rattle.wire.specs.Items.{items, joined}
use Rattle.wire.specs.Pieces.{is_none, laid_first}
use Rattle.wire.proofs.Laws.Copies.{laid-fits}
use Rattle.wire.proofs.Laws.Frames.{rest_of}
use Rattle.wire.proofs.Laws.Meaning.{append-nil, joined-both}
use Rattle.wire.proofs.Laws.Steps.{covers}
use Rattle.section.specs.Whole.{whole_at}
use Rattle.section.proofs.Laws.Whole.{section_kind}
use Rattle.transport.specs.Packet.{View, packet_length, has_payload, view_of}
use Rattle.transport.specs.Feed.{left_of, head_in, ended, grown, hands_on, leaves, weight}
use Rattle.transport.specs.State.{hand_at, state_length, state_bytes}
use Rattle.transport.proofs.Laws.Hands.{ended-whole, one-long}
use Rattle.transport.proofs.Laws.States.{laid-parts}

-- how far a packet turns the counter
pub weight-by : (p : List ℕ) (t : Bool) → has_payload p ≡ t → cond t 1 0 ≡ weight (view_of p)
unfolding view_of
weight-by p t e = sym (ap (λ (u : Bool). cond u 1 0) e)

-- THE PACKET AND A NUMBER, put over the state's first bytes
pub kept-bytes : (s p : List ℕ) (n : ℕ) → length p ≡ packet_length → n < 65536 → hand_at ≤ length s
    → set (set (laid_at s 0 p) 188 (n / 256)) 189 (n % 256) ≡ p ++ spelled 2 n ++ drop hand_at s
unfolding spelled overwrite
kept-bytes s p n e b l =
    let z : 0 + length p ≡ 188 = omega (arith, e) in
    let laid : laid_at s 0 p ≡ p ++ drop 188 s = laid-fits s 0 p (omega (arith, e, l)) ∙ ap (λ (k : ℕ). p ++ drop k s) z in
    let la = length-append p (drop 188 s) in
    let ld = length-drop 188 s in
    let hi : n / 256 ≡ n / 256 % 256 = omega arith in
    let lo : n % 256 ≡ n / 1 % 256 = omega arith in
    ap (λ (x : List ℕ). set (set x 188 (n / 256)) 189 (n % 256)) laid
    ∙ sets-eq (n / 256 ∷ n % 256 ∷ []) (p ++ drop 188 s) 188 (omega (arith, la, ld, e, l))
    ∙ ap₂ (λ (a r : List ℕ). a ++ (n / 256 ∷ n % 256 ∷ []) ++ r) (take_at p (drop 188 s) 188 e) (sym (drop-drop 2 188 (p ++ drop 188 s))
    ∙ ap (drop 2) (drop_at p (drop 188 s) 188 e) ∙ drop-drop 2 188 s)
    ∙ ap₂ (λ (x y : ℕ). p ++ (x ∷ y ∷ []) ++ drop 190 s) hi lo

-- what `keep` leaves, where x has the bytes in hand in their place
pub kept_as : (p h s x : List ℕ) (n : ℕ) → length p ≡ packet_length → n ≡ length h → drop hand_at x ≡ h ++ drop (190 + length h) s
    → p ++ spelled 2 n ++ drop hand_at x ≡ laid_first (state_bytes (record { last = p; hand = h })) s
kept_as p h s x n e f g =
    append_assoc p (spelled 2 n) (drop hand_at x) ∙ ap₂ (λ (k : ℕ) (r : List ℕ). p ++ (spelled 2 k ++ r)) f g ∙ sym (laid-parts p h s e)

-- in its place: nothing; what was there; what was laid there; what was there and what was laid behind it
module _ (s : List ℕ) where
  pub hand-stays : (n : ℕ) → n ≤ length (drop hand_at s) → drop hand_at s ≡ take n (drop hand_at s) ++ drop (190 + length (take n (drop hand_at s))) s
  hand-stays n l =
      let k = length-take-le n (drop hand_at s) l in
      sym (take-append-drop n (drop hand_at s)) ∙ ap (λ (r : List ℕ). take n (drop hand_at s) ++ r) (drop-drop n hand_at s ∙ ap (λ (m : ℕ). drop (190 + m) s) (sym k))

  pub hand_laid : (h : List ℕ) → hand_at + length h ≤ length s → drop hand_at (laid_at s hand_at h) ≡ h ++ drop (190 + length h) s
  unfolding overwrite
  hand_laid h l =
      let k = length-take-le hand_at s (omega (arith, l)) in
      ap (drop hand_at) (laid-fits s hand_at h l) ∙ drop_at (take hand_at s) (h ++ drop (190 + length h) s) hand_at k

  pub hand-grown : (n : ℕ) (m : List ℕ) → hand_at + n + length m ≤ length s
      → drop hand_at (laid_at s (hand_at + n) m) ≡ (take n (drop hand_at s) ++ m) ++ drop (190 + length (take n (drop hand_at s) ++ m)) s
  unfolding overwrite
  hand-grown n m l =
      let d = length-drop hand_at s in
      let k = length-take-le (hand_at + n) s (omega (arith, l)) in
      let i = length-take-le n (drop hand_at s) (omega (arith, l, d)) in
      let j = length-append (take n (drop hand_at s)) m in
      let c : hand_at + n - hand_at ≡ n = omega arith in
      let r : drop hand_at (take (hand_at + n) s) ≡ take n (drop hand_at s) = sym (rest_of s hand_at n (omega (arith, l))) ∙ ap (λ (q : ℕ). take q (drop hand_at s)) c in
      let w : hand_at + n + length m ≡ 190 + length (take n (drop hand_at s) ++ m) = omega (arith, i, j) in
      ap (drop hand_at) (laid-fits s (hand_at + n) m l)
      ∙ drop-append-le hand_at (take (hand_at + n) s) (m ++ drop (hand_at + n + length m) s) (omega (arith, k))
      ∙ ap₂ (λ (a : List ℕ) (q : ℕ). a ++ (m ++ drop q s)) r w
      ∙ sym (append_assoc (take n (drop hand_at s)) m (drop (190 + length (take n (drop hand_at s) ++ m)) s))

-- WHAT BEGINS
module _ (xs : List ℕ) where
  pub whole-front : take (length (joined (items whole_at xs))) xs ≡ joined (items whole_at xs)
  whole-front = let c = covers whole_at section_kind xs in ap (take (length (joined (items whole_at xs)))) (sym c.1) ∙ take_at (joined (items whole_at xs)) c.0 _ refl

  pub head-stuffed : byte_at (left_of xs) 0 ≡ 0xFF → head_in xs ≡ []
  unfolding head_in
  head-stuffed e = rw (eq-eqb (byte_at (left_of xs) 0) 0xFF e)

  pub head-left : (byte_at (left_of xs) 0 ≡ 0xFF → ⊥) → head_in xs ≡ left_of xs
  unfolding head_in
  head-left n = rw (ne_eqb (byte_at (left_of xs) 0) 0xFF n)

-- one piece laid over the first bytes
pub one_laid : (out a : List ℕ) → length a ≤ length out → laid_at out 0 a ≡ laid_first a out
unfolding overwrite
one_laid out a l = let z : 0 + length a ≡ length a = omega arith in laid-fits out 0 a (omega (arith, l)) ∙ ap (λ (n : ℕ). a ++ drop n out) z

-- WHAT GOES ON
module _ (h m : List ℕ) where
  pub grown-none : length h ≡ 0 → grown h m ≡ []
  unfolding grown
  grown-none z = go h z
    where
      go : (l : List ℕ) → length l ≡ 0 → cond (is_none l || not (eqb (whole_at (l ++ m)) 0)) [] (l ++ m) ≡ []
      go [] e = refl
      go (x ∷ l) e = absurd (omega arith)

  pub grown-whole : (length (joined (ended h m)) ≡ 0 → ⊥) → grown h m ≡ []
  unfolding grown ended joined
  grown-whole n = go (is_none h) (eqb (whole_at (h ++ m)) 0) n
    where
      go : (t u : Bool) → (length (joined (cond (t || u) [] (take (whole_at (h ++ m)) (h ++ m) ∷ []))) ≡ 0 → ⊥) → cond (t || not u) [] (h ++ m) ≡ []
      go true u f = refl
      go false false f = refl
      go false true f = absurd (f refl)

  pub grown-on : (length h ≡ 0 → ⊥) → length (joined (ended h m)) ≡ 0 → grown h m ≡ h ++ m
  unfolding grown
  grown-on s z = go (eqb (whole_at (h ++ m)) 0) refl
    where
      none : is_none h ≡ false
      none = first h s
        where
          first : (l : List ℕ) → (length l ≡ 0 → ⊥) → is_none l ≡ false
          first [] n = absurd (n refl)
          first (x ∷ l) n = refl

      by : (t : Bool) → eqb (whole_at (h ++ m)) 0 ≡ t → grown h m ≡ cond (not t) [] (h ++ m)
      by t e = rw (none, e)

      go : (t : Bool) → eqb (whole_at (h ++ m)) 0 ≡ t → grown h m ≡ h ++ m
      go true e = by true e
      go false e =
          let w = eqb-false (whole_at (h ++ m)) 0 e in
          let o = ap (λ (ss : List (List ℕ)). length (joined ss)) (ended-whole h m s w) in
          let q = ap (λ (x : List ℕ). length x) (one-long (take (whole_at (h ++ m)) (h ++ m))) in
          let k = length-take-le (whole_at (h ++ m)) (h ++ m) (section_kind.fits (h ++ m)) in
          absurd (w (omega (arith, o, q, k, z)))

-- WHAT A PACKET HANDS ON AND LEAVES, by its view
module _ (h : List ℕ) (v : View) where
  pub idle_hands : v.payload ≡ false → (hands_on h v ≡ []) × (leaves h v ≡ h)
  unfolding hands_on leaves
  idle_hands e = (rw e, rw e)

  module _ (e : v.payload ≡ true) where
    pub start_hands : v.start ≡ true → (hands_on h v ≡ ended h v.before ++ items whole_at v.after) × (leaves h v ≡ head_in v.after)
    unfolding hands_on leaves
    start_hands s = (rw (e, s), rw (e, s))

    pub on_hands : v.start ≡ false → (hands_on h v ≡ ended h v.before) × (leaves h v ≡ grown h v.before)
    unfolding hands_on leaves
    on_hands s = (rw (e, s) (append-nil (ended h v.before)), rw (e, s))

-- two laid one after the other, the second over the part behind the first
pub laid-behind : (out a b : List ℕ) → length a ≤ length out → take (length a) (laid_first a out) ++ laid_first b (drop (length a) (laid_first a out)) ≡ laid_first (a ++ b) out
laid-behind out a b l =
    ap₂ (λ (x y : List ℕ). x ++ laid_first b y) (take_at a (drop (length a) out) (length a) refl) (drop_at a (drop (length a) out) (length a) refl)
    ∙ ap (λ (r : List ℕ). a ++ (b ++ r)) (drop-drop (length b) (length a) out ∙ ap (λ (n : ℕ). drop n out) (sym (length-append a b)))
    ∙ sym (append_assoc a b (drop (length (a ++ b)) out))

-- THE STATE AFTER A PACKET, by what is in hand then
module _ (p s : List ℕ) (e : length p ≡ packet_length) where
  abbrev with-hand : List ℕ → List ℕ
  with-hand h = laid_first (state_bytes (record { last = p; hand = h })) s

  pub left-none : (h : List ℕ) → h ≡ [] → p ++ spelled 2 0 ++ drop hand_at s ≡ with-hand h
  left-none h z = kept_as p [] s s 0 e refl refl ∙ ap with-hand (sym z)

  pub left-same : (n : ℕ) (h : List ℕ) → n ≤ 4097 → state_length ≤ length s → h ≡ take n (drop hand_at s) → p ++ spelled 2 n ++ drop hand_at s ≡ with-hand h
  left-same n h m l z =
      let d = length-drop hand_at s in
      let i : n ≤ length (drop hand_at s) = omega (arith, m, l, d) in
      kept_as p (take n (drop hand_at s)) s s n e (sym (length-take-le n (drop hand_at s) i)) (hand-stays s n i) ∙ ap with-hand (sym z)

  pub left_laid : (g h : List ℕ) → hand_at + length g ≤ length s → h ≡ g → p ++ spelled 2 (length g) ++ drop hand_at (laid_at s hand_at g) ≡ with-hand h
  left_laid g h l z = kept_as p g s (laid_at s hand_at g) (length g) e refl (hand_laid s g l) ∙ ap with-hand (sym z)

  pub left_grown : (n : ℕ) (m h : List ℕ) → hand_at + n + length m ≤ length s → h ≡ take n (drop hand_at s) ++ m
      → p ++ spelled 2 (n + length m) ++ drop hand_at (laid_at s (hand_at + n) m) ≡ with-hand h
  left_grown n m h l z =
      let d = length-drop hand_at s in
      let i = length-take-le n (drop hand_at s) (omega (arith, l, d)) in
      let j = length-append (take n (drop hand_at s)) m in
      kept_as p (take n (drop hand_at s) ++ m) s (laid_at s (hand_at + n) m) (n + length m) e (omega (arith, i, j)) (hand-grown s n m l) ∙ ap with-hand (sym z)

-- the same of equal parts
pub given_as : (h g m k out o : List ℕ) (n : ℕ) → h ≡ g → m ≡ k → (n ≡ length (joined (ended h m))) × (o ≡ laid_first (joined (ended h m)) out)
    → (n ≡ length (joined (ended g k))) × (o ≡ laid_first (joined (ended g k)) out)
given_as h g m k out o n e f w =
    (w.0 ∙ ap₂ (λ (a b : List ℕ). length (joined (ended a b))) e f, w.1 ∙ ap₂ (λ (a b : List ℕ). laid_first (joined (ended a b)) out) e f)

-- a part behind n, put back
pub put-behind : (n : ℕ) (xs ys : List ℕ) → n ≤ length xs → put_mid n (length xs - n) xs ys ≡ take n xs ++ ys
put-behind n xs ys l =
    let e : n + (length xs - n) ≡ length xs = omega (arith, l) in
    ap (λ (r : List ℕ). take n xs ++ (ys ++ r)) (drop-drop (length xs - n) n xs ∙ ap (λ (k : ℕ). drop k xs) e ∙ drop-length xs)
    ∙ ap (λ (r : List ℕ). take n xs ++ r) (append-nil ys)

-- WHAT IS HANDED ON WHERE ONE BEGINS: the section that ended, then those that are whole in the packet
module _ (h out : List ℕ) (v : View) (p : v.payload ≡ true) (s : v.start ≡ true) where
  hands : joined (hands_on h v) ≡ joined (ended h v.before) ++ joined (items whole_at v.after)
  hands = ap joined (start_hands h v p s).0 ∙ joined-both (ended h v.before) (items whole_at v.after)

  pub started-size : (n m : ℕ) → n ≡ length (joined (ended h v.before)) → m ≡ length (joined (items whole_at v.after)) → n + m ≡ length (joined (hands_on h v))
  started-size n m e f =
      let a = ap (λ (x : List ℕ). length x) hands in
      let b = length-append (joined (ended h v.before)) (joined (items whole_at v.after)) in
      omega (arith, a, b, e, f)

  pub started_out : (o q : List ℕ) (n : ℕ) → n ≡ length (joined (ended h v.before)) → o ≡ laid_first (joined (ended h v.before)) out
      → q ≡ laid_first (joined (items whole_at v.after)) (drop n o) → n ≤ length out → take n o ++ q ≡ laid_first (joined (hands_on h v)) out
  started_out o q n e f g l =
      ap (λ (y : List ℕ). take n o ++ y) g
      ∙ ap₂ (λ (k : ℕ) (y : List ℕ). take k y ++ laid_first (joined (items whole_at v.after)) (drop k y)) e f
      ∙ laid-behind out (joined (ended h v.before)) (joined (items whole_at v.after)) (omega (arith, e, l))
      ∙ ap (λ (x : List ℕ). laid_first x out) (sym hands)
