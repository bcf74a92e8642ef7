-- ONE PACKET OF A WELL-FORMED STREAM. `e` is what a receiver that missed no more than it had to has in hand: the section in hand if no byte of it was lost, else none.
use Prim.Native.Nat.{ℕ}
use mathlib.Core.Path.{◌≡◌, refl, sym, ap, subst, ◌∙◌}
use mathlib.Core.Bool.{Bool, true, false, cond}
use mathlib.Core.List.{List, [], ◌∷◌, ◌++◌, append_assoc}
use native.Mathlib.Omega.{arith}
use lib.ListN.{length, take}
use lib.Seq.{take_at}
use borrow.Author.Tests.{eq-eqb, ne_eqb}
use Rattle.wire.proofs.Laws.Meaning.{front, append-nil}
use Rattle.section.specs.Whole.{whole_at}
use Rattle.wire.specs.Pieces.{is_none}
use Rattle.transport.specs.Feed.{ended, grown, hands_on, leaves}
use Rattle.transport_loss.specs.Stream.{Sent, idle, middle, final, start, shown, stuffed, Section, Head, EndsHand, Fits, sent_so_far, Carried, inside, ends_in, hurt_so_far, spared, burden}
use Rattle.section.proofs.Laws.Whole.{section_kind}
use Rattle.transport_loss.proofs.Laws.Sections.{starts-items, starts-head}

-- what such a receiver hands on, and has in hand then
abbrev pub out : List ℕ → Sent → List (List ℕ)
out e idle = []
out e (middle bs) = []
out [] (final bs n) = []
out (x ∷ e) (final bs n) = ((x ∷ e) ++ bs) ∷ []
out [] (start d ws g n) = ws
out (x ∷ e) (start d ws g n) = ((x ∷ e) ++ d) ∷ ws

abbrev pub next : List ℕ → Sent → List ℕ
next e idle = e
next [] (middle bs) = []
next (x ∷ e) (middle bs) = (x ∷ e) ++ bs
next e (final bs n) = []
next e (start d ws g n) = g

-- the receiver's hand: the sender's, or none
abbrev pub Hand : (e h : List ℕ) → Type 0
Hand [] h = Unit {0}
Hand (x ∷ e) h = (x ∷ e) ≡ h

whole-ended : (h bs : List ℕ) (n : ℕ) → is_none h ≡ false → Section (h ++ bs) → (ended h (bs ++ stuffed n) ≡ (h ++ bs) ∷ []) × (grown h (bs ++ stuffed n) ≡ [])
unfolding ended grown
whole-ended h bs n s w =
    let f : whole_at (h ++ (bs ++ stuffed n)) ≡ length (h ++ bs) = ap whole_at (sym (append_assoc h bs (stuffed n))) ∙ front whole_at section_kind (h ++ bs) (stuffed n) w in
    let z : whole_at (h ++ (bs ++ stuffed n)) ≡ 0 → ⊥ = λ k. let w1 = w.1 in omega (arith, k, f) in
    let t : take (whole_at (h ++ (bs ++ stuffed n))) (h ++ (bs ++ stuffed n)) ≡ h ++ bs = rw (f, ← (append_assoc h bs (stuffed n))) (take_at (h ++ bs) (stuffed n) (length (h ++ bs)) refl) in
    let q = ne_eqb (whole_at (h ++ (bs ++ stuffed n))) 0 z in
    (rw (s, q) (ap (λ (l : List ℕ). l ∷ []) t), rw (s, q))

whole-exact : (h bs : List ℕ) → is_none h ≡ false → Section (h ++ bs) → ended h bs ≡ (h ++ bs) ∷ []
whole-exact h bs s w = ap (ended h) (sym (append-nil bs)) ∙ (whole-ended h bs 0 s w).0

head-grown : (h bs : List ℕ) → is_none h ≡ false → Head (h ++ bs) → (ended h bs ≡ []) × (grown h bs ≡ h ++ bs)
unfolding ended grown
head-grown h bs s w = let q = eq-eqb (whole_at (h ++ bs)) 0 w.2 in (rw (s, q), rw (s, q))

none-ended : (bs : List ℕ) → (ended [] bs ≡ []) × (grown [] bs ≡ [])
unfolding ended grown
none-ended bs = (refl, refl)

-- THE RECEIVER DOES SO
pub hands_on_lem : (c : ℕ) (e h : List ℕ) (x : Sent) → Hand e h → Fits h x → (hands_on e (shown c x) ≡ out e x) × (leaves e (shown c x) ≡ next e x)
unfolding hands_on leaves shown
hands_on_lem c [] h idle k f = (refl, refl)
hands_on_lem c (y ∷ e) h idle k f = (refl, refl)
hands_on_lem c [] h (middle bs) k f = let q = none-ended bs in (rw q.0, q.1)
hands_on_lem c (y ∷ e) h (middle bs) k f = let w = subst (λ (l : List ℕ). Head (l ++ bs)) (sym k) f.2 in let q = head-grown (y ∷ e) bs refl w in (rw q.0, q.1)
hands_on_lem c [] h (final bs n) k f = let q = none-ended (bs ++ stuffed n) in (rw q.0, q.1)
hands_on_lem c (y ∷ e) h (final bs n) k f = let w = subst (λ (l : List ℕ). Section (l ++ bs)) (sym k) f.1 in let q = whole-ended (y ∷ e) bs n refl w in (rw q.0, q.1)
hands_on_lem c [] h (start d ws g n) k f =
    let q = none-ended d in
    (rw (q.0, starts-items ws g n f.1 f.2), starts-head ws g n f.1 f.2)
hands_on_lem c (y ∷ e) h (start d ws g n) k f =
    let a = subst (λ (l : List ℕ). EndsHand l d) (sym k) f.0 in
    (rw (whole-exact (y ∷ e) d refl a, starts-items ws g n f.1 f.2), starts-head ws g n f.1 f.2)

-- the sender's side: l says whether a packet with a byte of what is in hand was lost
pub hand_of : (l : Bool) (h : List ℕ) → Hand (cond l [] h) h
hand_of true h = tt
hand_of false [] = tt
hand_of false (y ∷ h) = refl

pub spared-both : (ks js : List Carried) → spared (ks ++ js) ≡ spared ks ++ spared js
unfolding spared
spared-both [] js = refl
spared-both (k ∷ ks) js = go (spared-both ks js) k.hurt
  where
    go : spared (ks ++ js) ≡ spared ks ++ spared js → (t : Bool) → cond t (spared (ks ++ js)) (k.bytes ∷ spared (ks ++ js)) ≡ cond t (spared ks) (k.bytes ∷ spared ks) ++ spared js
    go e true = e
    go e false = ap (λ (l : List (List ℕ)). k.bytes ∷ l) e

inside-came : (ws : List (List ℕ)) → spared (inside false ws) ≡ ws
unfolding spared
inside-came [] = refl
inside-came (w ∷ ws) = ap (λ (l : List (List ℕ)). w ∷ l) (inside-came ws)

inside-lost : (ws : List (List ℕ)) → spared (inside true ws) ≡ []
unfolding spared
inside-lost [] = refl
inside-lost (w ∷ ws) = inside-lost ws

-- of a packet that came
pub ends-came : (h : List ℕ) (l : Bool) (x : Sent) → Fits h x → spared (ends_in h l false x) ≡ out (cond l [] h) x
unfolding spared
ends-came h l idle f = refl
ends-came h l (middle bs) f = refl
ends-came h true (final bs n) f = refl
ends-came [] false (final bs n) f = absurd (f.0 refl)
ends-came (y ∷ h) false (final bs n) f = refl
ends-came [] true (start d ws g n) f = inside-came ws
ends-came (y ∷ h) true (start d ws g n) f = inside-came ws
ends-came [] false (start d ws g n) f = inside-came ws
ends-came (y ∷ h) false (start d ws g n) f = ap (λ (l : List (List ℕ)). ((y ∷ h) ++ d) ∷ l) (inside-came ws)

pub hand-came : (h : List ℕ) (l : Bool) (x : Sent) → Fits h x → cond (hurt_so_far l false x) [] (sent_so_far h x) ≡ next (cond l [] h) x
hand-came h l idle f = refl
hand-came h true (middle bs) f = refl
hand-came [] false (middle bs) f = absurd (f.0 refl)
hand-came (y ∷ h) false (middle bs) f = refl
hand-came h l (final bs n) f = refl
hand-came h l (start d ws g n) f = refl

-- of a packet that was lost
pub ends-lost : (h : List ℕ) (l : Bool) (x : Sent) → spared (ends_in h l true x) ≡ []
unfolding spared
ends-lost h l idle = refl
ends-lost h l (middle bs) = refl
ends-lost h true (final bs n) = refl
ends-lost h false (final bs n) = refl
ends-lost [] l (start d ws g n) = inside-lost ws
ends-lost (y ∷ h) true (start d ws g n) = inside-lost ws
ends-lost (y ∷ h) false (start d ws g n) = inside-lost ws

-- what is in hand then is hurt, or there is none; unless the packet had no payload
pub hand-lost : (h : List ℕ) (l : Bool) (x : Sent) → (burden x ≡ 0 → ⊥) → cond (hurt_so_far l true x) [] (sent_so_far h x) ≡ []
hand-lost h l idle z = absurd (z refl)
hand-lost h true (middle bs) z = refl
hand-lost h false (middle bs) z = refl
hand-lost h l (final bs n) z = refl
hand-lost h l (start d ws g n) z = refl

pub hand-idle : (h : List ℕ) (l m : Bool) (x : Sent) → burden x ≡ 0 → cond (hurt_so_far l m x) [] (sent_so_far h x) ≡ cond l [] h
hand-idle h l m idle z = refl
hand-idle h l m (middle bs) z = absurd (omega arith)
hand-idle h l m (final bs n) z = absurd (omega arith)
hand-idle h l m (start d ws g n) z = absurd (omega arith)
