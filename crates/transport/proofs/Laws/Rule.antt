-- THE STATE'S RULE is kept by every packet; what is in hand has at most 4,097 bytes; what one packet hands on has at most 184 more than what was in hand.
use Prim.Native.Nat.{ℕ, zero, suc, ◌+◌, ◌≤◌, ◌<◌}
use mathlib.Core.Path.{◌≡◌, refl, sym, ap, ◌∙◌}
use mathlib.Core.Bool.{Bool, true, false, not, cond, ◌&&◌, ◌||◌}
use mathlib.Core.List.{List, [], ◌∷◌, ◌++◌}
use native.Mathlib.Omega.{arith}
use lib.Dec.{eqb}
use lib.ListN.{length, take, drop, length-append, length-drop, take-append-drop}
use lib.Seq.{length-take-le, drop-drop}
use borrow.Author.Tests.{eq-eqb, ne_eqb, eqb-true, eqb-false, not-true}
use Rattle.wire.specs.Fields.{byte_at, sixteen_at}
use Rattle.wire.specs.Items.{Size, IsKind, items, items_in, joined}
use Rattle.wire.specs.Pieces.{is_none}
use Rattle.wire.specs.Tests.{first_met}
use Rattle.wire.proofs.Laws.Fields.{bits_lt}
use Rattle.wire.proofs.Laws.Frames.{framed_is}
use Rattle.wire.proofs.Laws.Meaning.{append-nil, joined-both}
use Rattle.wire.proofs.Laws.Steps.{covers}
use Rattle.wire.proofs.Laws.Tests.{both, clash}
use Rattle.section.specs.Header.{length_of}
use Rattle.section.specs.Whole.{whole_at}
use Rattle.section.proofs.Laws.Whole.{section_kind, size-framed}
use Rattle.transport.specs.Packet.{View, view_of, packet_refusal, pid_of, is_faulty, payload_in, has_field, has_payload, is_start}
use Rattle.transport.specs.Feed.{State, Fed, fresh, left_of, head_in, is_repeat, ended, grown, hands_on, leaves, kept_hand, taken_by, fed, in_step, is_head, state_ruled, state_after}
use Rattle.transport.proofs.Laws.Feeding.{fed-refused, fed-repeat, fed-taken, not_none}

-- after all whole items there is none
module _ (size : Size) (kind : IsKind size) where
  rest_in : (n : ℕ) (xs : List ℕ) → length xs ≤ n → size (drop (length (joined (items_in n size xs))) xs) ≡ 0
  unfolding items_in joined
  rest_in zero xs l = let f = kind.fits xs in omega arith
  rest_in (suc n) xs l = go (eqb (size xs) 0) refl (rest_in n (drop (size xs) xs))
    where
      go : (t : Bool) → eqb (size xs) 0 ≡ t
          → (length (drop (size xs) xs) ≤ n → size (drop (length (joined (items_in n size (drop (size xs) xs)))) (drop (size xs) xs)) ≡ 0)
          → size (drop (length (joined (cond t [] (take (size xs) xs ∷ items_in n size (drop (size xs) xs))))) xs) ≡ 0
      go true e ih = eqb-true (size xs) 0 e
      go false e ih =
          let z = eqb-false (size xs) 0 e in
          let p : 0 < size xs = omega (arith, z) in
          let d = length-drop (size xs) xs in
          let k : length (take (size xs) xs ++ joined (items_in n size (drop (size xs) xs))) ≡ size xs + length (joined (items_in n size (drop (size xs) xs))) =
          length-append (take (size xs) xs) (joined (items_in n size (drop (size xs) xs)))
          ∙ ap (λ (m : ℕ). m + length (joined (items_in n size (drop (size xs) xs)))) (length-take-le (size xs) xs (kind.fits xs)) in
          ap (λ (m : ℕ). size (drop m xs)) k ∙ sym (ap size (drop-drop (length (joined (items_in n size (drop (size xs) xs)))) (size xs) xs)) ∙ ih (omega arith)

  pub rest-none : (xs : List ℕ) → size (drop (length (joined (items size xs))) xs) ≡ 0
  unfolding items
  rest-none xs = rest_in (length xs) xs (omega arith)

-- heads
pub head_in_lem : (h : List ℕ) → (byte_at h 0 ≡ 0xFF → ⊥) → whole_at h ≡ 0 → is_head h ≡ true
head_in_lem [] n z = refl
head_in_lem (x ∷ h) n z = rw (ne_eqb x 0xFF n, eq-eqb (whole_at (x ∷ h)) 0 z)

pub is-head : (x : ℕ) (h : List ℕ) → is_head (x ∷ h) ≡ true → (x ≡ 0xFF → ⊥) × (whole_at (x ∷ h) ≡ 0)
is-head x h e =
    let b = both (not (eqb x 0xFF)) (eqb (whole_at (x ∷ h)) 0) e in
    (eqb-false x 0xFF (not-true (eqb x 0xFF) b.0), eqb-true (whole_at (x ∷ h)) 0 b.1)

-- IN HAND: at most 4,097 bytes
pub hand-most : (h : List ℕ) → is_head h ≡ true → length h ≤ 4097
hand-most [] e = omega arith
hand-most (x ∷ h) e = go (is-head x h e)
  where
    n : ℕ
    n = 3 + length_of (take 3 (x ∷ h))

    go : (x ≡ 0xFF → ⊥) × (whole_at (x ∷ h) ≡ 0) → length (x ∷ h) ≤ 4097
    go k =
        let b = bits_lt 0 12 (sixteen_at (take 3 (x ∷ h)) 1) in
        let f : 3 + length_of (take 3 (x ∷ h)) ≤ length (x ∷ h) → ⊥ = λ l. let q = framed_is 3 length_of (x ∷ h) l in let s = size-framed (x ∷ h) k.0 in let z = k.1 in omega arith in
        omega (arith, b, f)

-- THE RULE IS KEPT
pub grown-head : (h m : List ℕ) → is_head h ≡ true → is_head (grown h m) ≡ true
unfolding grown
grown-head [] m e = refl
grown-head (x ∷ h) m e = go (eqb (whole_at ((x ∷ h) ++ m)) 0) refl
  where
    go : (t : Bool) → eqb (whole_at ((x ∷ h) ++ m)) 0 ≡ t → is_head (cond (not t) [] ((x ∷ h) ++ m)) ≡ true
    go true z = head_in_lem ((x ∷ h) ++ m) (is-head x h e).0 (eqb-true (whole_at ((x ∷ h) ++ m)) 0 z)
    go false z = refl

head_in-head : (xs : List ℕ) → is_head (head_in xs) ≡ true
unfolding head_in
head_in-head xs = go (eqb (byte_at (left_of xs) 0) 0xFF) refl
  where
    go : (t : Bool) → eqb (byte_at (left_of xs) 0) 0xFF ≡ t → is_head (cond t [] (left_of xs)) ≡ true
    go true z = refl
    go false z = head_in_lem (left_of xs) (eqb-false (byte_at (left_of xs) 0) 0xFF z) (rest-none whole_at section_kind xs)

pub leaves-head : (h : List ℕ) (v : View) → is_head h ≡ true → is_head (leaves h v) ≡ true
unfolding leaves
leaves-head h v e = go v.payload v.start
  where
    go : (q s : Bool) → is_head (cond q (cond s (head_in v.after) (grown h v.before)) h) ≡ true
    go false s = e
    go true true = head_in-head v.after
    go true false = grown-head h v.before e

pub kept-head : (x : State) (p : List ℕ) → is_head x.hand ≡ true → is_head (kept_hand x p) ≡ true
unfolding kept_hand
kept-head x p e = go (in_step x.last p)
  where
    go : (t : Bool) → is_head (cond t x.hand []) ≡ true
    go true = e
    go false = refl

pub ruled-head : (pid : ℕ) (x : State) → state_ruled pid x ≡ true → is_head x.hand ≡ true
unfolding state_ruled
ruled-head pid x r = go (is_none x.last) x.hand r
  where
    go : (t : Bool) (h : List ℕ) → cond t (is_none h) (eqb (packet_refusal pid x.last) 0 && is_head h) ≡ true → is_head h ≡ true
    go true [] e = refl
    go true (y ∷ h) e = absurd (clash _ e refl)
    go false h e = (both (eqb (packet_refusal pid x.last) 0) (is_head h) e).1

taken-ruled : (pid : ℕ) (x : State) (p : List ℕ) → packet_refusal pid p ≡ 0 → is_head x.hand ≡ true → state_ruled pid (taken_by x p).state ≡ true
unfolding state_ruled
taken-ruled pid x p z e = rw (not_none pid p z, eq-eqb (packet_refusal pid p) 0 z, leaves-head (kept_hand x p) (view_of p) (kept-head x p e))

pub fresh-ruled : (pid : ℕ) → state_ruled pid fresh ≡ true
unfolding state_ruled
fresh-ruled pid = refl

pub fed-ruled : (pid : ℕ) (x : State) (p : List ℕ) → state_ruled pid x ≡ true → state_ruled pid (fed pid x p).state ≡ true
fed-ruled pid x p r = go (eqb (packet_refusal pid p) 0) (is_repeat x p) refl refl
  where
    go : (s t : Bool) → eqb (packet_refusal pid p) 0 ≡ s → is_repeat x p ≡ t → state_ruled pid (fed pid x p).state ≡ true
    go false t e f = ap (λ (w : Fed). state_ruled pid w.state) (fed-refused pid x p (eqb-false (packet_refusal pid p) 0 e)) ∙ r
    go true true e f = ap (λ (w : Fed). state_ruled pid w.state) (fed-repeat pid x p (eqb-true (packet_refusal pid p) 0 e) f) ∙ r
    go true false e f =
        let z = eqb-true (packet_refusal pid p) 0 e in
        ap (λ (w : Fed). state_ruled pid w.state) (fed-taken pid x p z f) ∙ taken-ruled pid x p z (ruled-head pid x r)

pub state-ruled : (pid : ℕ) (ps : List (List ℕ)) (x : State) → state_ruled pid x ≡ true → state_ruled pid (state_after pid x ps) ≡ true
unfolding state_after
state-ruled pid [] x r = r
state-ruled pid (p ∷ ps) x r = state-ruled pid ps (fed pid x p).state (fed-ruled pid x p r)

-- HANDED ON BY ONE PACKET: no more bytes than were in hand and came
pub ended-most : (h m : List ℕ) → length (joined (ended h m)) ≤ length h + length m
unfolding ended joined
ended-most h m = go (is_none h || eqb (whole_at (h ++ m)) 0)
  where
    go : (t : Bool) → length (joined (cond t [] (take (whole_at (h ++ m)) (h ++ m) ∷ []))) ≤ length h + length m
    go true = omega arith
    go false =
        let l = length-append h m in
        let f = section_kind.fits (h ++ m) in
        let k = length-take-le (whole_at (h ++ m)) (h ++ m) f in
        let j = length-append (take (whole_at (h ++ m)) (h ++ m)) [] in
        omega arith

pub items-most : (xs : List ℕ) → length (joined (items whole_at xs)) ≤ length xs
items-most xs = let c = covers whole_at section_kind xs in let l = length-append (joined (items whole_at xs)) c.0 in let e = ap (λ (y : List ℕ). length y) c.1 in omega arith

hands-most : (h : List ℕ) (v : View) → length (joined (hands_on h v)) ≤ length h + (length v.before + length v.after)
unfolding hands_on joined
hands-most h v = go v.payload v.start
  where
    go : (q s : Bool) → length (joined (cond q (ended h v.before ++ cond s (items whole_at v.after) []) [])) ≤ length h + (length v.before + length v.after)
    go false s = omega arith
    go true true =
        let j = ap (λ (y : List ℕ). length y) (joined-both (ended h v.before) (items whole_at v.after)) in
        let l = length-append (joined (ended h v.before)) (joined (items whole_at v.after)) in
        let a = ended-most h v.before in
        let b = items-most v.after in
        omega arith
    go true false = let j = ap (λ (y : List (List ℕ)). length (joined y)) (append-nil (ended h v.before)) in let a = ended-most h v.before in omega arith

-- a packet brings at most 184
payload-most : (p : List ℕ) → length p ≡ 188 → length (payload_in p) ≤ 184
payload-most p e = go (has_field p)
  where
    go : (t : Bool) → length (drop (cond t (5 + byte_at p 4) 4) p) ≤ 184
    go true = let d = length-drop (5 + byte_at p 4) p in omega arith
    go false = let d = length-drop 4 p in omega arith

pub brings-most : (p : List ℕ) → length p ≡ 188 → length (view_of p).before + length (view_of p).after ≤ 184
unfolding view_of
brings-most p e = go (is_start p) (has_payload p) (payload_in p) (payload-most p e)
  where
    go : (s q : Bool) (l : List ℕ) → length l ≤ 184 → length (cond s (take (byte_at l 0) (drop 1 l)) (cond q l [])) + length (cond s (drop (1 + byte_at l 0) l) []) ≤ 184
    go true q l m =
        let a = length-append (take (byte_at l 0) (drop 1 l)) (drop (byte_at l 0) (drop 1 l)) in
        let b = ap (λ (y : List ℕ). length y) (take-append-drop (byte_at l 0) (drop 1 l)) in
        let c = ap (λ (y : List ℕ). length y) (drop-drop (byte_at l 0) 1 l) in
        let d = length-drop 1 l in
        omega arith
    go false true l m = omega arith
    go false false l m = omega arith

kept-most : (x : State) (p : List ℕ) → length (kept_hand x p) ≤ length x.hand
unfolding kept_hand
kept-most x p = go (in_step x.last p)
  where
    go : (t : Bool) → length (cond t x.hand []) ≤ length x.hand
    go true = omega arith
    go false = omega arith

taken-most : (x : State) (p : List ℕ) → length p ≡ 188 → length (joined (taken_by x p).sections) ≤ length x.hand + 184
taken-most x p e = let a = hands-most (kept_hand x p) (view_of p) in let b = brings-most p e in let c = kept-most x p in omega arith

pub full : (pid : ℕ) (p : List ℕ) → packet_refusal pid p ≡ 0 → length p ≡ 188
unfolding packet_refusal first_met
full pid p z = go (eqb (length p) 188) refl z
  where
    go : (t : Bool) → eqb (length p) 188 ≡ t → first_met ((40, not t) ∷ (41, not (eqb (byte_at p 0) 0x47)) ∷ (42, not (eqb (pid_of p) pid)) ∷ (43, is_faulty p) ∷ []) ≡ 0
        → length p ≡ 188
    go true e f = eqb-true (length p) 188 e
    go false e f = absurd (omega arith)

nothing : (x : State) → length (joined []) ≤ length x.hand + 184
unfolding joined
nothing x = omega arith

pub sections-most : (pid : ℕ) (x : State) (p : List ℕ) → length (joined (fed pid x p).sections) ≤ length x.hand + 184
sections-most pid x p = go (eqb (packet_refusal pid p) 0) (is_repeat x p) refl refl
  where
    go : (s t : Bool) → eqb (packet_refusal pid p) 0 ≡ s → is_repeat x p ≡ t → length (joined (fed pid x p).sections) ≤ length x.hand + 184
    go false t e f = rw (fed-refused pid x p (eqb-false (packet_refusal pid p) 0 e)) (nothing x)
    go true true e f = rw (fed-repeat pid x p (eqb-true (packet_refusal pid p) 0 e) f) (nothing x)
    go true false e f = let z = eqb-true (packet_refusal pid p) 0 e in rw (fed-taken pid x p z f) (taken-most x p (full pid p z))

-- so that 4,281 bytes of room are enough for any state that keeps the rule
pub room : (pid : ℕ) (x : State) (p : List ℕ) → state_ruled pid x ≡ true → length (joined (fed pid x p).sections) ≤ 4281
room pid x p r = let a = sections-most pid x p in let b = hand-most x.hand (ruled-head pid x r) in omega arith
