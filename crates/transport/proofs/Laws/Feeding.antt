-- ONE PACKET by its ways, and many: "However packets are grouped in calls, the same sections come out; a refused packet doesn't stop the rest", and
-- changes nothing; "An exact repeat of the last packet is passed over". 02, §2.
use Prim.Native.Nat.{ℕ}
use mathlib.Core.Path.{◌≡◌, refl, sym, ap, ap₂, ◌∙◌}
use mathlib.Core.Bool.{Bool, true, false, not, cond, ◌&&◌}
use mathlib.Core.List.{List, [], ◌∷◌, ◌++◌, append_assoc}
use Rattle.std.proofs.Common.{Ok, Err}
use native.Mathlib.Omega.{arith}
use lib.Dec.{eqb}
use borrow.Author.Tests.{eq-eqb, ne_eqb, eqb-true, eqb-false}
use Rattle.wire.specs.Copies.{same_numbers}
use Rattle.wire.specs.Tests.{first_met}
use Rattle.wire.specs.Items.{items}
use Rattle.wire.specs.Pieces.{is_none}
use Rattle.wire.proofs.Laws.Copies.{same-is, same_refl}
use Rattle.wire.proofs.Laws.Tests.{both}
use Rattle.section.specs.Whole.{whole_at}
use Rattle.transport.specs.declared.Answer.TheVariants as answer
use Rattle.transport.specs.Packet.{View, view_of, packet_refusal}
use Rattle.transport.specs.Feed.{Outcome, State, Fed, head_in, ended, grown, hands_on, leaves, in_step, kept_hand, accepted, is_repeat, fed, taken_by, passed_over, state_after, handed_on, answers_of}

-- GROUPING
module _ (pid : ℕ) where
  pub state-both : (x : State) (ps qs : List (List ℕ)) → state_after pid x (ps ++ qs) ≡ state_after pid (state_after pid x ps) qs
  unfolding state_after
  state-both x [] qs = refl
  state-both x (p ∷ ps) qs = state-both (fed pid x p).state ps qs

  pub sections-both : (x : State) (ps qs : List (List ℕ)) → handed_on pid x (ps ++ qs) ≡ handed_on pid x ps ++ handed_on pid (state_after pid x ps) qs
  unfolding state_after handed_on
  sections-both x [] qs = refl
  sections-both x (p ∷ ps) qs = rw (sections-both (fed pid x p).state ps qs) (sym (append_assoc (fed pid x p).sections _ _))

  pub answers-both : (x : State) (ps qs : List (List ℕ)) → answers_of pid x (ps ++ qs) ≡ answers_of pid x ps ++ answers_of pid (state_after pid x ps) qs
  unfolding state_after answers_of
  answers-both x [] qs = refl
  answers-both x (p ∷ ps) qs = ap (λ (l : List Outcome). (fed pid x p).answer ∷ l) (answers-both (fed pid x p).state ps qs)

-- ONE PACKET, by whether it is refused or a repeat
module _ (pid : ℕ) (x : State) (p : List ℕ) where
  pub fed-refused : (packet_refusal pid p ≡ 0 → ⊥) → fed pid x p ≡ passed_over x (Err (packet_refusal pid p))
  unfolding fed
  fed-refused n = rw (ne_eqb (packet_refusal pid p) 0 n) refl

  module _ (z : packet_refusal pid p ≡ 0) where
    pub fed-repeat : is_repeat x p ≡ true → fed pid x p ≡ passed_over x (Ok answer.Repeated)
    unfolding fed
    fed-repeat e = rw (eq-eqb (packet_refusal pid p) 0 z, e) refl

    pub fed-taken : is_repeat x p ≡ false → fed pid x p ≡ taken_by x p
    unfolding fed
    fed-taken e = rw (eq-eqb (packet_refusal pid p) 0 z, e) refl

-- REFUSED PACKETS might as well not have come
pub refused_away : (pid : ℕ) (x : State) (ps : List (List ℕ)) (p : List ℕ) (qs : List (List ℕ)) → (packet_refusal pid p ≡ 0 → ⊥)
    → (handed_on pid x (ps ++ p ∷ qs) ≡ handed_on pid x (ps ++ qs)) × (state_after pid x (ps ++ p ∷ qs) ≡ state_after pid x (ps ++ qs))
unfolding handed_on state_after
refused_away pid x [] p qs n =
    let e = fed-refused pid x p n in
    (ap (λ (f : Fed). f.sections ++ handed_on pid f.state qs) e, ap (λ (f : Fed). state_after pid f.state qs) e)
refused_away pid x (q ∷ ps) p qs n = let h = refused_away pid (fed pid x q).state ps p qs n in (rw h.0, h.1)

-- so that packets of other PIDs, and damaged ones, may stand anywhere between
pub only-accepted : (pid : ℕ) (ps : List (List ℕ)) (x : State) → handed_on pid x ps ≡ handed_on pid x (accepted pid ps)
unfolding handed_on accepted
only-accepted pid [] x = refl
only-accepted pid (p ∷ ps) x = go (eqb (packet_refusal pid p) 0) refl (λ y. only-accepted pid ps y)
  where
    go : (t : Bool) → eqb (packet_refusal pid p) 0 ≡ t → ((y : State) → handed_on pid y ps ≡ handed_on pid y (accepted pid ps))
        → (fed pid x p).sections ++ handed_on pid (fed pid x p).state ps ≡ handed_on pid x (cond t (p ∷ accepted pid ps) (accepted pid ps))
    go true e ih = ap (λ (l : List (List ℕ)). (fed pid x p).sections ++ l) (ih (fed pid x p).state)
    go false e ih = ap (λ (f : Fed). f.sections ++ handed_on pid f.state ps) (fed-refused pid x p (eqb-false (packet_refusal pid p) 0 e)) ∙ ih x

-- "ANY OTHER BREAK OF THE COUNTER DROPS THE SECTION IN HAND AND WAITS FOR THE NEXT UNIT START, THE BREAKING PACKET'S OWN INCLUDED"
abbrev pub anew : List ℕ → Fed
anew p = record { state = record { last = p; hand = leaves [] (view_of p) }; answer = Ok answer.Broken; sections = hands_on [] (view_of p) }

pub broken : (pid : ℕ) (x : State) (p : List ℕ) → packet_refusal pid p ≡ 0 → is_repeat x p ≡ false → in_step x.last p ≡ false → fed pid x p ≡ anew p
unfolding kept_hand
broken pid x p z r b =
    let k : kept_hand x p ≡ [] = ap (λ (t : Bool). cond t x.hand []) b in
    fed-taken pid x p z r
    ∙ ap₂ (λ (h : List ℕ) (t : Bool). record { state = record { last = p; hand = leaves h (view_of p) }; answer = Ok (cond t answer.Taken answer.Broken); sections = hands_on h (view_of p) }) k b

-- what a packet brings where nothing is in hand: with no unit start nothing is handed on and nothing held; with one, what is_start in it
pub from_nothing : (v : View) → (v.start ≡ false → (hands_on [] v ≡ []) × (leaves [] v ≡ []))
    × (v.payload ≡ true → v.start ≡ true → (hands_on [] v ≡ items whole_at v.after) × (leaves [] v ≡ head_in v.after))
unfolding hands_on leaves ended grown
from_nothing v = (λ s. (without v.payload v.start s, held v.payload v.start s), λ q s. (rw (q, s), rw (q, s)))
  where
    without : (q s : Bool) → s ≡ false → cond q ([] ++ cond s (items whole_at v.after) []) [] ≡ []
    without true s e = rw e
    without false s e = refl

    held : (q s : Bool) → s ≡ false → cond q (cond s (head_in v.after) []) [] ≡ []
    held true s e = rw e
    held false s e = refl

-- EXACT REPEATS likewise
-- after a packet that is not refused the last packet is that packet, so that the packet again is passed over, and again
pub last-is : (pid : ℕ) (x : State) (p : List ℕ) → packet_refusal pid p ≡ 0 → (fed pid x p).state.last ≡ p
last-is pid x p z = go (is_repeat x p) refl
  where
    go : (t : Bool) → is_repeat x p ≡ t → (fed pid x p).state.last ≡ p
    go true e = ap (λ (f : Fed). f.state.last) (fed-repeat pid x p z e) ∙ same-is x.last p (both (not (is_none x.last)) (same_numbers x.last p) e).1
    go false e = ap (λ (f : Fed). f.state.last) (fed-taken pid x p z e)

-- a packet of 188 bytes is some bytes
pub not_none : (pid : ℕ) (p : List ℕ) → packet_refusal pid p ≡ 0 → is_none p ≡ false
unfolding packet_refusal first_met
not_none pid [] z = absurd (omega arith)
not_none pid (x ∷ p) z = refl

again-same : (pid : ℕ) (x : State) (p : List ℕ) → packet_refusal pid p ≡ 0 → x.last ≡ p → fed pid x p ≡ passed_over x (Ok answer.Repeated)
again-same pid x p z e =
    fed-repeat pid x p z (ap (λ (l : List ℕ). not (is_none l) && same_numbers l p) e ∙ ap (λ (t : Bool). not t && same_numbers p p) (not_none pid p z) ∙ same_refl p)

-- REPEATS might as well not have come: one packet, sent again at once
pub repeat_away : (pid : ℕ) (x : State) (ps : List (List ℕ)) (p : List ℕ) (qs : List (List ℕ))
    → (handed_on pid x (ps ++ p ∷ p ∷ qs) ≡ handed_on pid x (ps ++ p ∷ qs)) × (state_after pid x (ps ++ p ∷ p ∷ qs) ≡ state_after pid x (ps ++ p ∷ qs))
unfolding handed_on state_after
repeat_away pid x [] p qs = go (eqb (packet_refusal pid p) 0) refl
  where
    y : State
    y = (fed pid x p).state

    next : Fed → List (List ℕ)
    next f = f.sections ++ handed_on pid f.state qs

    after : Fed → State
    after f = state_after pid f.state qs

    from : (fed pid y p).state ≡ y → (fed pid y p).sections ≡ []
        → ((fed pid x p).sections ++ next (fed pid y p) ≡ (fed pid x p).sections ++ handed_on pid y qs) × (after (fed pid y p) ≡ state_after pid y qs)
    from e f = (rw (f, e), rw e)

    go : (t : Bool) → eqb (packet_refusal pid p) 0 ≡ t
        → ((fed pid x p).sections ++ next (fed pid y p) ≡ (fed pid x p).sections ++ handed_on pid y qs) × (after (fed pid y p) ≡ state_after pid y qs)
    go true e = let z = eqb-true (packet_refusal pid p) 0 e in let r = again-same pid y p z (last-is pid x p z) in from (ap (λ (f : Fed). f.state) r) (ap (λ (f : Fed). f.sections) r)
    go false e = let r = fed-refused pid y p (eqb-false (packet_refusal pid p) 0 e) in from (ap (λ (f : Fed). f.state) r) (ap (λ (f : Fed). f.sections) r)
repeat_away pid x (q ∷ ps) p qs = let h = repeat_away pid (fed pid x q).state ps p qs in (rw h.0, h.1)
