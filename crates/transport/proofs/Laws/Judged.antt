-- WHAT BECOMES OF A PACKET, by the last one.
use Prim.Native.Nat.{ℕ, ◌+◌, ◌-◌, ◌%◌}
use mathlib.Core.Path.{◌≡◌, refl, sym, ap, subst, ◌∙◌}
use mathlib.Core.Bool.{Bool, true, false, not, cond}
use mathlib.Core.List.{List, [], ◌∷◌}
use Rattle.std.proofs.Common.{Ok, Err, Option}
use native.Mathlib.Omega.{arith}
use lib.Dec.{eqb}
use lib.ListN.{length, take, drop}
use borrow.Author.Tests.{eq-eqb, ne_eqb, eqb-true, eqb-false}
use Rattle.wire.specs.Copies.{same_numbers}
use Rattle.wire.specs.Fields.{byte_at}
use Rattle.wire.specs.Tests.{first_met}
use Rattle.wire.proofs.Laws.Copies.{same-is}
use Rattle.wire.proofs.Laws.Tests.{clash}
use Rattle.transport.specs.declared.Answer.TheVariants as answer
use Rattle.transport.specs.Packet.{packet_length, counter_of, pid_of, is_faulty, packet_refusal, view_of}
use Rattle.transport.specs.Feed.{Outcome, State, Fed, is_repeat, weight, in_step, taken_by, passed_over, fed}
use Rattle.transport.specs.State.{last_in}
use Rattle.transport.specs.Calls.{is_taken, how_many, tally}
use Rattle.transport.specs.Pieces.{judged_after, judged, last_seen, counted_as}
use Rattle.transport.proofs.Laws.Feeding.{fed-refused, fed-repeat, fed-taken}

-- two lists that differ somewhere are not the same
pub differ-at : (k : ℕ) (xs ys : List ℕ) → (byte_at xs k ≡ byte_at ys k → ⊥) → same_numbers xs ys ≡ false
differ-at k xs ys n = go (same_numbers xs ys) refl
  where
    go : (t : Bool) → same_numbers xs ys ≡ t → t ≡ false
    go false e = refl
    go true e = absurd (n (ap (λ (l : List ℕ). byte_at l k) (same-is xs ys e)))

-- by a last packet that is there, or by none
module _ (p : List ℕ) where
  pub after_none : judged_after [] p ≡ answer.Taken
  unfolding judged_after
  after_none = refl

  pub after-some : (last : List ℕ) → length last ≡ packet_length
      → judged_after last p ≡ cond (same_numbers last p) answer.Repeated (cond (eqb (counter_of p) ((counter_of last + weight (view_of p)) % 16)) answer.Taken answer.Broken)
  unfolding judged_after view_of
  after-some [] e = absurd (omega arith)
  after-some (x ∷ last) e = refl

module _ (pid : ℕ) (last p : List ℕ) where
  pub judged-refused : (n : ℕ) → n ≡ packet_refusal pid p → (n ≡ 0 → ⊥) → Err n ≡ judged pid last p
  unfolding judged
  judged-refused n e z = rw (ne_eqb (packet_refusal pid p) 0 (λ w. z (e ∙ w))) (ap (λ (m : ℕ). Err m) e)

  pub judged-on : packet_refusal pid p ≡ 0 → judged pid last p ≡ Ok (judged_after last p)
  unfolding judged
  judged-on z = rw (eq-eqb (packet_refusal pid p) 0 z)

-- a part, as it is cut out
pub same_part : (xs : List ℕ) (at n : ℕ) → take (at + n - at) (drop at xs) ≡ take n (drop at xs)
same_part xs at n = let e : at + n - at ≡ n = omega arith in ap (λ (k : ℕ). take k (drop at xs)) e

-- THE LAST PACKET: one that is known, or the one in the state, if there was one
module _ (s : List ℕ) where
  last_none : byte_at s 0 ≡ 0 → last_in s ≡ []
  last_none e = ap (λ (t : Bool). cond t [] (take packet_length s)) (eq-eqb (byte_at s 0) 0 e)

  pub last_some : (byte_at s 0 ≡ 0 → ⊥) → last_in s ≡ take packet_length s
  last_some n = ap (λ (t : Bool). cond t [] (take packet_length s)) (ne_eqb (byte_at s 0) 0 n)

module _ (pid : ℕ) (s p : List ℕ) (z : packet_refusal pid p ≡ 0) where
  pub judged-by : (last : Option (List ℕ)) (l : List ℕ) → last_seen last s ≡ l → Ok (judged_after l p) ≡ judged pid (last_seen last s) p
  judged-by last l e = ap (λ (k : List ℕ). Ok (judged_after k p)) (sym e) ∙ sym (judged-on pid (last_seen last s) p z)

  pub judged-first : (last : Option (List ℕ)) → last_seen last s ≡ last_in s → byte_at s 0 ≡ 0 → Ok answer.Taken ≡ judged pid (last_seen last s) p
  judged-first last h e = ap Ok (sym (after_none p)) ∙ judged-by last [] (h ∙ last_none s e)

  pub judged-past : (last : Option (List ℕ)) → last_seen last s ≡ last_in s → (byte_at s 0 ≡ 0 → ⊥)
      → Ok (judged_after (take packet_length s) p) ≡ judged pid (last_seen last s) p
  judged-past last h n = judged-by last _ (h ∙ last_some s n)

-- it is the answer, whatever is in hand
module _ (pid : ℕ) (x : State) (p : List ℕ) where
  pub judged-answer : judged pid x.last p ≡ (fed pid x p).answer
  unfolding judged judged_after fed
  judged-answer = go (eqb (packet_refusal pid p) 0) (is_repeat x p)
    where
      go : (t u : Bool) → cond t (Ok (cond u answer.Repeated (cond (in_step x.last p) answer.Taken answer.Broken))) (Err (packet_refusal pid p))
          ≡ (cond t (cond u (passed_over x (Ok answer.Repeated)) (taken_by x p)) (passed_over x (Err (packet_refusal pid p)))).answer
      go true true = refl
      go true false = refl
      go false u = refl

-- WHO IS TAKEN: one that is not refused and no repeat
pub record Taken (pid : ℕ) (x : State) (p : List ℕ) (a : Outcome) : Type 0 where
  pub clear : packet_refusal pid p ≡ 0
  pub new : is_repeat x p ≡ false
  pub told : a ≡ Ok (cond (in_step x.last p) answer.Taken answer.Broken)

pub record NotTaken (pid : ℕ) (x : State) (p : List ℕ) (a : Outcome) : Type 0 where
  pub over : fed pid x p ≡ passed_over x a
  pub known : packet_refusal pid p ≡ 0 → is_repeat x p ≡ true

-- the three ways
pub ways : (pid : ℕ) (x : State) (p : List ℕ) (P : Type 0)
    → ((packet_refusal pid p ≡ 0 → ⊥) → P) → (packet_refusal pid p ≡ 0 → is_repeat x p ≡ true → P) → (packet_refusal pid p ≡ 0 → is_repeat x p ≡ false → P) → P
ways pid x p P refused repeat new = go (eqb (packet_refusal pid p) 0) (is_repeat x p) refl refl
  where
    go : (t u : Bool) → eqb (packet_refusal pid p) 0 ≡ t → is_repeat x p ≡ u → P
    go false u f g = refused (eqb-false (packet_refusal pid p) 0 f)
    go true true f g = repeat (eqb-true (packet_refusal pid p) 0 f) g
    go true false f g = new (eqb-true (packet_refusal pid p) 0 f) g

module _ (pid : ℕ) (x : State) (p : List ℕ) (a : Outcome) (e : a ≡ (fed pid x p).answer) where
  -- what the outcome says of the answer
  by : (f : Fed) → fed pid x p ≡ f → a ≡ f.answer
  by f w = e ∙ ap (λ (r : Fed). r.answer) w

  always : (t : Bool) → is_taken (Ok (cond t answer.Taken answer.Broken)) ≡ true
  always true = refl
  always false = refl

  pub is-taken : is_taken a ≡ true → Taken pid x p a
  is-taken k =
      ways pid x p _
      (λ n. absurd (clash _ k (ap is_taken (by _ (fed-refused pid x p n)))))
      (λ z r. absurd (clash _ k (ap is_taken (by _ (fed-repeat pid x p z r)))))
      (λ z r. record { clear = z; new = r; told = by _ (fed-taken pid x p z r) })

  pub not_taken : is_taken a ≡ false → NotTaken pid x p a
  not_taken k =
      ways pid x p _
      (λ n. record { over = fed-refused pid x p n ∙ ap (passed_over x) (sym (by _ (fed-refused pid x p n))); known = λ z. absurd (n z) })
      (λ z r. record { over = fed-repeat pid x p z r ∙ ap (passed_over x) (sym (by _ (fed-repeat pid x p z r))); known = λ q. r })
      (λ z r. absurd (clash _ (ap is_taken (by _ (fed-taken pid x p z r)) ∙ always (in_step x.last p)) k))

-- ONE PACKET OF 188 BYTES, told by what was counted
abbrev Single : Outcome → Type 0
Single a = counted_as (tally (a ∷ [])) ≡ a

forty-one : Single (Err 41)
unfolding counted_as tally how_many
forty-one = refl

forty-two : Single (Err 42)
unfolding counted_as tally how_many
forty-two = refl

forty-three : Single (Err 43)
unfolding counted_as tally how_many
forty-three = refl

repeated : Single (Ok answer.Repeated)
unfolding counted_as tally how_many
repeated = refl

taken : (t : Bool) → Single (Ok (cond t answer.Taken answer.Broken))
unfolding counted_as tally how_many
taken true = refl
taken false = refl

numbers : (pid : ℕ) (p : List ℕ) → length p ≡ packet_length → (P : ℕ → Type 0) → P 0 → P 41 → P 42 → P 43 → P (packet_refusal pid p)
unfolding packet_refusal first_met
numbers pid p e P none sync other fault = rw (eq-eqb (length p) packet_length e) (go (eqb (byte_at p 0) 0x47) (eqb (pid_of p) pid) (is_faulty p))
  where
    go : (t u f : Bool) → P (first_met ((41, not t) ∷ (42, not u) ∷ (43, f) ∷ []))
    go false u f = sync
    go true false f = other
    go true true true = fault
    go true true false = none

pub one-counted : (pid : ℕ) (x : State) (p : List ℕ) → length p ≡ packet_length → Single (fed pid x p).answer
one-counted pid x p e =
    ways pid x p _
    (λ n. from _ (fed-refused pid x p n) (numbers pid p e (λ k. (k ≡ 0 → ⊥) → Single (Err k)) (λ z. absurd (z refl)) (λ z. forty-one) (λ z. forty-two) (λ z. forty-three) n))
    (λ z r. from _ (fed-repeat pid x p z r) repeated)
    (λ z r. from _ (fed-taken pid x p z r) (taken (in_step x.last p)))
  where
    from : (f : Fed) → fed pid x p ≡ f → Single f.answer → Single (fed pid x p).answer
    from f w q = subst (λ (g : Fed). Single g.answer) (sym w) q
