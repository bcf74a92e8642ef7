-- IN THE MIDDLE OF A STRETCH: what the state's bytes are to be, and one packet more.
use Prim.Native.Nat.{ℕ, ◌+◌, ◌-◌, ◌≤◌}
use mathlib.Core.Path.{◌≡◌, refl, sym, ap, ap₂, ◌∙◌}
use mathlib.Core.Bool.{Bool, true, false, cond}
use mathlib.Core.List.{List, [], ◌∷◌, ◌++◌, append_assoc}
use Rattle.std.proofs.Common.{Ok, Option, Some, None, IfSome}
use native.Mathlib.Omega.{arith}
use lib.Dec.{eqb}
use lib.ListN.{length, take, drop, length-drop}
use lib.Seq.{length-take-le, take_at, drop_at, drop-drop}
use borrow.Author.Tests.{eqb-true, eqb-false}
use Rattle.wire.specs.Copies.{laid_at}
use Rattle.wire.specs.Fields.{byte_at, spelled}
use Rattle.wire.specs.Items.{joined}
use Rattle.wire.specs.Pieces.{laid_first}
use Rattle.wire.proofs.Laws.Fields.{spelled_length}
use Rattle.wire.proofs.Laws.Tests.{clash}
use Rattle.transport.specs.declared.Answer.TheVariants as answer
use Rattle.transport.specs.Packet.{packet_length, packet_refusal, view_of}
use Rattle.transport.specs.Feed.{Outcome, State, Fed, is_head, in_step, kept_hand, hands_on, leaves, taken_by, fed}
use Rattle.transport.specs.State.{hand_at, state_length, held_in, hand_in, state_in, state_bytes, state_good}
use Rattle.transport.specs.Calls.{is_taken, is_broken, next_state}
use Rattle.transport.specs.Pieces.{judged, last_seen, with_last, midway, Midway, Stepped, Plain}
use Rattle.transport.proofs.Laws.Feeding.{fed-taken}
use Rattle.transport.proofs.Laws.Hands.{none-long, none_laid}
use Rattle.transport.proofs.Laws.Rule.{full, hand-most, ruled-head, kept-head, leaves-head}
use Rattle.transport.proofs.Laws.States.{Good, good-says, hand-said, laid-parts, synced, taken-left, next-good, next-says, refused-stays, repeat-stays}
use Rattle.transport.proofs.Laws.Answers.{last-said}
use Rattle.transport.proofs.Laws.Taking.{left_grown}
use Rattle.transport.proofs.Laws.Plain.{plain-judged, plain_hands, plain-leaves, plain-long}
use Rattle.transport.proofs.Laws.Judged.{last_some, judged-answer, is-taken, not_taken}

-- a packet before the rest, in its parts
module _ (p s : List ℕ) (n : ℕ) (e : length p ≡ packet_length) where
  in_parts : with_last p n s ≡ p ++ (spelled 2 n ++ drop hand_at s)
  in_parts = append_assoc p (spelled 2 n) (drop hand_at s)

  with_packet : take packet_length (with_last p n s) ≡ p
  with_packet = ap (take packet_length) in_parts ∙ take_at p _ packet_length e

  pub with-after : drop hand_at (with_last p n s) ≡ drop hand_at s
  with-after =
      sym (drop-drop 2 packet_length (with_last p n s))
      ∙ ap (drop 2) (ap (drop packet_length) in_parts ∙ drop_at p _ packet_length e)
      ∙ drop_at (spelled 2 n) (drop hand_at s) 2 (spelled_length 2 n)

  with_first : byte_at (with_last p n s) 0 ≡ byte_at p 0
  with_first = sym (first_of (with_last p n s)) ∙ ap (λ (t : List ℕ). byte_at t 0) with_packet
    where
      first_of : (xs : List ℕ) → byte_at (take packet_length xs) 0 ≡ byte_at xs 0
      first_of [] = refl
      first_of (x ∷ xs) = refl

-- what lies behind the last packet and the number is as it is, and the last packet is the one that is known
pub midway-after : (last : Option (List ℕ)) (held : ℕ) (s : List ℕ) (pid : ℕ) → Midway pid last held s → drop hand_at (midway last held s) ≡ drop hand_at s
midway-after None held s pid m = refl
midway-after (Some l) held s pid m = with-after l s held (full pid l m.2)

pub midway_full : (last : Option (List ℕ)) (held : ℕ) (s : List ℕ) (pid : ℕ) → Midway pid last held s → IfSome last (λ l. length l ≡ packet_length)
midway_full None held s pid m = tt
midway_full (Some l) held s pid m = full pid l m.2

pub midway-last : (last : Option (List ℕ)) (held : ℕ) (s : List ℕ) (pid : ℕ) → Midway pid last held s → (state_in (midway last held s)).last ≡ last_seen last s
midway-last None held s pid m = last-said s
midway-last (Some l) held s pid m =
    let e = full pid l m.2 in
    let z = with_first l s held e ∙ synced pid l m.2 in
    last-said (with_last l held s) ∙ last_some (with_last l held s) (λ n. absurd (omega (arith, n, z))) ∙ with_packet l s held e

module _ (last : Option (List ℕ)) (held : ℕ) (s : List ℕ) (pid : ℕ) (m : Midway pid last held s) where
  abbrev v : List ℕ
  v = midway last held s

  pub midway-good : Good pid v
  midway-good = good-says pid v m.0

  pub midway-long : state_length ≤ length s
  midway-long =
      let a = length-drop hand_at v in
      let b = length-drop hand_at s in
      let c = ap (λ (l : List ℕ). length l) (midway-after last held s pid m) in
      let g = midway-good.long in
      omega (arith, a, b, c, g)

  pub midway-few : held ≤ 4097
  midway-few = let e = m.1 in let g = midway-good.few in omega (arith, e, g)

  -- all that is in hand is there
  pub midway-there : length (take held (drop hand_at s)) ≡ held
  midway-there = let d = length-drop hand_at s in length-take-le held (drop hand_at s) (omega (arith, d, midway-long, midway-few))

  -- what it says
  pub midway-hand : hand_in v ≡ take held (drop hand_at s)
  midway-hand = ap₂ take (sym m.1) (midway-after last held s pid m)

-- bytes laid over what a state's bytes are to be, or over what they are: the packet and the hand cover the difference
laid_same : (p h s v : List ℕ) → length p ≡ packet_length → drop hand_at v ≡ drop hand_at s
    → laid_first (state_bytes (record { last = p; hand = h })) s ≡ laid_first (state_bytes (record { last = p; hand = h })) v
laid_same p h s v e d =
    laid-parts p h s e
    ∙ ap (λ (r : List ℕ). p ++ (spelled 2 (length h) ++ (h ++ r))) (sym (drop-drop (length h) hand_at s) ∙ ap (drop (length h)) (sym d) ∙ drop-drop (length h) hand_at v)
    ∙ sym (laid-parts p h v e)

-- one that is not taken leaves the state
pub next-stays : (pid : ℕ) (v p : List ℕ) (a : Outcome) → a ≡ (fed pid (state_in v) p).answer → is_taken a ≡ false → next_state pid v p ≡ v
next-stays pid v p a e k = go (eqb (packet_refusal pid p) 0) refl
  where
    go : (t : Bool) → eqb (packet_refusal pid p) 0 ≡ t → next_state pid v p ≡ v
    go false f = refused-stays pid v p (eqb-false (packet_refusal pid p) 0 f)
    go true f = let z = eqb-true (packet_refusal pid p) 0 f in repeat-stays pid v p z ((not_taken pid (state_in v) p a e k).known z)

-- ONE PACKET MORE
module _ (pid : ℕ) (last : Option (List ℕ)) (held : ℕ) (s : List ℕ) (m : Midway pid last held s) (p out : List ℕ) (a : Outcome) (j : a ≡ judged pid (last_seen last s) p) where
  abbrev v₀ : List ℕ
  v₀ = midway last held s

  abbrev x₀ : State
  x₀ = state_in v₀

  answered : a ≡ (fed pid x₀ p).answer
  answered = j ∙ ap (λ (l : List ℕ). judged pid l p) (sym (midway-last last held s pid m)) ∙ judged-answer pid x₀ p

  pub stepped-over : is_taken a ≡ false → Stepped pid v₀ s held p out a 0 held s out
  stepped-over k =
      let w = (not_taken pid x₀ p a answered k).over in (
        answered,
        sym none-long ∙ ap (λ (f : Fed). length (joined f.sections)) (sym w),
        m.1 ∙ ap held_in (sym (next-stays pid v₀ p a answered k)),
        λ t. absurd (clash _ t k),
        λ t. (refl, refl),
        sym (none_laid out) ∙ ap (λ (f : Fed). laid_first (joined f.sections) out) (sym w),
      )

  -- one that is taken: what is kept in hand, and that it is a head
  pub hand-kept : is_taken a ≡ true → kept_hand x₀ p ≡ take (cond (is_broken a) 0 held) (drop hand_at s)
  unfolding kept_hand
  hand-kept k = let t = is-taken pid x₀ p a answered k in go (in_step x₀.last p) t.told
    where
      go : (u : Bool) → a ≡ Ok (cond u answer.Taken answer.Broken) → cond u x₀.hand [] ≡ take (cond (is_broken a) 0 held) (drop hand_at s)
      go true e = hand-said v₀ ∙ midway-hand last held s pid m ∙ ap (λ (b : Outcome). take (cond (is_broken b) 0 held) (drop hand_at s)) (sym e)
      go false e = ap (λ (b : Outcome). take (cond (is_broken b) 0 held) (drop hand_at s)) (sym e)

  pub kept-good : is_taken a ≡ true → is_head (take (cond (is_broken a) 0 held) (drop hand_at s)) ≡ true
  kept-good k = sym (ap is_head (hand-kept k)) ∙ kept-head x₀ p (ruled-head pid x₀ (midway-good last held s pid m).rule-kept)

  pub kept-few : cond (is_broken a) 0 held ≤ 4097
  kept-few = go (is_broken a)
    where
      go : (t : Bool) → cond t 0 held ≤ 4097
      go true = omega arith
      go false = midway-few last held s pid m

  pub clear_of : is_taken a ≡ true → packet_refusal pid p ≡ 0
  clear_of k = (is-taken pid x₀ p a answered k).clear

  -- what its payload came to is what it came to
  module _ (k : is_taken a ≡ true) (h : List ℕ) (e : kept_hand x₀ p ≡ h) (n i : ℕ) (s' out' : List ℕ) where
    outcome : fed pid x₀ p ≡ taken_by x₀ p
    outcome = fed-taken pid x₀ p (clear_of k) (is-taken pid x₀ p a answered k).new

    hands : (fed pid x₀ p).sections ≡ hands_on h (view_of p)
    hands = ap (λ (f : Fed). f.sections) outcome ∙ ap (λ (g : List ℕ). hands_on g (view_of p)) e

    next-is : next_state pid v₀ p ≡ laid_first (state_bytes (record { last = p; hand = leaves h (view_of p) })) v₀
    next-is =
        taken-left pid v₀ p (clear_of k) (is-taken pid x₀ p a answered k).new
        ∙ ap (λ (g : List ℕ). laid_first (state_bytes (record { last = p; hand = leaves g (view_of p) })) v₀) e

    -- so many are in hand then
    next-held : held_in (next_state pid v₀ p) ≡ length (leaves h (view_of p))
    next-held =
        sym (good-says pid (next_state pid v₀ p) (next-good pid v₀ p m.0)).all_there
        ∙ ap (λ (l : List ℕ). length l)
        (sym (hand-said (next_state pid v₀ p)) ∙ ap (λ (y : State). y.hand) (next-says pid v₀ p m.0) ∙ ap (λ (f : Fed). f.state.hand) outcome ∙ ap (λ (g : List ℕ). leaves g (view_of p)) e)

    pub stepped-on : n ≡ length (joined (hands_on h (view_of p))) → i ≡ length (leaves h (view_of p))
        → with_last p i s' ≡ laid_first (state_bytes (record { last = p; hand = leaves h (view_of p) })) s → out' ≡ laid_first (joined (hands_on h (view_of p))) out
        → Stepped pid v₀ s held p out a n i s' out'
    stepped-on f g b c = (
      answered,
      f ∙ ap (λ (ss : List (List ℕ)). length (joined ss)) (sym hands),
      g ∙ sym next-held,
      λ t. b ∙ laid_same p (leaves h (view_of p)) s v₀ (full pid p (clear_of k)) (midway-after last held s pid m) ∙ sym next-is,
      λ t. absurd (clash _ k t),
      c ∙ ap (λ (ss : List (List ℕ)). laid_first (joined ss) out) (sym hands),
    )

-- and after it: it is the last one, if it was taken
abbrev pub Next : (pid : ℕ) → (v p : List ℕ) → (held : ℕ) → (state : List ℕ) → Option (List ℕ) → Type 0
Next pid v p i s l = (midway l i s ≡ next_state pid v p) × Midway pid l i s

module _ (pid : ℕ) (last : Option (List ℕ)) (held : ℕ) (s : List ℕ) (m : Midway pid last held s) (p out : List ℕ) (a : Outcome) (n i : ℕ) (s' out' : List ℕ) where
  abbrev v₁ : List ℕ
  v₁ = midway last held s

  pub midway-next : Stepped pid v₁ s held p out a n i s' out' → (t : Bool) → is_taken a ≡ t → Next pid v₁ p i s' (cond t (Some p) last)
  midway-next w true k =
      let e = w.3 k in
      (e, (ap (state_good pid) e ∙ next-good pid v₁ p m.0, w.2 ∙ ap held_in (sym e), (is-taken pid (state_in v₁) p a w.0 k).clear))
  midway-next w false k =
      let e = ap₂ (λ (b : List ℕ) (d : ℕ). midway last d b) (w.4 k).0 (w.4 k).1 ∙ sym (next-stays pid v₁ p a w.0 k) in
      (e, (ap (state_good pid) e ∙ next-good pid v₁ p m.0, w.2 ∙ ap held_in (sym e), m.2))

-- A PLAIN ONE goes behind what is in hand, and nothing is handed on
pub stepped-plain : (pid : ℕ) (q : List ℕ) (held : ℕ) (s : List ℕ) → Midway pid (Some q) held s → (p out : List ℕ)
    → Plain pid q (take held (drop hand_at s)) p
    → Stepped pid (midway (Some q) held s) s held p out (Ok answer.Taken) 0 (held + 184) (laid_at s (hand_at + held) (drop 4 p)) out
stepped-plain pid q held s m p out f =
    let i = midway-there (Some q) held s pid m in
    let h = take held (drop hand_at s) in
    let j = plain-judged pid q h p f (full pid q m.2) in
    let n = plain_hands pid q h p f in
    let k = plain-long pid q h p f in
    let b = length-drop 4 p in
    let g = hand-most (leaves h (view_of p)) (leaves-head h (view_of p) (kept-good pid (Some q) held s m p out (Ok answer.Taken) j refl)) in
    stepped-on pid (Some q) held s m p out (Ok answer.Taken) j refl h (hand-kept pid (Some q) held s m p out (Ok answer.Taken) j refl) 0 (held + 184) _ out
    (sym none-long ∙ ap (λ (ss : List (List ℕ)). length (joined ss)) (sym n))
    (omega (arith, k, i))
    (ap (λ (c : ℕ). with_last p c (laid_at s (hand_at + held) (drop 4 p))) (omega_of held (length (drop 4 p)) b f.long)
    ∙ left_grown p s f.long held (drop 4 p) _ (omega (arith, midway-long (Some q) held s pid m, g, k, i, b, f.long)) (plain-leaves pid q h p f))
    (sym (none_laid out) ∙ ap (λ (ss : List (List ℕ)). laid_first (joined ss) out) (sym n))
  where
    omega_of : (a d : ℕ) → d ≡ length p - 4 → length p ≡ packet_length → a + 184 ≡ a + d
    omega_of a d e g = omega (arith, e, g)
