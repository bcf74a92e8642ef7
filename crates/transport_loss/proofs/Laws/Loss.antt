-- "FROM A WELL-FORMED STREAM WITHOUT REPEATS, A LOSS OF 1 TO 14 PAYLOAD PACKETS IN A ROW COSTS EXACTLY THE SECTIONS WITH A BYTE IN A LOST PACKET"
use Prim.Native.Nat.{ℕ, zero, suc, ◌+◌, ◌%◌, ◌≤◌, ◌<◌}
use mathlib.Core.Path.{◌≡◌, refl, sym, ap, ap₂, ◌∙◌}
use mathlib.Core.Bool.{Bool, true, false, not, cond, ◌||◌}
use mathlib.Core.List.{List, [], ◌∷◌, ◌++◌}
use native.Mathlib.Omega.{arith}
use lib.Dec.{eqb}
use borrow.Author.Tests.{eq-eqb, ne_eqb}
use Rattle.wire.specs.Fields.{byte_at}
use Rattle.wire.proofs.Laws.Copies.{same-is}
use Rattle.wire.proofs.Laws.Fields.{bits_lt}
use Rattle.wire.proofs.Laws.Tests.{both}
use Rattle.transport.specs.Packet.{View, view_of, packet_refusal}
use Rattle.wire.specs.Pieces.{is_none}
use Rattle.wire.specs.Copies.{same_numbers}
use Rattle.transport.specs.Feed.{State, Fed, fresh, is_repeat, weight, in_step, kept_hand, hands_on, leaves, handed_on}
use Rattle.transport_loss.specs.Stream.{Sent, idle, middle, final, start, shown, turned, sent_so_far, Fits, Aired, came, lost, WellSent, came_in}
use Rattle.transport_loss.specs.Stream.{ends_in, hurt_so_far, carried, spared, burden, Gaps, Losses}
use Rattle.transport.proofs.Laws.Feeding.{fed-taken, fed-repeat, not_none}
use Rattle.transport_loss.proofs.Laws.Carry.{out, next, Hand, hands_on_lem, hand_of, spared-both, ends-came, hand-came, ends-lost, hand-lost, hand-idle}

-- counters
pub counter_lt : (p : List ℕ) → (view_of p).counter < 16
unfolding view_of
counter_lt p = bits_lt 0 4 (byte_at p 3)

shown-counter : (c : ℕ) (x : Sent) → (shown c x).counter ≡ c
unfolding shown
shown-counter c idle = refl
shown-counter c (middle bs) = refl
shown-counter c (final bs n) = refl
shown-counter c (start d ws g n) = refl

shown-weight : (c : ℕ) (x : Sent) → weight (shown c x) ≡ burden x
unfolding shown
shown-weight c idle = refl
shown-weight c (middle bs) = refl
shown-weight c (final bs n) = refl
shown-weight c (start d ws g n) = refl

turns : (c : ℕ) (x : Sent) → c < 16 → turned c x ≡ (c + burden x) % 16
turns c idle l = omega arith
turns c (middle bs) l = refl
turns c (final bs n) l = refl
turns c (start d ws g n) l = refl

light : (x : Sent) → burden x ≤ 1
light idle = omega arith
light (middle bs) = omega arith
light (final bs n) = omega arith
light (start d ws g n) = omega arith

-- in step after no loss; out of step after 1 to 14
in_step_lem : (k c b : ℕ) → k < 16 → (k + 0) % 16 ≡ c → (c + b) % 16 ≡ (k + b) % 16
in_step_lem k c b l e = omega arith

out_of-step : (k g c b : ℕ) → k < 16 → 0 < g → g ≤ 14 → (k + g) % 16 ≡ c → (c + b) % 16 ≡ (k + b) % 16 → ⊥
out_of-step k g c b l p q e f = omega arith

-- a payload's counter is another than the last; one without payload has the last one's only after no loss
no-repeat : (k g c b : ℕ) → k < 16 → g ≤ 14 → (k + g) % 16 ≡ c → b ≤ 1 → k ≡ (c + b) % 16 → (b ≡ 0) × (g ≡ 0)
no-repeat k g c b l q e m f = (omega arith, omega arith)

-- A RECEIVER AND THE STREAM: k, the counter of the last packet that came; g payloads were lost since; c, the stream's counter; e, what can be in hand
pub record Ready (x : State) (c g : ℕ) (e : List ℕ) : Type 0 where
  pub some : is_none x.last ≡ false
  pub counted : ((view_of x.last).counter + g) % 16 ≡ c
  pub after_loss : 0 < g → e ≡ []
  pub no_loss : g ≡ 0 → x.hand ≡ e

module _ (x : State) (c g : ℕ) (e : List ℕ) (r : Ready x c g e) (few : g ≤ 14) (p : List ℕ) (s : Sent) (v : view_of p ≡ shown (turned c s) s) where
  c_lt : c < 16
  c_lt = let l = r.counted in omega arith

  p-counter : (view_of p).counter ≡ (c + burden s) % 16
  p-counter = ap (λ (w : View). w.counter) v ∙ shown-counter (turned c s) s ∙ turns c s c_lt

  p-weight : weight (view_of p) ≡ burden s
  p-weight = ap weight v ∙ shown-weight (turned c s) s

  -- the break is seen exactly where there was a loss, so that what is kept in hand is e
  pub keeps : kept_hand x p ≡ e
  unfolding kept_hand
  keeps = go g refl
    where
      step : in_step x.last p ≡ eqb ((c + burden s) % 16) (((view_of x.last).counter + burden s) % 16)
      step =
          ap (λ (t : Bool). t || eqb (view_of p).counter (((view_of x.last).counter + weight (view_of p)) % 16)) r.some
          ∙ ap₂ (λ (a b : ℕ). eqb a (((view_of x.last).counter + b) % 16)) p-counter p-weight

      go : (n : ℕ) → g ≡ n → cond (in_step x.last p) x.hand [] ≡ e
      go zero z =
          let f = r.counted in
          let t = in_step_lem (view_of x.last).counter c (burden s) (counter_lt x.last) (rw z at f) in
          rw (step, eq-eqb ((c + burden s) % 16) (((view_of x.last).counter + burden s) % 16) t) (r.no_loss z)
      go (suc n) z =
          let t = out_of-step (view_of x.last).counter g c (burden s) (counter_lt x.last) (omega arith) few r.counted in
          rw (step, ne_eqb ((c + burden s) % 16) (((view_of x.last).counter + burden s) % 16) t) (sym (r.after_loss (omega arith)))

  -- only a packet without payload can look like a repeat, and only after no loss
  pub repeats : is_repeat x p ≡ true → (burden s ≡ 0) × (g ≡ 0)
  repeats t =
      let q = same-is x.last p (both (not (is_none x.last)) (same_numbers x.last p) t).1 in
      no-repeat (view_of x.last).counter g c (burden s) (counter_lt x.last) few r.counted (light s) (ap (λ (w : List ℕ). (view_of w).counter) q ∙ p-counter)

-- a packet of the stream that is taken, with e in hand
took : (pid : ℕ) (x : State) (e h : List ℕ) (c : ℕ) (p : List ℕ) (s : Sent) (ps : List (List ℕ)) → packet_refusal pid p ≡ 0 → is_repeat x p ≡ false
    → kept_hand x p ≡ e → view_of p ≡ shown c s → Hand e h → Fits h s
    → handed_on pid x (p ∷ ps) ≡ out e s ++ handed_on pid (record { last = p; hand = next e s }) ps
unfolding handed_on
took pid x e h c p s ps z t q v k f =
    let o = hands_on_lem c e h s k f in
    let a : hands_on (kept_hand x p) (view_of p) ≡ out e s = ap₂ hands_on q v ∙ o.0 in
    let b : leaves (kept_hand x p) (view_of p) ≡ next e s = ap₂ leaves q v ∙ o.1 in
    ap (λ (w : Fed). w.sections ++ handed_on pid w.state ps) (fed-taken pid x p z t)
    ∙ ap₂ (λ (ss : List (List ℕ)) (g : List ℕ). ss ++ handed_on pid (record { last = p; hand = g }) ps) a b

-- what it leaves is ready for the next
left : (pid c : ℕ) (p : List ℕ) (s : Sent) (h : List ℕ) (l : Bool) → packet_refusal pid p ≡ 0 → view_of p ≡ shown c s → Fits h s
    → Ready (record { last = p; hand = next (cond l [] h) s }) c 0 (cond (hurt_so_far l false s) [] (sent_so_far h s))
left pid c p s h l z v f =
    let e : (view_of p).counter ≡ c = ap (λ (w : View). w.counter) v ∙ shown-counter c s in
    let b = counter_lt p in
    record { some = not_none pid p z; counted = omega arith; after_loss = λ q. absurd (omega arith); no_loss = λ q. sym (hand-came h l s f) }

-- the sections of the stream, one packet on
carried-came : (h : List ℕ) (l : Bool) (p : List ℕ) (s : Sent) (rs : List Aired) → Fits h s
    → spared (carried h l (came p s ∷ rs)) ≡ out (cond l [] h) s ++ spared (carried (sent_so_far h s) (hurt_so_far l false s) rs)
unfolding carried
carried-came h l p s rs f =
    spared-both (ends_in h l false s) (carried (sent_so_far h s) (hurt_so_far l false s) rs)
    ∙ ap (λ (ss : List (List ℕ)). ss ++ spared (carried (sent_so_far h s) (hurt_so_far l false s) rs)) (ends-came h l s f)

carried-lost : (h : List ℕ) (l : Bool) (p : List ℕ) (s : Sent) (rs : List Aired) → spared (carried h l (lost p s ∷ rs)) ≡ spared (carried (sent_so_far h s) (hurt_so_far l true s) rs)
unfolding carried
carried-lost h l p s rs =
    spared-both (ends_in h l true s) (carried (sent_so_far h s) (hurt_so_far l true s) rs)
    ∙ ap (λ (ss : List (List ℕ)). ss ++ spared (carried (sent_so_far h s) (hurt_so_far l true s) rs)) (ends-lost h l s)

-- a packet more is lost
lost_ready : (x : State) (c g : ℕ) (h : List ℕ) (l : Bool) (s : Sent) → Ready x c g (cond l [] h) → Ready x (turned c s) (g + burden s) (cond (hurt_so_far l true s) [] (sent_so_far h s))
lost_ready x c g h l s r = record { some = r.some; counted = counts; after_loss = gone; no_loss = here }
  where
    counts : ((view_of x.last).counter + (g + burden s)) % 16 ≡ turned c s
    counts = let e = r.counted in let b = turns c s (omega arith) in omega arith

    gone : 0 < g + burden s → cond (hurt_so_far l true s) [] (sent_so_far h s) ≡ []
    gone p = go (burden s) refl
      where
        go : (n : ℕ) → burden s ≡ n → cond (hurt_so_far l true s) [] (sent_so_far h s) ≡ []
        go zero z = hand-idle h l true s z ∙ r.after_loss (omega arith)
        go (suc n) z = hand-lost h l s (λ w. omega (arith, w, z))

    here : g + burden s ≡ 0 → x.hand ≡ cond (hurt_so_far l true s) [] (sent_so_far h s)
    here z = r.no_loss (omega arith) ∙ sym (hand-idle h l true s (omega arith))

-- a packet that is passed over, and what it left
again : (pid : ℕ) (x : State) (p : List ℕ) (ps : List (List ℕ)) → packet_refusal pid p ≡ 0 → is_repeat x p ≡ true → handed_on pid x (p ∷ ps) ≡ handed_on pid x ps
unfolding handed_on
again pid x p ps z t = ap (λ (w : Fed). w.sections ++ handed_on pid w.state ps) (fed-repeat pid x p z t)

again_ready : (x : State) (c g : ℕ) (h : List ℕ) (l : Bool) (s : Sent) → Ready x c g (cond l [] h) → burden s ≡ 0 → g ≡ 0 → Ready x (turned c s) 0 (cond (hurt_so_far l false s) [] (sent_so_far h s))
again_ready x c g h l s r b z =
    let e = r.counted in
    let t = turns c s (omega arith) in
    record { some = r.some; counted = omega arith; after_loss = λ q. absurd (omega arith); no_loss = λ q. r.no_loss z ∙ sym (hand-idle h l false s b) }

out-idle : (e : List ℕ) (s : Sent) → burden s ≡ 0 → out e s ≡ []
out-idle e idle z = refl
out-idle e (middle bs) z = absurd (omega arith)
out-idle e (final bs n) z = absurd (omega arith)
out-idle e (start d ws g n) z = absurd (omega arith)

at_end : (pid : ℕ) (x : State) (h : List ℕ) (l : Bool) → handed_on pid x [] ≡ spared (carried h l [])
unfolding handed_on carried spared
at_end pid x h l = refl

-- FROM A RECEIVER THAT IS READY
pub from_ready : (pid : ℕ) (rs : List Aired) (x : State) (c g : ℕ) (h : List ℕ) (l : Bool) → WellSent pid c h rs → Gaps g rs → Ready x c g (cond l [] h)
    → handed_on pid x (came_in rs) ≡ spared (carried h l rs)
unfolding came_in
from_ready pid [] x c g h l w m r = at_end pid x h l
from_ready pid (lost p s ∷ rs) x c g h l w m r =
    from_ready pid rs x (turned c s) (g + burden s) (sent_so_far h s) (hurt_so_far l true s) w.3 m (lost_ready x c g h l s r) ∙ sym (carried-lost h l p s rs)
from_ready pid (came p s ∷ rs) x c g h l w m r =
    go (is_repeat x p) refl
    (λ y q. from_ready pid rs y (turned c s) 0 (sent_so_far h s) (hurt_so_far l false s) w.3 m.1 q)
  where
    go : (t : Bool) → is_repeat x p ≡ t
        → ((y : State) → Ready y (turned c s) 0 (cond (hurt_so_far l false s) [] (sent_so_far h s)) → handed_on pid y (came_in rs) ≡ spared (carried (sent_so_far h s) (hurt_so_far l false s) rs))
        → handed_on pid x (p ∷ came_in rs) ≡ spared (carried h l (came p s ∷ rs))
    go false t ih =
        took pid x (cond l [] h) h (turned c s) p s (came_in rs) w.0 t (keeps x c g (cond l [] h) r m.0 p s w.1) w.1 (hand_of l h) w.2
        ∙ ap (λ (ss : List (List ℕ)). out (cond l [] h) s ++ ss) (ih (record { last = p; hand = next (cond l [] h) s }) (left pid (turned c s) p s h l w.0 w.1 w.2))
        ∙ sym (carried-came h l p s rs w.2)
    go true t ih =
        let q = repeats x c g (cond l [] h) r m.0 p s w.1 t in
        again pid x p (came_in rs) w.0 t
        ∙ ih x (again_ready x c g h l s r q.0 q.1)
        ∙ sym (carried-came h l p s rs w.2 ∙ ap (λ (ss : List (List ℕ)). ss ++ spared (carried (sent_so_far h s) (hurt_so_far l false s) rs)) (out-idle (cond l [] h) s q.0))

waiting : (p : List ℕ) → kept_hand fresh p ≡ []
unfolding kept_hand
waiting p = refl

-- FROM THE START, whatever was lost before the first packet that came. A stream that is joined inside a section begins with that section in hand, hurt.
pub from_start : (pid : ℕ) (rs : List Aired) (c : ℕ) (h : List ℕ) (l : Bool) → WellSent pid c h rs → Losses rs → cond l [] h ≡ []
    → handed_on pid fresh (came_in rs) ≡ spared (carried h l rs)
unfolding came_in
from_start pid [] c h l w m e = at_end pid fresh h l
from_start pid (lost p s ∷ rs) c h l w m e = from_start pid rs (turned c s) (sent_so_far h s) (hurt_so_far l true s) w.3 m (go (burden s) refl) ∙ sym (carried-lost h l p s rs)
  where
    go : (n : ℕ) → burden s ≡ n → cond (hurt_so_far l true s) [] (sent_so_far h s) ≡ []
    go zero z = hand-idle h l true s z ∙ e
    go (suc n) z = hand-lost h l s (λ v. omega (arith, v, z))
from_start pid (came p s ∷ rs) c h l w m e =
    took pid fresh (cond l [] h) h (turned c s) p s (came_in rs) w.0 refl (waits ∙ sym e) w.1 (hand_of l h) w.2
    ∙ ap (λ (ss : List (List ℕ)). out (cond l [] h) s ++ ss)
    (from_ready pid rs (record { last = p; hand = next (cond l [] h) s }) (turned c s) 0 (sent_so_far h s) (hurt_so_far l false s) w.3 m (left pid (turned c s) p s h l w.0 w.1 w.2))
    ∙ sym (carried-came h l p s rs w.2)
  where
    waits : kept_hand fresh p ≡ []
    waits = waiting p
