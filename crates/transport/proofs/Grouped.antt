-- "HOWEVER PACKETS ARE GROUPED IN CALLS, THE SAME SECTIONS COME OUT; A REFUSED PACKET DOESN'T STOP THE REST." 02, §2, over what the calls promise.
use Prim.Native.Nat.{ℕ}
use mathlib.Core.Path.{◌≡◌, refl, sym, ap, ap₂, ◌∙◌}
use mathlib.Core.Bool.{Bool, true, false, cond}
use mathlib.Core.List.{List, [], ◌∷◌, ◌++◌}
use Rattle.std.proofs.Common.{Err}
use native.Mathlib.Omega.{arith}
use lib.Dec.{eqb}
use lib.ListN.{take, replicate, length-replicate, get_or-replicate, replicate-append-replicate}
use lib.Seq.{take_at}
use Rattle.wire.specs.Copies.{same_numbers}
use Rattle.wire.specs.Items.{joined}
use Rattle.wire.proofs.Laws.Copies.{same_refl}
use Rattle.wire.proofs.Laws.Pieces.{Wide, wide_both, cut-back}
use Rattle.transport.specs.Packet.{packet_length, packet_refusal}
use Rattle.transport.specs.Feed.{State, fresh, fed, state_after, handed_on, packets_in}
use Rattle.transport.specs.State.{state_length, hand_at, most_in_hand, state_in, state_good}
use Rattle.transport.specs.Calls.{lent_refusal, next_state, feed_outcome, feed_state, states_over, gathered_packets, gather_state}
use Rattle.transport.specs.Grouped.{PacketCall, one, many, went_through, gave, left_by, all_through, all_given, left_last}
use Rattle.transport.proofs.Laws.Feeding.{state-both, sections-both, refused_away}
use Rattle.transport.proofs.Laws.States.{next-good, next-says, good-untouched, untouched-says}
use Rattle.transport.proofs.Laws.Calls.{one-section}

-- a good state stays good, and says what the packets make of it
module _ (pid : ℕ) where
  pub states_say : (s : List ℕ) (ps : List (List ℕ)) → state_good pid s ≡ true → (state_good pid (states_over pid s ps) ≡ true) × (state_in (states_over pid s ps) ≡ state_after pid (state_in s) ps)
  unfolding states_over state_after
  states_say s [] g = (g, refl)
  states_say s (p ∷ ps) g =
      let i = states_say (next_state pid s p) ps (next-good pid s p g) in
      (i.0, i.1 ∙ ap (λ (x : State). state_after pid x ps) (next-says pid s p g))

  -- ONE CALL: it gives the sections of the packets that it went through, and leaves what they leave
  pub record Does (s : List ℕ) (c : PacketCall) : Type 0 where
    pub gives : gave pid s c ≡ handed_on pid (state_in s) (went_through pid s c)
    pub good : state_good pid (left_by pid s c) ≡ true
    pub says : state_in (left_by pid s c) ≡ state_after pid (state_in s) (went_through pid s c)

  -- of one packet: nothing where it was refused for what was lent
  one_does : (s p : List ℕ) (room : ℕ) → state_good pid s ≡ true → (t : Bool) → eqb (lent_refusal pid s room) 0 ≡ t → Does s (one p room)
  unfolding gave went_through left_by feed_outcome feed_state handed_on state_after
  one_does s p room g true e =
      record {
        gives = ap (λ (t : Bool). (cond t (fed pid (state_in s) p) (record { state = state_in s; answer = Err (lent_refusal pid s room); sections = [] })).sections) e
            ∙ sym (ap (λ (t : Bool). handed_on pid (state_in s) (cond t (p ∷ []) [])) e ∙ one-section pid (state_in s) p);
        good = rw e (next-good pid s p g);
        says = rw e (next-says pid s p g);
      }
  one_does s p room g false e =
      record {
        gives = ap (λ (t : Bool). (cond t (fed pid (state_in s) p) (record { state = state_in s; answer = Err (lent_refusal pid s room); sections = [] })).sections) e
            ∙ sym (ap (λ (t : Bool). handed_on pid (state_in s) (cond t (p ∷ []) [])) e);
        good = rw e g;
        says = rw e refl;
      }

  pub call_does : (s : List ℕ) (c : PacketCall) → state_good pid s ≡ true → Does s c
  unfolding gave went_through left_by gather_state
  call_does s (one p room) g = one_does s p room g (eqb (lent_refusal pid s room) 0) refl
  call_does s (many xs room) g = let w = states_say s (gathered_packets pid s room xs) g in record { gives = refl; good = w.0; says = w.1 }

  -- CALLS, one after another: what they give depends on the packets that they went through alone, and not on how these were grouped
  pub grouping : (s : List ℕ) (cs : List PacketCall) → state_good pid s ≡ true
      → (all_given pid s cs ≡ handed_on pid (state_in s) (all_through pid s cs)) × (state_good pid (left_last pid s cs) ≡ true)
      × (state_in (left_last pid s cs) ≡ state_after pid (state_in s) (all_through pid s cs))
  unfolding all_given all_through left_last handed_on state_after
  grouping s [] g = (refl, g, refl)
  grouping s (c ∷ cs) g =
      let d = call_does s c g in
      let i = grouping (left_by pid s c) cs d.good in (
        ap₂ (λ (x y : List (List ℕ)). x ++ y) d.gives (i.0 ∙ ap (λ (x : State). handed_on pid x (all_through pid (left_by pid s c) cs)) d.says)
            ∙ sym (sections-both pid (state_in s) (went_through pid s c) (all_through pid (left_by pid s c) cs)),
        i.1,
        i.2 ∙ ap (λ (x : State). state_after pid x (all_through pid (left_by pid s c) cs)) d.says ∙ sym (state-both pid (state_in s) (went_through pid s c) (all_through pid (left_by pid s c) cs)),
      )

  -- two ways to group the same packets
  pub any_grouping : (s : List ℕ) (cs ds : List PacketCall) → state_good pid s ≡ true → all_through pid s cs ≡ all_through pid s ds
      → (all_given pid s cs ≡ all_given pid s ds) × (state_in (left_last pid s cs) ≡ state_in (left_last pid s ds))
  any_grouping s cs ds g e =
      let a = grouping s cs g in
      let b = grouping s ds g in
      (a.0 ∙ ap (handed_on pid (state_in s)) e ∙ sym b.0, a.2 ∙ ap (state_after pid (state_in s)) e ∙ sym b.2)

  -- a refused packet might as well not have come
  pub refused-between : (s : List ℕ) (cs ds : List PacketCall) (ps : List (List ℕ)) (p : List ℕ) (qs : List (List ℕ)) → state_good pid s ≡ true → (packet_refusal pid p ≡ 0 → ⊥)
      → all_through pid s cs ≡ ps ++ p ∷ qs → all_through pid s ds ≡ ps ++ qs → (all_given pid s cs ≡ all_given pid s ds) × (state_in (left_last pid s cs) ≡ state_in (left_last pid s ds))
  refused-between s cs ds ps p qs g n a b =
      let u = grouping s cs g in
      let v = grouping s ds g in
      let w = refused_away pid (state_in s) ps p qs n in (
        u.0 ∙ ap (handed_on pid (state_in s)) a ∙ w.0 ∙ ap (handed_on pid (state_in s)) (sym b) ∙ sym v.0,
        u.2 ∙ ap (state_after pid (state_in s)) a ∙ w.1 ∙ ap (state_after pid (state_in s)) (sym b) ∙ sym v.2,
      )

-- A STRETCH OF WHOLE PACKETS is cut into them, wherever one call ends and the next begins
pub cut_anywhere : (ps qs : List (List ℕ)) → Wide packet_length ps → Wide packet_length qs → packets_in (joined (ps ++ qs)) ≡ packets_in (joined ps) ++ packets_in (joined qs)
cut_anywhere ps qs a b =
    cut-back packet_length (ps ++ qs) (omega arith) (wide_both packet_length ps qs a b)
    ∙ sym (ap₂ (λ (x y : List (List ℕ)). x ++ y) (cut-back packet_length ps (omega arith) a) (cut-back packet_length qs (omega arith) b))

-- THE START: zeros say that nothing was taken yet
abbrev pub zeros : List ℕ
zeros = replicate state_length 0

pub zeros-good : (pid : ℕ) → state_good pid zeros ≡ true
zeros-good pid =
    good-untouched pid zeros (omega (arith, length-replicate {A = ℕ} state_length 0)) (get_or-replicate state_length 0 0 0 (omega arith))
    ∙ ap (λ (l : List ℕ). same_numbers l (replicate hand_at 0)) front
    ∙ same_refl (replicate hand_at 0)
  where
    front : take hand_at zeros ≡ replicate hand_at 0
    front = ap (take hand_at) (sym (replicate-append-replicate hand_at most_in_hand 0)) ∙ take_at (replicate hand_at 0) (replicate most_in_hand 0) hand_at (length-replicate {A = ℕ} hand_at 0)

pub zeros-fresh : state_in zeros ≡ fresh
zeros-fresh =
    untouched-says zeros (get_or-replicate state_length 0 0 0 (omega arith))
    (sym (good-untouched 0 zeros (omega (arith, length-replicate {A = ℕ} state_length 0)) (get_or-replicate state_length 0 0 0 (omega arith)))
    ∙ zeros-good 0)
