-- THE CALLS' ANSWERS, from the facts that code learns; and a stretch, one packet after another.
use Prim.Native.Nat.{ℕ, suc, ◌+◌, ◌-◌, ◌≤◌, ◌<◌, min}
use mathlib.Core.Path.{◌≡◌, refl, sym, ap, ap₂, subst, ◌∙◌}
use mathlib.Core.Bool.{Bool, true, false, not, cond}
use mathlib.Core.List.{List, [], ◌∷◌, ◌++◌, append_assoc}
use Rattle.std.proofs.Common.{Ok, Err}
use native.Mathlib.Omega.{arith}
use lib.Dec.{eqb, ltb}
use lib.ListN.{length, take, drop, length-append, length-drop, length-take, drop_of_length-le}
use lib.Seq.{take_at, drop_at, drop-drop, take-length}
use borrow.Author.Tests.{eq-eqb, ne_eqb, eqb-true, lt-ltb, le-ltb, ltb-false}
use Rattle.wire.specs.Items.{joined}
use Rattle.wire.specs.Outcomes.{answered}
use Rattle.wire.specs.Pieces.{laid_first}
use Rattle.wire.specs.Tests.{first_met}
use Rattle.wire.proofs.Laws.Outcomes.{is_refused}
use Rattle.wire.proofs.Laws.Meaning.{append-nil, joined-both}
use Rattle.wire.proofs.Laws.Pieces.{cut-none, cut_step, next_piece, next-rest}
use Rattle.transport.specs.declared.Handed.{Handed}
use Rattle.transport.specs.declared.Counts.{Counts}
use Rattle.transport.specs.Packet.{packet_length}
use Rattle.transport.specs.Feed.{Outcome, State, Fed, fed, state_after, handed_on, answers_of, packets_in, state_ruled}
use Rattle.transport.specs.State.{state_in, state_good}
use Rattle.transport.specs.Calls.{most_handed, lent_refusal, next_state, feed_outcome, feed_answer, feed_state, feed_out, fitting, states_over}
use Rattle.transport.specs.Calls.{gathered_packets, how_many, is_taken, is_repeated, is_broken, is_refused_with, tally}
use Rattle.transport.specs.Calls.{gathered_of, gather_answer, gather_state, gather_out}
use Rattle.transport.specs.Pieces.{counted_with, counted_as, Countable, most}
use Rattle.transport.proofs.Laws.Feeding.{state-both, sections-both, answers-both}
use Rattle.transport.proofs.Laws.Hands.{none-long, none_laid}
use Rattle.transport.proofs.Laws.Rule.{room, fed-ruled}
use Rattle.transport.proofs.Laws.States.{good-says, next-good, next-says}
use Rattle.transport.proofs.Laws.Taking.{laid-behind}
use Rattle.transport.proofs.Laws.Answers.{handed_by}
use Rattle.transport.proofs.Laws.Judged.{one-counted}

-- WHAT IS LENT
module _ (pid : ℕ) (s : List ℕ) (n : ℕ) where
  pub lent-1 : state_good pid s ≡ false → lent_refusal pid s n ≡ 1
  unfolding lent_refusal first_met
  lent-1 e = rw e

  pub lent-21 : state_good pid s ≡ true → n < most_handed → lent_refusal pid s n ≡ 21
  unfolding lent_refusal first_met
  lent-21 e l = rw (e, lt-ltb n most_handed l)

  pub lent-0 : state_good pid s ≡ true → most_handed ≤ n → lent_refusal pid s n ≡ 0
  unfolding lent_refusal first_met
  lent-0 e l = rw (e, le-ltb n most_handed l)

  pub lent_back : lent_refusal pid s n ≡ 0 → (state_good pid s ≡ true) × (most_handed ≤ n)
  unfolding lent_refusal first_met
  lent_back z = go (state_good pid s) (ltb n most_handed) refl z
    where
      go : (t u : Bool) → ltb n most_handed ≡ u → first_met ((1, not t) ∷ (21, u) ∷ []) ≡ 0 → (t ≡ true) × (most_handed ≤ n)
      go true false e f = (refl, ltb-false n most_handed e)
      go true true e f = absurd (omega arith)
      go false u e f = absurd (omega arith)

-- ONE PACKET
module _ (pid : ℕ) (s p out : List ℕ) (n : ℕ) (e : n ≡ lent_refusal pid s (length out)) where
  module _ (z : n ≡ 0 → ⊥) where
    refused : feed_outcome pid s (length out) p ≡ record { state = state_in s; answer = Err n; sections = [] }
    unfolding feed_outcome
    refused =
        rw (ne_eqb (lent_refusal pid s (length out)) 0 (λ w. z (e ∙ w)))
        (ap (λ (m : ℕ). record { state = state_in s; answer = Err m; sections = [] }) (sym e))

    pub feed-refused : (record { answer = Err n; size = 0 } ≡ feed_answer pid s (length out) p) × (s ≡ feed_state pid s (length out) p) × (out ≡ feed_out pid s p out)
    unfolding feed_answer feed_state feed_out
    feed-refused = (
      ap (λ (m : ℕ). record { answer = Err n; size = m }) (sym none-long) ∙ ap handed_by (sym refused),
      sym (ap (λ (t : Bool). cond t (next_state pid s p) s) (ne_eqb (lent_refusal pid s (length out)) 0 (λ w. z (e ∙ w)))),
      sym (none_laid out) ∙ ap (λ (w : Fed). laid_first (joined w.sections) out) (sym refused),
    )

  module _ (z : n ≡ 0) where
    taken-on : feed_outcome pid s (length out) p ≡ fed pid (state_in s) p
    unfolding feed_outcome
    taken-on = rw (eq-eqb (lent_refusal pid s (length out)) 0 (sym e ∙ z))

    pub feed-fed : (r : Handed) (after buffer : List ℕ) → r ≡ handed_by (fed pid (state_in s) p) → after ≡ next_state pid s p
        → buffer ≡ laid_first (joined (fed pid (state_in s) p).sections) out
        → (r ≡ feed_answer pid s (length out) p) × (after ≡ feed_state pid s (length out) p) × (buffer ≡ feed_out pid s p out)
    unfolding feed_answer feed_state feed_out
    feed-fed r after buffer a b c = (
      a ∙ ap handed_by (sym taken-on),
      b ∙ sym (ap (λ (t : Bool). cond t (next_state pid s p) s) (eq-eqb (lent_refusal pid s (length out)) 0 (sym e ∙ z))),
      c ∙ ap (λ (w : Fed). laid_first (joined w.sections) out) (sym taken-on),
    )

-- COUNTS
count-both : (t : Outcome → Bool) (rs bs : List Outcome) → how_many t (rs ++ bs) ≡ how_many t rs + how_many t bs
unfolding how_many
count-both t [] bs = omega arith
count-both t (a ∷ rs) bs = let i = count-both t rs bs in omega (arith, i)

one_more_lem : (t : Outcome → Bool) (rs : List Outcome) (a : Outcome) → how_many t (rs ++ a ∷ []) ≡ how_many t rs + cond (t a) 1 0
unfolding how_many
one_more_lem t rs a = count-both t rs (a ∷ []) ∙ ap (λ (n : ℕ). how_many t rs + n) (plus_none (cond (t a) 1 0))
  where
    plus_none : (n : ℕ) → n + 0 ≡ n
    plus_none n = omega arith

pub tally-more : (rs : List Outcome) (a : Outcome) → counted_with (tally rs) a ≡ tally (rs ++ a ∷ [])
unfolding tally counted_with
tally-more rs a =
    sym
    (λ i. record {
      taken = one_more_lem is_taken rs a i;
      repeated = one_more_lem is_repeated rs a i;
      broken = one_more_lem is_broken rs a i;
      refused40 = one_more_lem (is_refused_with 40) rs a i;
      refused41 = one_more_lem (is_refused_with 41) rs a i;
      refused42 = one_more_lem (is_refused_with 42) rs a i;
      refused43 = one_more_lem (is_refused_with 43) rs a i;
    })

-- a counter has one more, or stays
counter : (t : Bool) (n : ℕ) → cond t (n + 1) n ≡ n + cond t 1 0
counter true n = refl
counter false n = omega arith

pub counters : (c : Counts) (a b : Outcome) → b ≡ a
    → record {
      taken = cond (is_taken a) (c.taken + 1) c.taken;
      repeated = cond (is_repeated a) (c.repeated + 1) c.repeated;
      broken = cond (is_broken a) (c.broken + 1) c.broken;
      refused40 = cond (is_refused_with 40 a) (c.refused40 + 1) c.refused40;
      refused41 = cond (is_refused_with 41 a) (c.refused41 + 1) c.refused41;
      refused42 = cond (is_refused_with 42 a) (c.refused42 + 1) c.refused42;
      refused43 = cond (is_refused_with 43 a) (c.refused43 + 1) c.refused43;
    } ≡ counted_with c b
unfolding counted_with
counters c a b e =
    (λ i. record {
      taken = counter (is_taken a) c.taken i;
      repeated = counter (is_repeated a) c.repeated i;
      broken = counter (is_broken a) c.broken i;
      refused40 = counter (is_refused_with 40 a) c.refused40 i;
      refused41 = counter (is_refused_with 41 a) c.refused41 i;
      refused42 = counter (is_refused_with 42 a) c.refused42 i;
      refused43 = counter (is_refused_with 43 a) c.refused43 i;
    }) ∙ ap (counted_with c) (sym e)

-- no answer, all zeros
pub none-counted : (c : Counts)
    → (c.taken ≡ 0) × ((c.repeated ≡ 0) × ((c.broken ≡ 0) × ((c.refused40 ≡ 0) × ((c.refused41 ≡ 0) × ((c.refused42 ≡ 0) × (c.refused43 ≡ 0)))))) → tally [] ≡ c
unfolding tally how_many
none-counted c (a, (b, (d, (e, (f, (g, h)))))) =
    λ i. record {
      taken = sym a i;
      repeated = sym b i;
      broken = sym d i;
      refused40 = sym e i;
      refused41 = sym f i;
      refused42 = sym g i;
      refused43 = sym h i;
    }

-- another refusal leaves them all
pub uncounted : (c : Counts) (n : ℕ) → (n ≡ 40 → ⊥) → (n ≡ 41 → ⊥) → (n ≡ 42 → ⊥) → (n ≡ 43 → ⊥) → c ≡ counted_with c (Err n)
uncounted c n w x y z = rw (← counters c (Err n) _ refl, ne_eqb n 40 w, ne_eqb n 41 x, ne_eqb n 42 y, ne_eqb n 43 z) refl

count_most : (t : Outcome → Bool) (rs : List Outcome) → how_many t rs ≤ length rs
unfolding how_many
count_most t [] = omega arith
count_most t (a ∷ rs) = let i = count_most t rs in let b = small (t a) in omega (arith, i, b)
  where
    small : (u : Bool) → cond u 1 0 ≤ 1
    small true = omega arith
    small false = omega arith

pub countable : (rs : List Outcome) → length rs < most → Countable (tally rs)
unfolding tally
countable rs l = (under is_taken, under is_repeated, under is_broken, under (is_refused_with 40), under (is_refused_with 41), under (is_refused_with 42), under (is_refused_with 43))
  where
    under : (t : Outcome → Bool) → how_many t rs < most
    under t = let c = count_most t rs in omega (arith, c, l)

answers-long : (pid : ℕ) (x : State) (ps : List (List ℕ)) → length (answers_of pid x ps) ≡ length ps
unfolding answers_of
answers-long pid x [] = refl
answers-long pid x (p ∷ ps) = ap suc (answers-long pid (fed pid x p).state ps)

-- A STRETCH, so far: the packets that were passed, one by one, and what they left
pub record Going (pid : ℕ) (s₀ out₀ xs s out : List ℕ) (counts : Counts) (passed size : ℕ) : Type 0 where
  pub done : List (List ℕ)
  pub split : packets_in xs ≡ done ++ packets_in (drop passed xs)
  pub far : passed ≡ length (joined done)
  pub inside : passed ≤ length xs
  pub few : length done ≤ passed
  pub good : state_good pid s ≡ true
  pub says : state_in s ≡ state_after pid (state_in s₀) done
  pub left : s ≡ states_over pid s₀ done
  pub sized : size ≡ length (joined (handed_on pid (state_in s₀) done))
  pub room-left : size ≤ length out₀
  pub laid : out ≡ laid_first (joined (handed_on pid (state_in s₀) done)) out₀
  pub as_long : length out ≡ length out₀
  pub tallied : counts ≡ tally (answers_of pid (state_in s₀) done)
  pub fits : fitting pid (length out₀) (state_in s₀) (packets_in xs) ≡ length done + fitting pid (length out₀ - size) (state_in s) (packets_in (drop passed xs))

pub going-first : (pid : ℕ) (s out xs : List ℕ) → state_good pid s ≡ true → Going pid s out xs s out (tally []) 0 0
unfolding state_after states_over handed_on answers_of joined
going-first pid s out xs g =
    record {
      done = [];
      split = refl;
      far = refl;
      inside = omega arith;
      few = omega arith;
      good = g;
      says = refl;
      left = refl;
      sized = refl;
      room-left = omega arith;
      laid = refl;
      as_long = refl;
      tallied = refl;
      fits = let e : length out ≡ length out - 0 = omega arith in let r = ap (λ (n : ℕ). fitting pid n (state_in s) (packets_in xs)) e in omega (arith, r);
    }

states-both : (pid : ℕ) (s : List ℕ) (ps qs : List (List ℕ)) → states_over pid s (ps ++ qs) ≡ states_over pid (states_over pid s ps) qs
unfolding states_over
states-both pid s [] qs = refl
states-both pid s (p ∷ ps) qs = states-both pid (next_state pid s p) ps qs

-- one packet alone
module _ (pid : ℕ) (x : State) (p : List ℕ) where
  pub one-section : handed_on pid x (p ∷ []) ≡ (fed pid x p).sections
  unfolding handed_on
  one-section = append-nil (fed pid x p).sections

  pub one-after : state_after pid x (p ∷ []) ≡ (fed pid x p).state
  unfolding state_after
  one-after = refl

  one_answer : answers_of pid x (p ∷ []) ≡ (fed pid x p).answer ∷ []
  unfolding answers_of
  one_answer = refl

one_left : (pid : ℕ) (s p : List ℕ) → states_over pid s (p ∷ []) ≡ next_state pid s p
unfolding states_over
one_left pid s p = refl

one-fits : (pid n : ℕ) (x : State) (p : List ℕ) (ps : List (List ℕ)) → most_handed ≤ n
    → fitting pid n x (p ∷ ps) ≡ suc (fitting pid (n - length (joined (fed pid x p).sections)) (fed pid x p).state ps)
unfolding fitting
one-fits pid n x p ps l = rw (le-ltb n most_handed l)

none-fits : (pid n : ℕ) (x : State) (ps : List (List ℕ)) → n < most_handed → fitting pid n x ps ≡ 0
unfolding fitting
none-fits pid n x [] l = refl
none-fits pid n x (p ∷ ps) l = rw (lt-ltb n most_handed l)

none_left : (pid n : ℕ) (x : State) → fitting pid n x [] ≡ 0
unfolding fitting
none_left pid n x = refl

joined-one : (ps : List (List ℕ)) (p : List ℕ) → length (joined (ps ++ p ∷ [])) ≡ length (joined ps) + length p
unfolding joined
joined-one ps p =
    let a = ap (λ (l : List ℕ). length l) (joined-both ps (p ∷ [])) in
    let b = length-append (joined ps) (p ++ []) in
    let c = length-append p [] in
    omega (arith, a, b, c)

-- what was counted so far can be counted on: there are no more packets than bytes
pub countable-so_far : (pid : ℕ) (s₀ out₀ xs s out : List ℕ) (counts : Counts) (passed size : ℕ) → Going pid s₀ out₀ xs s out counts passed size → passed < most → Countable counts
countable-so_far pid s₀ out₀ xs s out counts passed size g l =
    subst Countable (sym g.tallied) (countable (answers_of pid (state_in s₀) g.done) (omega (arith, answers-long pid (state_in s₀) g.done, g.few, l)))

-- ONE PACKET MORE
module _ (pid : ℕ) (s₀ out₀ xs s out : List ℕ) (counts : Counts) (passed size : ℕ) (g : Going pid s₀ out₀ xs s out counts passed size)
    (more : passed < length xs) (fit : most_handed ≤ length out₀ - size) where
  abbrev p : List ℕ
  p = take packet_length (drop passed xs)

  abbrev f : Fed
  f = fed pid (state_in s) p

  abbrev ps : List (List ℕ)
  ps = g.done ++ p ∷ []

  rest-long : length (drop passed xs) ≡ length xs - passed
  rest-long = length-drop passed xs

  piece-long : length p ≡ min packet_length (length xs - passed)
  piece-long = length-take packet_length (drop passed xs) ∙ ap (min packet_length) rest-long

  pub going_next : (end : ℕ) → end ≡ passed + min packet_length (length xs - passed) → (next : Counts) → next ≡ counted_with counts f.answer → (m : ℕ) → m ≡ length (joined f.sections)
      → (after buffer : List ℕ) → after ≡ next_state pid s p → buffer ≡ take size out ++ laid_first (joined f.sections) (drop size out) → Going pid s₀ out₀ xs after buffer next end (size + m)
  going_next end e next c m n after buffer a b =
      record {
        done = ps;
        split = g.split ∙ ap (λ (qs : List (List ℕ)). g.done ++ qs)
            (cut_step packet_length (drop passed xs) (omega arith) (omega (arith, rest-long, more)) ∙ ap (λ (r : List ℕ). p ∷ packets_in r) there)
            ∙ sym (append_assoc g.done (p ∷ []) (packets_in (drop end xs)));
        far = omega (arith, e, piece-long, joined-one g.done p, g.far);
        inside = omega (arith, e, more);
        few = omega (arith, e, more, length-append g.done (p ∷ []), g.few);
        good = ap (state_good pid) a ∙ next-good pid s p g.good;
        says = ap state_in a ∙ next-says pid s p g.good ∙ ap (λ (x : State). (fed pid x p).state) g.says ∙ sym (state-both pid (state_in s₀) g.done (p ∷ []) ∙ one-after pid _ p);
        left = a ∙ ap (λ (x : List ℕ). next_state pid x p) g.left ∙ sym (states-both pid s₀ g.done (p ∷ []) ∙ one_left pid _ p);
        sized = omega (arith, n, g.sized, sections-long);
        room-left = omega (arith, n, fit, most_of);
        laid = b ∙ put ∙ ap (λ (l : List ℕ). laid_first l out₀) (sym sections_are);
        as_long = buffer-long;
        tallied = c
            ∙ ap₂ counted_with g.tallied (ap (λ (x : State). (fed pid x p).answer) g.says)
            ∙ tally-more (answers_of pid (state_in s₀) g.done) _
            ∙ ap tally (sym (answers-both pid (state_in s₀) g.done (p ∷ []) ∙ ap (λ (l : List Outcome). answers_of pid (state_in s₀) g.done ++ l) (one_answer pid _ p)));
        fits = omega (arith, g.fits, fits_one, length-append g.done (p ∷ []));
      }
    where
      there : drop packet_length (drop passed xs) ≡ drop end xs
      there = sym (next-rest packet_length xs passed more) ∙ ap (λ (k : ℕ). drop k xs) (sym e)

      sections_are : joined (handed_on pid (state_in s₀) ps) ≡ joined (handed_on pid (state_in s₀) g.done) ++ joined f.sections
      sections_are =
          ap joined (sections-both pid (state_in s₀) g.done (p ∷ []))
          ∙ joined-both (handed_on pid (state_in s₀) g.done) _
          ∙ ap (λ (l : List (List ℕ)). joined (handed_on pid (state_in s₀) g.done) ++ joined l) (one-section pid _ p ∙ ap (λ (x : State). (fed pid x p).sections) (sym g.says))

      sections-long : length (joined (handed_on pid (state_in s₀) ps)) ≡ length (joined (handed_on pid (state_in s₀) g.done)) + length (joined f.sections)
      sections-long = ap (λ (l : List ℕ). length l) sections_are ∙ length-append (joined (handed_on pid (state_in s₀) g.done)) (joined f.sections)

      most_of : length (joined f.sections) ≤ 4281
      most_of = room pid (state_in s) p (good-says pid s g.good).rule-kept

      put : take size out ++ laid_first (joined f.sections) (drop size out) ≡ laid_first (joined (handed_on pid (state_in s₀) g.done) ++ joined f.sections) out₀
      put =
          ap₂ (λ (k : ℕ) (o : List ℕ). take k o ++ laid_first (joined f.sections) (drop k o)) g.sized g.laid
          ∙ laid-behind out₀ (joined (handed_on pid (state_in s₀) g.done)) (joined f.sections) (omega (arith, g.sized, g.room-left))

      buffer-long : length buffer ≡ length out₀
      buffer-long =
          let j = joined (handed_on pid (state_in s₀) g.done) ++ joined f.sections in
          let q = ap (λ (l : List ℕ). length l) (b ∙ put) in
          let k = length-append j (drop (length j) out₀) in
          let d = length-drop (length j) out₀ in
          let i = length-append (joined (handed_on pid (state_in s₀) g.done)) (joined f.sections) in
          omega (arith, q, k, d, i, g.sized, fit, most_of)

      fits_one : fitting pid (length out₀ - size) (state_in s) (packets_in (drop passed xs)) ≡ suc (fitting pid (length out₀ - (size + m)) (state_in after) (packets_in (drop end xs)))
      fits_one =
          let q : length out₀ - size - length (joined f.sections) ≡ length out₀ - (size + m) = omega (arith, n) in
          ap (fitting pid (length out₀ - size) (state_in s)) (cut_step packet_length (drop passed xs) (omega arith) (omega (arith, rest-long, more)) ∙ ap (λ (r : List ℕ). p ∷ packets_in r) there)
          ∙ one-fits pid (length out₀ - size) (state_in s) p (packets_in (drop end xs)) fit
          ∙ ap₂ (λ (k : ℕ) (x : State). suc (fitting pid k x (packets_in (drop end xs)))) q (sym (ap state_in a ∙ next-says pid s p g.good))

-- a piece that was cut off the front of what is left
module _ (xs p rest : List ℕ) (at : ℕ) (e : drop at xs ≡ p ++ rest) (l : length p ≡ min packet_length (length (drop at xs))) (z : 0 < length (drop at xs)) where
  pub piece-more : at < length xs
  piece-more = let d = length-drop at xs in omega (arith, d, z)

  pub piece-end : at + length p ≡ at + min packet_length (length xs - at)
  piece-end = ap (λ (n : ℕ). at + n) (l ∙ ap (min packet_length) (length-drop at xs))

  pub piece-is : p ≡ take packet_length (drop at xs)
  piece-is =
      sym (ap (take (length p)) e ∙ take_at p rest (length p) refl)
      ∙ ap (λ (n : ℕ). take n (drop at xs)) (l ∙ ap (min packet_length) (length-drop at xs))
      ∙ next_piece packet_length xs at piece-more

  pub piece-rest : rest ≡ drop (at + length p) xs
  piece-rest = sym (sym (drop-drop (length p) at xs) ∙ ap (drop (length p)) e ∙ drop_at p rest (length p) refl)

-- ALL THAT WAS PASSED: where no packet more fits, or there is none
module _ (pid : ℕ) (s₀ out₀ xs s out : List ℕ) (counts : Counts) (passed size : ℕ) (g : Going pid s₀ out₀ xs s out counts passed size) where
  pub stops_full : length out₀ - size < most_handed → fitting pid (length out₀ - size) (state_in s) (packets_in (drop passed xs)) ≡ 0
  stops_full l = none-fits pid (length out₀ - size) (state_in s) (packets_in (drop passed xs)) l

  pub stops_end : length xs ≤ passed → fitting pid (length out₀ - size) (state_in s) (packets_in (drop passed xs)) ≡ 0
  stops_end l =
      ap (λ (r : List ℕ). fitting pid (length out₀ - size) (state_in s) (packets_in r)) (drop_of_length-le xs {i = passed} l)
      ∙ ap (fitting pid (length out₀ - size) (state_in s)) (cut-none packet_length)
      ∙ none_left pid (length out₀ - size) (state_in s)

  module _ (z : fitting pid (length out₀ - size) (state_in s) (packets_in (drop passed xs)) ≡ 0) (k : lent_refusal pid s₀ (length out₀) ≡ 0) where
    all-passed : gathered_packets pid s₀ (length out₀) xs ≡ g.done
    unfolding gathered_packets
    all-passed =
        let n : fitting pid (length out₀) (state_in s₀) (packets_in xs) ≡ length g.done = omega (arith, g.fits, z) in
        rw (eq-eqb (lent_refusal pid s₀ (length out₀)) 0 k) (ap₂ take n g.split ∙ take_at g.done (packets_in (drop passed xs)) (length g.done) refl)

    pub gather-done : (record { passed = passed; size = size; counts = counts } ≡ gathered_of pid s₀ (length out₀) xs)
        × (s ≡ gather_state pid s₀ (length out₀) xs) × (out ≡ gather_out pid s₀ xs out₀)
    unfolding gathered_of gather_state gather_out
    gather-done = (
      (λ i. record { passed = g.far i; size = g.sized i; counts = g.tallied i })
          ∙ ap (λ (ps : List (List ℕ)). record {
            passed = length (joined ps);
            size = length (joined (handed_on pid (state_in s₀) ps));
            counts = tally (answers_of pid (state_in s₀) ps);
          }) (sym all-passed),
      g.left ∙ ap (states_over pid s₀) (sym all-passed),
      g.laid ∙ ap (λ (ps : List (List ℕ)). laid_first (joined (handed_on pid (state_in s₀) ps)) out₀) (sym all-passed),
    )

-- WHERE IT IS REFUSED
module _ (pid : ℕ) (s out xs : List ℕ) (n : ℕ) (e : n ≡ lent_refusal pid s (length out)) (z : n ≡ 0 → ⊥) where
  none_passed : gathered_packets pid s (length out) xs ≡ []
  unfolding gathered_packets
  none_passed = rw (ne_eqb (lent_refusal pid s (length out)) 0 (λ w. z (e ∙ w)))

  pub gather-refused : (Err n ≡ gather_answer pid s (length out) xs) × (s ≡ gather_state pid s (length out) xs) × (out ≡ gather_out pid s xs out)
  unfolding gather_answer gather_state gather_out joined handed_on states_over
  gather-refused = (
    ap Err e ∙ sym (is_refused _ (gathered_of pid s (length out) xs) (λ w. z (e ∙ w))),
    ap (states_over pid s) (sym none_passed),
    ap (λ (ps : List (List ℕ)). laid_first (joined (handed_on pid (state_in s) ps)) out) (sym none_passed),
  )

-- AND WHERE IT IS NOT
pub gather-passed : (pid : ℕ) (s : List ℕ) (room : ℕ) (xs : List ℕ) → lent_refusal pid s room ≡ 0 → Ok (gathered_of pid s room xs) ≡ gather_answer pid s room xs
unfolding gather_answer
gather-passed pid s room xs k = ap (λ (n : ℕ). answered n (gathered_of pid s room xs)) (sym k)

-- ONE PACKET OF 188 BYTES as a stretch
module _ (pid : ℕ) (s p out : List ℕ) (k : lent_refusal pid s (length out) ≡ 0) (e : length p ≡ packet_length) where
  one_piece : packets_in p ≡ p ∷ []
  one_piece =
      cut_step packet_length p (omega arith) (omega (arith, e))
      ∙ ap₂ (λ (q r : List ℕ). q ∷ packets_in r) (ap (λ (n : ℕ). take n p) (sym e) ∙ take-length p) (drop_of_length-le p {i = packet_length} (omega (arith, e)))
      ∙ ap (λ (qs : List (List ℕ)). p ∷ qs) (cut-none packet_length)

  one_gathered : gathered_packets pid s (length out) p ≡ p ∷ []
  unfolding gathered_packets fitting
  one_gathered =
      let l = (lent_back pid s (length out) k).1 in
      rw (eq-eqb (lent_refusal pid s (length out)) 0 k, one_piece, one-fits pid (length out) (state_in s) p [] l) refl

  pub one_told : (record { answer = counted_as (gathered_of pid s (length out) p).counts; size = (gathered_of pid s (length out) p).size } ≡ handed_by (fed pid (state_in s) p))
      × (gather_state pid s (length out) p ≡ next_state pid s p) × (gather_out pid s p out ≡ laid_first (joined (fed pid (state_in s) p).sections) out)
  unfolding gathered_of gather_state gather_out
  one_told = (
    ap (λ (ps : List (List ℕ)). record { answer = counted_as (tally (answers_of pid (state_in s) ps)); size = length (joined (handed_on pid (state_in s) ps)) }) one_gathered
        ∙ ap₂ (λ (as' : List Outcome) (ss : List (List ℕ)). record { answer = counted_as (tally as'); size = length (joined ss) }) (one_answer pid (state_in s) p) (one-section pid (state_in s) p)
        ∙ ap (λ (a : Outcome). record { answer = a; size = length (joined (fed pid (state_in s) p).sections) }) (one-counted pid (state_in s) p e),
    ap (states_over pid s) one_gathered ∙ one_left pid s p,
    ap (λ (ps : List (List ℕ)). laid_first (joined (handed_on pid (state_in s) ps)) out) one_gathered ∙ ap (λ (ss : List (List ℕ)). laid_first (joined ss) out) (one-section pid (state_in s) p),
  )

-- WHAT IS HANDED ON HAS ROOM
fits-room : (pid n : ℕ) (x : State) (ps : List (List ℕ)) → state_ruled pid x ≡ true → length (joined (handed_on pid x (take (fitting pid n x ps) ps))) ≤ n
unfolding fitting handed_on joined
fits-room pid n x [] r = omega arith
fits-room pid n x (p ∷ ps) r = go (ltb n most_handed) refl (fits-room pid (n - length (joined (fed pid x p).sections)) (fed pid x p).state ps (fed-ruled pid x p r))
  where
    f : Fed
    f = fed pid x p

    go : (t : Bool) → ltb n most_handed ≡ t
        → length (joined (handed_on pid f.state (take (fitting pid (n - length (joined f.sections)) f.state ps) ps))) ≤ n - length (joined f.sections)
        → length (joined (handed_on pid x (take (cond t 0 (suc (fitting pid (n - length (joined f.sections)) f.state ps))) (p ∷ ps)))) ≤ n
    go true e i = omega arith
    go false e i =
        let qs = handed_on pid f.state (take (fitting pid (n - length (joined f.sections)) f.state ps) ps) in
        let a = ap (λ (l : List ℕ). length l) (joined-both f.sections qs) in
        let b = length-append (joined f.sections) (joined qs) in
        let m = room pid x p r in
        let l = ltb-false n most_handed e in
        omega (arith, i, a, b, m, l)

none_fit : (pid : ℕ) (x : State) (n : ℕ) → length (joined (handed_on pid x [])) ≤ n
unfolding handed_on joined
none_fit pid x n = omega arith

pub gather-room : (pid : ℕ) (s : List ℕ) (n : ℕ) (xs : List ℕ) → (gathered_of pid s n xs).size ≤ n
unfolding gathered_of gathered_packets
gather-room pid s n xs = go (eqb (lent_refusal pid s n) 0) refl
  where
    go : (t : Bool) → eqb (lent_refusal pid s n) 0 ≡ t → length (joined (handed_on pid (state_in s) (cond t (take (fitting pid n (state_in s) (packets_in xs)) (packets_in xs)) []))) ≤ n
    go true e = fits-room pid n (state_in s) (packets_in xs) (good-says pid s (lent_back pid s n (eqb-true (lent_refusal pid s n) 0 e)).0).rule-kept
    go false e = none_fit pid (state_in s) n

-- the first bytes of the buffer are what was handed on
pub gather-front : (pid : ℕ) (s xs out : List ℕ) → take (gathered_of pid s (length out) xs).size (gather_out pid s xs out) ≡ joined (handed_on pid (state_in s)
    (gathered_packets pid s (length out) xs))
unfolding gathered_of gather_out
gather-front pid s xs out = take_at (joined (handed_on pid (state_in s) (gathered_packets pid s (length out) xs))) _ _ refl

-- the same of any room
pub gather-size : (pid : ℕ) (s : List ℕ) (n : ℕ) (xs : List ℕ) → length (joined (handed_on pid (state_in s) (gathered_packets pid s n xs))) ≤ n
unfolding gathered_of
gather-size pid s n xs = gather-room pid s n xs

sized-room : (pid : ℕ) (s xs out : List ℕ) → length (joined (handed_on pid (state_in s) (gathered_packets pid s (length out) xs))) ≤ length out
sized-room pid s xs out = gather-size pid s (length out) xs

pub gather-long : (pid : ℕ) (s xs out : List ℕ) → length (gather_out pid s xs out) ≡ length out
unfolding gather_out
gather-long pid s xs out =
    let j = joined (handed_on pid (state_in s) (gathered_packets pid s (length out) xs)) in
    let a = length-append j (drop (length j) out) in
    let d = length-drop (length j) out in
    let r = sized-room pid s xs out in
    omega (arith, a, d, r)
