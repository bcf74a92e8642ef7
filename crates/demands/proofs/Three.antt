-- DEMAND 3. 00 says:
--
--   "Begin from a just accepted new announcement, with one record and one image, carried from call to call and written by nobody but these calls. From that same start
--   take two runs, each being the sections its calls took, with no further new announcement. If both hold the same data sections for one announced module, in the same
--   order, then that module's answers, its stored bytes and its missing blocks are the same in both, whatever else came. It is complete exactly when every block of its
--   announced version came in a matching section, and its bytes are then those blocks' data in block order, each as it first matched; and if matching repeats agree,
--   order and repeats don't alter its bytes."
--
-- and 02 §5:
--
--   "Demand 3 reads from the last announcement that emptied the module, and admits further new announcements that keep it, provided both runs hold the same new ones, in
--   the same order and at the same places among that module's sections; those that answer "same" are free as before."
--
-- Here k is a module's number, and x the record and image that a call left which answered "new" and did not keep module k (Emptied); the record before may have been any
-- that keeps its rule, the image any bytes of any length. The runs ss and us are lists of sections, any bytes: application tables, refused sections, other modules'
-- blocks, announcements. Keeps says that each call of the run that answered "new" left the same module k as it found. The words are defined in specs/Demand.antt, one by
-- one. What 00 says of runs with no further new announcement is a case of it: Quiet.antt.
--
-- What these theorems do not exclude by themselves: a receiver that refuses everything, or answers "new" to everything. Demand 2's exact acceptance does (Two.antt).
use Prim.Native.Nat.{ℕ, ◌<◌}
use mathlib.Core.Path.{◌≡◌, refl, sym, ap, ap₂, subst, ◌∙◌}
use mathlib.Core.Bool.{true, not, cond}
use mathlib.Core.Logic.{◌↔◌}
use mathlib.Core.List.{List, [], ◌∷◌, ◌++◌}
use native.Mathlib.Omega.{arith}
use lib.Dec.{eqb}
use lib.ListN.{length}
use borrow.Author.Tests.{ne_eqb}
use Rattle.wire.specs.Tests.{first_met}
use Rattle.wire.proofs.Laws.Tests.{both}
use Rattle.carousel_messages.specs.Heard.{Announced, Arrived, Heard, refusal, announced, arrived, heard_of}
use Rattle.carousel_record.specs.Blocks.{blocks_of, block_length_of}
use Rattle.carousel_record.specs.Record.{record_of, module_at, place_of, module_part, missing_of, ruled_of}
use Rattle.carousel_record.specs.Refusals.{meets13, meets15}
use Rattle.carousel_record.proofs.Laws.Tests.{joint}
use Rattle.carousel_record.proofs.Laws.Places.{number_at}
use Rattle.carousel_handout.specs.Calls.{handout_number, handed_out}
use Rattle.carousel_step.specs.Step.{meets12, stepped_of}
use Rattle.carousel_step.specs.Matching.{block_for, heard_for, Matching}
use Rattle.carousel_step.proofs.Matching.{matching_means}
use Rattle.receiver.specs.Run.{Held, given, carousel_fate, walk}
use Rattle.demands.specs.Demand.{fate_of, told, place_now, blocks, is_for, matches, bytes_in, missing_in, is_complete, HasRoom, Emptied, keeps_one, keeps_all, Keeps, trace, answers_for}
use Rattle.demands.specs.Demand.{Matched, Came, OfModule, heard_module, RepeatsAgree, FoundIn, Call, called, took_by}
use Rattle.demands.proofs.Given.{saying, for_fate}
use Rattle.demands.proofs.Alike.{Alike, alike_sym, alike_trans, alike-bytes, alike_missing}
use Rattle.demands.proofs.Walks.{kept_in, alone}
use Rattle.demands.proofs.After.{emptied-ruled, stays, complete-came, complete-bytes, handed-came, handed-bytes, same_content}
use Rattle.demands.proofs.Calls.{called_walks_any}

-- the front of a run that keeps the module keeps it
pub keeps-front : (x : Held) (k : ℕ) (us rest : List (List ℕ)) → Keeps x k (us ++ rest) → Keeps x k us
unfolding keeps_all
keeps-front x k [] rest e = refl
keeps-front x k (u ∷ us) rest e =
    let h = both (keeps_one x k u) (keeps_all (given x u) k (us ++ rest)) e in
    joint (keeps_one x k u) (keeps_all (given x u) k us) h.0 (keeps-front (given x u) k us rest h.1)

-- two announcements of one download: the same sections are for the modules with one number
for-number : (a b : Announced) → 0 < length a.modules → 0 < length b.modules → a.download ≡ b.download → (i j : ℕ) → (module_at a i).number ≡ (module_at b j).number → (h : Heard)
    → heard_for a i h ≡ heard_for b j h
unfolding heard_for block_for meets12
for-number a b p q e i j f (refusal m) = refl
for-number a b p q e i j f (announced c) = refl
for-number a b p q e i j f (arrived d) = rw (ne_eqb (length a.modules) 0 (λ z. omega arith), ne_eqb (length b.modules) 0 (λ z. omega arith), e, f)

module _ (x : Held) (k : ℕ) (start : Emptied x k) where
  abbrev ok : ruled_of x.state ≡ true
  ok = emptied-ruled x k start

  -- MATCHING, spelled out, at any call of a run that keeps the module, by the announcement then in force and the image then lent: it is a data section of the announced
  -- download, with the module's number and announced version, block b of the module's blocks, of that block's length, and the image holds the sizes together.
  pub matching : (ss : List (List ℕ)) → Keeps x k ss → (b : ℕ) (s : List ℕ)
      → (matches (walk x ss) k b s ≡ true) ↔ ((d : Arrived) × (heard_of s ≡ arrived d) × Matching (told (walk x ss)) (length (walk x ss).image) (place_now (walk x ss) k) b d)
  matching ss n b s =
      let w = stays x k start ss n in
      let t = w.same.now in
      matching_means (told (walk x ss)) (kept_in (walk x ss) w.ruled (omega arith)).numbers (length (walk x ss).image) (place_now (walk x ss) k) b t (heard_of s)

  -- Which sections are for the module does not change while it is kept; of what "matching" looks at, 15 alone does: whether the image holds the sizes together.
  pub for-stays : (ss : List (List ℕ)) → Keeps x k ss → (s : List ℕ) → is_for (walk x ss) k s ≡ is_for x k s
  for-stays ss n s =
      let w = (stays x k start ss n).same in
      let t = w.now in
      let u = w.before in
      for-number (told (walk x ss)) (told x) (omega arith) (omega arith) (sym w.download) (place_now (walk x ss) k) (place_now x k) (sym w.number) (heard_of s)

  pub matching-stays : (ss : List (List ℕ)) → Keeps x k ss → (b : ℕ) (s : List ℕ) → matches x k b s ≡ true → HasRoom (walk x ss) → matches (walk x ss) k b s ≡ true
  matching-stays ss n b s e room =
      let w = (stays x k start ss n).same in
      let u = w.before in
      let m = (matching_means (told x) (kept_in x ok (omega arith)).numbers (length x.image) (place_now x k) b u (heard_of s)).0 e in
      (matching ss n b s).1 (
        m.0,
        m.1,
        record {
          same_download = m.2.same_download ∙ w.download;
          its_number = m.2.its_number ∙ w.number;
          announced_version = m.2.announced_version ∙ w.version;
          image_holds = room;
          this_block = m.2.this_block;
          one_of_its = subst (λ (c : ℕ). b < c) (λ i. blocks_of (w.block_size i) (w.size i)) m.2.one_of_its;
          its_length = m.2.its_length ∙ (λ i. block_length_of (w.block_size i) (w.size i) b);
        },
      )

  -- Whichever announcement was in force when a section matched: it is a section of the module as the start announced it.
  pub of_module : (ss : List (List ℕ)) → Keeps x k ss → (b : ℕ) (s : List ℕ) → Matched x k b ss s → OfModule x k b s
  of_module ss n b s m =
      let f = keeps-front x k m.before (s ∷ m.took.rest) (subst (λ (l : List (List ℕ)). Keeps x k l) m.took.whole n) in
      let w = (stays x k start m.before f).same in
      let q = (matching m.before f b s).0 m.matching in
      record {
        block = q.0;
        heard = q.1;
        same_download = q.2.same_download ∙ sym w.download;
        its_number = q.2.its_number ∙ number_at k (told (walk x m.before)).modules w.now;
        announced_version = q.2.announced_version ∙ sym w.version;
        this_block = q.2.this_block;
        one_of_its = subst (λ (c : ℕ). b < c) (sym (λ i. blocks_of (w.block_size i) (w.size i))) q.2.one_of_its;
        its_length = q.2.its_length ∙ sym (λ i. block_length_of (w.block_size i) (w.size i) b);
      }

  -- both runs leave the module as the sections of their one trace, run alone, do
  module _ (ss us : List (List ℕ)) (n : Keeps x k ss) (m : Keeps x k us) (e : trace x k ss ≡ trace x k us) where
    both-alone : Alike (place_now (walk x ss) k) (saying (walk x ss)) (saying (walk x us))
    both-alone =
        let p = (alone x k ok start.announces ss n).1.alike in
        let q = (alone x k ok start.announces us m).1.alike in
        let i = place_now (walk x ss) k in
        let o : walk x (trace x k us) ≡ walk x (trace x k ss) = ap (walk x) (sym e) in
        let g : place_now (walk x us) k ≡ i = ap (λ (a : Announced). place_of a k) (sym q.told ∙ ap (λ (z : Held). told z) o ∙ p.told) in
        alike_trans i _ _ _ p
        (subst (λ (z : Held). Alike i (saying z) (saying (walk x us))) o (alike_sym _ _ _ (subst (λ (j : ℕ). Alike j (saying (walk x us)) (saying (walk x (trace x k us)))) g q)))

    same_place : place_now (walk x us) k ≡ place_now (walk x ss) k
    same_place = ap (λ (a : Announced). place_of a k) both-alone.told

    -- ISOLATION. "If both hold the same data sections for one announced module, in the same order .. provided both runs hold the same new ones, in the same order and at the
    -- same places among that module's sections": one trace. "then that module's answers, its stored bytes and its missing blocks are the same in both, whatever else came."
    pub isolation : (answers_for x k ss ≡ answers_for x k us) × (bytes_in (walk x ss) k ≡ bytes_in (walk x us) k) × (missing_in (walk x ss) k ≡ missing_in (walk x us) k)
    isolation = (
      (alone x k ok start.announces ss n).0 ∙ ap (λ (l : List (List ℕ)). answers_for x k l) e ∙ sym (alone x k ok start.announces us m).0,
      alike-bytes (place_now (walk x ss) k) _ _ both-alone ∙ ap (λ (i : ℕ). module_part (record_of (walk x us).state) (walk x us).image i) (sym same_place),
      alike_missing (place_now (walk x ss) k) _ _ both-alone ∙ ap (λ (i : ℕ). missing_of (record_of (walk x us).state) i) (sym same_place),
    )

    -- and so is what is handed out, and the number of the hand-out
    same_number : handout_number (walk x ss).state (walk x ss).image k ≡ handout_number (walk x us).state (walk x us).image k
    unfolding handout_number
    same_number =
        let c = both-alone in
        let r = (stays x k start ss n).ruled ∙ sym (stays x k start us m).ruled in
        let t = sym c.told in
        λ i. first_met ((1, not (r i)) ∷ (13, meets13 (t i) k) ∷ (15, meets15 (t i) (sym c.long i)) ∷ (20, not (eqb (length (isolation.2 i)) 0)) ∷ [])

    pub isolation-handed_out : (handout_number (walk x ss).state (walk x ss).image k ≡ handout_number (walk x us).state (walk x us).image k)
        × (handed_out (walk x ss).state (walk x ss).image k ≡ handed_out (walk x us).state (walk x us).image k)
    unfolding handed_out
    isolation-handed_out = (same_number, ap₂ (λ (m : ℕ) (l : List ℕ). cond (eqb m 0) l []) same_number isolation.1)

  -- COMPLETENESS. "It is complete exactly when every block of its announced version came in a matching section": in one that was matching when it came
  pub completeness : (ss : List (List ℕ)) → Keeps x k ss → (is_complete (walk x ss) k ≡ true) ↔ ((b : ℕ) → b < blocks x k → Came x k b ss)
  completeness ss n = complete-came x k start ss n

  -- It is then handed out, and only then, where the image holds the sizes together that are now announced: an announcement that keeps the module may add others.
  pub handed_out_lem : (ss : List (List ℕ)) → Keeps x k ss → (handout_number (walk x ss).state (walk x ss).image k ≡ 0) ↔ (HasRoom (walk x ss) × ((b : ℕ) → b < blocks x k → Came x k b ss))
  handed_out_lem ss n = handed-came x k start ss n

  -- CONTENT. "and its bytes are then those blocks' data in block order, each as it first matched"
  pub content : (ss : List (List ℕ)) → Keeps x k ss → is_complete (walk x ss) k ≡ true → bytes_in (walk x ss) k ≡ heard_module x k ss
  content ss n c = complete-bytes x k start ss n c

  -- and these are the bytes that are handed out
  pub content-handed_out : (ss : List (List ℕ)) → Keeps x k ss → handout_number (walk x ss).state (walk x ss).image k ≡ 0 → handed_out (walk x ss).state (walk x ss).image k ≡ heard_module x k ss
  content-handed_out ss n e = handed-bytes x k start ss n e

  -- ORDER. "and if matching repeats agree, order and repeats don't alter its bytes": of two runs that have the same matching sections for the module, order, repeats and
  -- unread bits aside, where the repeats of one agree. Complete or not; and its missing blocks are the same too. The new announcements need not be the same in both:
  -- what matched is each run's own.
  pub order : (ss us : List (List ℕ)) → Keeps x k ss → Keeps x k us → RepeatsAgree x k ss → FoundIn x k ss us → FoundIn x k us ss
      → (bytes_in (walk x ss) k ≡ bytes_in (walk x us) k) × (missing_in (walk x ss) k ≡ missing_in (walk x us) k)
  order ss us n m agree to back = same_content x k start ss us n m agree to back

  -- in particular where the same sections matched in both
  pub order_of-sections : (ss us : List (List ℕ)) → Keeps x k ss → Keeps x k us → RepeatsAgree x k ss → ((b : ℕ) (s : List ℕ) → Matched x k b ss s ↔ Matched x k b us s)
      → (bytes_in (walk x ss) k ≡ bytes_in (walk x us) k) × (missing_in (walk x ss) k ≡ missing_in (walk x us) k)
  order_of-sections ss us n m agree same = order ss us n m agree (λ b s h. (s, (same b s).0 h, refl)) (λ b s h. (s, (same b s).1 h, refl))

-- ONCE MORE, OVER CALLS OF ANY KIND, mixed in any order: `step` and `step_in`, `take`, `run` and `run_in`. What they leave, one after another, is what one-section calls
-- leave over the sections that they took; so each theorem above holds of them. The record may be any, one that breaks its rule too.
pub calls-walk_any : (x : Held) (cs : List Call) → called x cs ≡ walk x (took_by cs)
calls-walk_any x cs = called_walks_any x cs

pub calls-walk : (x : Held) → ruled_of x.state ≡ true → (cs : List Call) → called x cs ≡ walk x (took_by cs)
calls-walk x r cs = calls-walk_any x cs

-- a section that is for an announced module is answered by the step as by the receiver; and both answer "new" to the same sections (Two.antt, `kind-new`)
pub steps-answer : (x : Held) (k : ℕ) (s : List ℕ) → is_for x k s ≡ true → fate_of x s ≡ carousel_fate (stepped_of x.state s x.image).answer
steps-answer x k s e = for_fate x.state s x.image (told x) (place_now x k) e

module _ (x : Held) (k : ℕ) (start : Emptied x k) where
  same-walk : (cs : List Call) → called x cs ≡ walk x (took_by cs)
  same-walk cs = calls-walk_any x cs

  pub isolation_of-calls : (cs ds : List Call) → Keeps x k (took_by cs) → Keeps x k (took_by ds) → trace x k (took_by cs) ≡ trace x k (took_by ds)
      → (answers_for x k (took_by cs) ≡ answers_for x k (took_by ds)) × (bytes_in (called x cs) k ≡ bytes_in (called x ds) k) × (missing_in (called x cs) k ≡ missing_in (called x ds) k)
  isolation_of-calls cs ds n m e = rw (same-walk cs, same-walk ds) (isolation x k start (took_by cs) (took_by ds) n m e)

  pub completeness_of-calls : (cs : List Call) → Keeps x k (took_by cs) → (is_complete (called x cs) k ≡ true) ↔ ((b : ℕ) → b < blocks x k → Came x k b (took_by cs))
  completeness_of-calls cs n = rw (same-walk cs) (completeness x k start (took_by cs) n)

  pub handed_out_of-calls : (cs : List Call) → Keeps x k (took_by cs)
      → (handout_number (called x cs).state (called x cs).image k ≡ 0) ↔ (HasRoom (called x cs) × ((b : ℕ) → b < blocks x k → Came x k b (took_by cs)))
  handed_out_of-calls cs n = rw (same-walk cs) (handed_out_lem x k start (took_by cs) n)

  pub content_of-calls : (cs : List Call) → Keeps x k (took_by cs) → is_complete (called x cs) k ≡ true → bytes_in (called x cs) k ≡ heard_module x k (took_by cs)
  content_of-calls cs n c = rw (same-walk cs) (content x k start (took_by cs) n (rw (same-walk cs) at c))

  pub order_of-calls : (cs ds : List Call) → Keeps x k (took_by cs) → Keeps x k (took_by ds)
      → RepeatsAgree x k (took_by cs) → FoundIn x k (took_by cs) (took_by ds) → FoundIn x k (took_by ds) (took_by cs)
      → (bytes_in (called x cs) k ≡ bytes_in (called x ds) k) × (missing_in (called x cs) k ≡ missing_in (called x ds) k)
  order_of-calls cs ds n m agree to back = rw (same-walk cs, same-walk ds) (order x k start (took_by cs) (took_by ds) n m agree to back)
